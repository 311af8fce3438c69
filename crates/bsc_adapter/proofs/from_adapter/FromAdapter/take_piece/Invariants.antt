use Rattle.std.proofs.Common.{◌≤◌, ◌-◌, ◌++◌, ℕ, List, length, take}
use Rattle.bsc_adapter.specs.Made.{HasMade, Appends}
use Rattle.bsc_adapter.proofs.from_adapter.FromAdapter.take_piece.Given as goal

-- what was made is of the bytes so far
abbrev pub invariant-loop-taken : goal.invariant-loop-taken
invariant-loop-taken g l =
    record {
      within : l.taken ≤ length l.piece;
      goes_on : (taken out : List ℕ) → HasMade l.fn.self taken out → Appends l.self (taken ++ take l.taken l.piece) out l.fn.made.items l.made.items;
    }

abbrev pub decreases-loop-taken : goal.decreases-loop-taken
decreases-loop-taken g l = length l.piece - l.taken
