use Rattle.std.proofs.Common.{◌≤◌, ◌<◌, ◌-◌, ℕ, length, get_or}
use Rattle.bsc_frame.specs.Body.{IsNormalText}
use Rattle.bsc_frame.proofs.normal_text.first_bad.Given as goal

-- every byte that was passed is a normal text byte
abbrev pub invariant-loop-piece : goal.invariant-loop-piece
invariant-loop-piece l = (l.passed ≤ length l.text) × ((k : ℕ) → k < l.passed → IsNormalText (get_or l.text k 0))

-- each piece is of bytes that weren't passed yet
abbrev pub decreases-loop-piece : goal.decreases-loop-piece
decreases-loop-piece l = length l.text - l.passed
