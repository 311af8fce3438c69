use Rattle.std.proofs.Common.{◌≡◌, ℕ, ◌+◌, ◌≤◌, length}
use Rattle.rje_monitor.specs.Turns.{AreHexLines, IsBadBehind}
use Rattle.rje_monitor.proofs.turns.first_bad_line.Given as goal

abbrev pub invariant-loop-line : goal.invariant-loop-line
invariant-loop-line l = record {
  number : (before : ℕ) × (l.number ≡ before + 1) × ((n : ℕ) → IsBadBehind n l.rest → IsBadBehind (before + n) l.lines);
  good : AreHexLines l.rest → AreHexLines l.lines;
  room : l.number + length l.rest ≤ length l.lines + 1;
}

abbrev pub decreases-loop-line : goal.decreases-loop-line
decreases-loop-line l = length l.rest
