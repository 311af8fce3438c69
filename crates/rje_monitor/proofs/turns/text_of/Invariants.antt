use Rattle.std.proofs.Common.{List, ℕ, ◌+◌, ◌≤◌, ◌++◌, length}
use Rattle.rje_monitor.specs.Turns.{AreHexLines, AreLinesOf, AreTurnLines, IsTurnsText}
use Rattle.rje_monitor.proofs.turns.text_of.Given as goal

abbrev pub invariant-loop-line : goal.invariant-loop-line
invariant-loop-line l = record {
  on : (turns : List (List ℕ)) (more : List ℕ) → AreLinesOf turns l.rest → AreTurnLines l.number l.so_far turns more → IsTurnsText l.lines (l.text.items ++ more);
  good : AreHexLines l.rest;
  room : l.number + length l.rest ≤ length l.lines + 1;
}

abbrev pub decreases-loop-line : goal.decreases-loop-line
decreases-loop-line l = length l.rest
