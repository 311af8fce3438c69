use Rattle.std.proofs.Common.{◌≡◌, ◌≤◌, ◌+◌, length}
use Rattle.std.specs.Str.Lines.{lines}
use Rattle.rje_jobs.specs.Deck.{first_fault}
use Rattle.rje_jobs.proofs.deck.count_lines.Given as goal

abbrev pub invariant-loop-line : goal.invariant-loop-line
invariant-loop-line l = record {
  room : l.number + length l.rest ≤ length l.deck;
  faults : first_fault (l.number + 1) (lines l.rest) ≡ first_fault 1 (lines l.deck);
  counted : l.number + length (lines l.rest) ≡ length (lines l.deck);
}

abbrev pub decreases-loop-line : goal.decreases-loop-line
decreases-loop-line l = length l.rest
