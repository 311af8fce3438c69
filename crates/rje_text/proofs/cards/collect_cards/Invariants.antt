use Rattle.std.proofs.Common.{◌≡◌, ◌%◌, ◌/◌, ◌++◌, length}
use Rattle.rje_text.specs.Reading.{cards}
use Rattle.rje_text.proofs.cards.collect_cards.Given as goal

abbrev pub invariant-loop-rest : goal.invariant-loop-rest
invariant-loop-rest l = record {
  whole : length l.rest % 80 ≡ 0;
  joined : l.records ++ cards (length l.rest / 80) l.rest ≡ cards (length l.text / 80) l.text;
}

abbrev pub decreases-loop-rest : goal.decreases-loop-rest
decreases-loop-rest l = length l.rest
