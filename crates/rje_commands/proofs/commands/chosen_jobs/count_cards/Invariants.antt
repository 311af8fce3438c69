use Rattle.std.proofs.Common.{◌≡◌, ◌+◌, drop}
use Rattle.rje_commands.specs.Chosen.{cards_in}
use Rattle.rje_commands.proofs.commands.chosen_jobs.count_cards.Given as goal

abbrev pub invariant-loop-entry : goal.invariant-loop-entry
invariant-loop-entry l = l.cards + cards_in (drop l.entry-index l.entries) ≡ cards_in l.entries
