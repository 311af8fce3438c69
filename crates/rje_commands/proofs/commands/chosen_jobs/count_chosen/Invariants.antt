use Rattle.std.proofs.Common.{◌≡◌, ◌+◌, ◌≤◌, drop, length}
use Rattle.rje_commands.specs.Chosen.{chosen, chosen_from}
use Rattle.rje_commands.proofs.commands.chosen_jobs.count_chosen.Given as goal

abbrev pub invariant-loop-place : goal.invariant-loop-place
invariant-loop-place l = record {
  few : l.count ≤ l.place;
  counted : l.count + length (chosen_from l.place l.numbers.text.now (drop l.place l.entries)) ≡ length (chosen l.numbers.text.now l.entries);
}
