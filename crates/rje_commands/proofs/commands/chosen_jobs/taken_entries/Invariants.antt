use Rattle.std.proofs.Common.{◌≡◌, ◌+◌, ◌++◌, length}
use Rattle.std.specs.Vec.Iter.{into_iter_items, into_iter_len}
use Rattle.rje_commands.specs.Chosen.{taken}
use Rattle.rje_commands.proofs.Chosen.{taken_from}
use Rattle.rje_commands.proofs.commands.chosen_jobs.taken_entries.Given as goal

abbrev pub invariant-loop-entry : goal.invariant-loop-entry
invariant-loop-entry l = record {
  made : l.made.items ++ taken_from l.place l.fn.numbers.text.now (into_iter_items l.entry-iterator) ≡ taken l.fn.numbers.text.now l.fn.entries.items;
  placed : l.place + length (into_iter_items l.entry-iterator) ≡ length l.fn.entries.items;
  long : into_iter_len l.entry-iterator ≡ length (into_iter_items l.entry-iterator);
}
