use Rattle.std.proofs.Common.{◌≡◌, ◌++◌}
use Rattle.std.specs.List.{flat_map, AllByRecursion}
use Rattle.rje_files.specs.JobFile.{records_bytes, record_bytes, HasRoom}
use Rattle.rje_files.proofs.job_file.writing.write_cards.Given as goal

abbrev pub invariant-loop-card : goal.invariant-loop-card
invariant-loop-card l = record {
  written : l.out.items ++ flat_map record_bytes l.card-iterator ≡ l.fn.out.items ++ records_bytes l.fn.cards;
  fit : AllByRecursion HasRoom l.card-iterator → AllByRecursion HasRoom l.fn.cards;
}
