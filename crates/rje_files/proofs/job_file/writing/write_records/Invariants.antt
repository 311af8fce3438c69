use Rattle.std.proofs.Common.{◌≡◌, ◌++◌}
use Rattle.std.specs.List.{flat_map, AllByRecursion}
use Rattle.rje_files.specs.JobFile.{records_bytes, record_bytes, HasRoom}
use Rattle.rje_files.proofs.job_file.writing.write_records.Given as goal

abbrev pub invariant-loop-item : goal.invariant-loop-item
invariant-loop-item l = record {
  written : l.out.items ++ flat_map record_bytes l.item-iterator ≡ l.fn.out.items ++ records_bytes l.fn.items;
  fit : AllByRecursion HasRoom l.item-iterator → AllByRecursion HasRoom l.items;
}
