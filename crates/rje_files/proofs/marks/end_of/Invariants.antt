use Rattle.std.proofs.Common.{◌≡◌, ◌+◌, length}
use Rattle.std.specs.List.{flat_map}
use Rattle.rje_files.specs.declared.job_file.version.FileVersion.TheVariants.{Second}
use Rattle.rje_files.specs.JobFile.{entry_bytes, record_bytes}
use Rattle.rje_files.proofs.marks.end_of.Given as goal

abbrev pub invariant-loop-record : goal.invariant-loop-record
invariant-loop-record l = l.end + length (flat_map record_bytes l.record-iterator) ≡ l.fn.start + length (entry_bytes Second l.fn.entry)
