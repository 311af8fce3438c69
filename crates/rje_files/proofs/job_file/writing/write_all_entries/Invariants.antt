use Rattle.std.proofs.Common.{◌≡◌, ◌++◌, true, drop}
use Rattle.std.specs.List.{flat_map, AllByRecursion}
use Rattle.rje_files.specs.declared.job_file.version.FileVersion.TheVariants.{Second}
use Rattle.rje_files.specs.Entry.{is_entry}
use Rattle.rje_files.specs.JobFile.{file_of, entry_bytes, FitsFields}
use Rattle.rje_files.proofs.job_file.writing.write_all_entries.Given as goal

abbrev pub invariant-loop-entry : goal.invariant-loop-entry
invariant-loop-entry l = record {
  written : l.out.items ++ flat_map (entry_bytes Second) (drop l.entry-index l.entries) ≡ l.fn.out.items ++ file_of Second l.fn.entries;
  fit : AllByRecursion (λ e. is_entry e ≡ true → FitsFields Second e) (drop l.entry-index l.entries) → AllByRecursion (λ e. is_entry e ≡ true → FitsFields Second e) l.entries;
}
