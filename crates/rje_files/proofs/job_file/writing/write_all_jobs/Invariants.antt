use Rattle.std.proofs.Common.{◌≡◌, ◌++◌, map, drop}
use Rattle.std.specs.List.{flat_map, AllByRecursion}
use Rattle.rje_files.specs.declared.job_file.version.FileVersion.TheVariants.{First}
use Rattle.rje_files.specs.Entry.{entry_of}
use Rattle.rje_files.specs.JobFile.{file_of, entry_bytes, FitsFields}
use Rattle.rje_files.proofs.job_file.writing.write_all_jobs.Given as goal

abbrev pub invariant-loop-job : goal.invariant-loop-job
invariant-loop-job l = record {
  written : l.out.items ++ flat_map (entry_bytes First) (map entry_of (drop l.job-index l.jobs)) ≡ l.fn.out.items ++ file_of First (map entry_of l.fn.jobs);
  fit : AllByRecursion (FitsFields First) (map entry_of (drop l.job-index l.jobs)) → AllByRecursion (FitsFields First) (map entry_of l.jobs);
}
