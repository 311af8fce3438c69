use Rattle.std.proofs.Common.{length}
use Rattle.rje_files.specs.declared.job_file.version.FileVersion.TheVariants.{Second}
use Rattle.rje_files.specs.JobFile.{IsEntryFile}
use Rattle.rje_files.proofs.Grammar.{file_there}
use Rattle.rje_files.proofs.Longest.{whole_file}
use Rattle.rje_files.proofs.job_file.read_entry_jobs.Goals as goal

pub collect_jobs-requires : goal.collect_jobs-requires
collect_jobs-requires c = file_there Second c.args.bytes.now c.in-None.ensures.file

pub returns-in-Err-clause-told : goal.returns-in-Err-clause-told
returns-in-Err-clause-told c = (length c.args.bytes.now, whole_file IsEntryFile c.args.bytes.now c.in-None.ensures.file, c.in-None.ensures.file)
