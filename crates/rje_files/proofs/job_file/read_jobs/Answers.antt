use Rattle.std.proofs.Common.{rules, ◌≡◌, length}
use Rattle.rje_files.specs.declared.job_file.version.FileVersion.TheVariants.{First}
use Rattle.rje_files.specs.JobFile.{IsJobFile}
use Rattle.rje_files.proofs.Grammar.{file_there}
use Rattle.rje_files.proofs.Collected.{jobs_of_first}
use Rattle.rje_files.proofs.Longest.{whole_file}
use Rattle.rje_files.proofs.job_file.read_jobs.Goals as goal

pub collect_jobs-requires : goal.collect_jobs-requires
collect_jobs-requires c = file_there First c.args.bytes.now c.in-None.ensures.file

pub returns-in-Err-clause-told : goal.returns-in-Err-clause-told
returns-in-Err-clause-told c = (length c.args.bytes.now, whole_file IsJobFile c.args.bytes.now c.in-None.ensures.file, c.in-None.ensures.file)

pub returns-in-Ok-clause-file : goal.returns-in-Ok-clause-file
returns-in-Ok-clause-file c =
    let given : c.from.result ≡ c.in-Ok.jobs.items = search rules in
    rw given (jobs_of_first c.in-Ok.jobs.items c.args.bytes.now c.in-Ok.ensures)
