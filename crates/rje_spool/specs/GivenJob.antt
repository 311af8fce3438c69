-- Which job of which file of out/ a job of a transmission is.
use Rattle.std.specs.Prelude.{◌≡◌, ℕ, string_bytes}
use Rattle.rje_spool.specs.declared.given_file.GivenFile.{GivenFile}
use Rattle.rje_spool.specs.declared.given_job.GivenJob.{GivenJob}
use Rattle.rje_spool.specs.GivenFiles.{is_last_of, mark_of}

-- the job is of this file: its name and which file it is, where the job is marked in it, and whether it is the last one there
pub record IsGivenJob (job : ℕ) (file : GivenFile) (given : GivenJob) : Type 0 where
  pub name : given.name.now ≡ string_bytes file.name
  pub same : given.file ≡ file.file
  pub mark : given.mark ≡ mark_of job file
  pub last : given.is_last ≡ is_last_of job file
