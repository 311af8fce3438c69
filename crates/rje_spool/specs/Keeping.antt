-- How a job that came is kept (own profile).
use Rattle.std.specs.Prelude.{ℕ, List, [], ◌∷◌, codes}
use Rattle.rje_files.specs.declared.job_file.version.FileVersion.TheVariants.{Second}
use Rattle.rje_files.specs.Entry.{entry_of}
use Rattle.rje_files.specs.JobFile.{IsEntryFileOf}
use Rattle.rje_folder.specs.declared.folder.Folder.{Folder}
use Rattle.rje_folder.specs.FileNames.{IsBetween}
use Rattle.rje_folder.specs.Folder.{path_in}
use Rattle.rje_jobs.specs.declared.job.Job.{Job}
use Rattle.rje_store.specs.Disk.{Asked}
use Rattle.rje_store.specs.Replacing.{IsOnDisk}

-- the job is in a folder of the station: the file of this path there, which has its name from a time and a number, is the job file of this job alone;
-- it is on disk, and so is its name
pub record IsKeptIn (station : List ℕ) (folder : Folder) (job : Job) (path : List ℕ) (after : List Asked) : Type 0 where
  pub stamp : List ℕ
  pub named : IsBetween (path_in station folder stamp) (codes ".job") path
  pub bytes : List ℕ
  pub file : IsEntryFileOf Second (entry_of job ∷ []) bytes
  pub on_disk : IsOnDisk path bytes after
