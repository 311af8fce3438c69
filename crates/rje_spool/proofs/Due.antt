-- What was put into its folder is the paper of its job.
use Rattle.std.proofs.Common.{ℕ, List}
use Rattle.rje_folder.specs.FileNames.{IsBetweenFrom}
use Rattle.rje_folder.specs.Folder.{path_in}
use Rattle.rje_jobs.specs.declared.job.Job.{Job}
use Rattle.rje_store.specs.Disk.{Asked}
use Rattle.rje_store.specs.Replacing.{IsOnDisk}
use Rattle.rje_spool.specs.declared.due_paper.DuePaper.{DuePaper}
use Rattle.rje_spool.specs.Paper.{HasPaper, IsPaperOf}

pub paper_is : (station stamp path : List ℕ) (number next : ℕ) (job : Job) (due : DuePaper) (asked : List Asked) → IsPaperOf job due
    → IsBetweenFrom (path_in station due.folder stamp) due.ending.now number next path → IsOnDisk path due.bytes.items asked → HasPaper station stamp number job path asked
paper_is station stamp path number next job due asked (is_folder, is_ending, is_bytes) named on_disk = record {
  next = next;
  named = rw (is_folder, is_ending) at named;
  on_disk = rw is_bytes at on_disk;
}
