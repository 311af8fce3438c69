-- What is made of a job that came (own profile).
use Rattle.std.specs.Prelude.{◌≡◌, ℕ, List, codes}
use Rattle.rje_text.specs.declared.mode.Mode.{Mode}
use Rattle.rje_text.specs.declared.select.Select.{Select}
use Rattle.rje_folder.specs.declared.folder.Folder.{Folder}
use Rattle.rje_folder.specs.FileNames.{IsBetweenFrom}
use Rattle.rje_folder.specs.Folder.{path_in}
use Rattle.rje_jobs.specs.declared.job.Job.{Job}
use Rattle.rje_jobs.specs.declared.punch.Form.{Form}
use Rattle.rje_jobs.specs.Listing.{listing}
use Rattle.rje_jobs.specs.Punch.{punched}
use Rattle.rje_store.specs.Disk.{Asked}
use Rattle.rje_store.specs.Replacing.{IsOnDisk}
use Rattle.rje_spool.specs.declared.due_paper.DuePaper.{DuePaper}

-- of a job for the punch its cards, as they are where it is transparent; of any other its listing
abbrev pub paper_for : Select → Mode → Job → List ℕ
paper_for Select.Punch Mode.Transparent job = punched Form.Raw job
paper_for Select.Punch Mode.Normal job = punched Form.Ascii job
paper_for _ mode job = listing job

abbrev pub paper : Job → List ℕ
paper job = paper_for job.select job.mode job

-- where it lies, and how its name ends: transparent cards, other cards, or a listing
abbrev pub paper_folder : Select → Folder
paper_folder Select.Punch = Folder.Punch
paper_folder _ = Folder.Print

abbrev pub paper_ending : Select → Mode → List ℕ
paper_ending Select.Punch Mode.Transparent = codes ".cards"
paper_ending Select.Punch Mode.Normal = codes ".deck"
paper_ending _ mode = codes ".txt"

-- what is to be put into its folder is the paper of this job
abbrev pub IsPaperOf : Job → DuePaper → Type 0
IsPaperOf job due = (due.folder ≡ paper_folder job.select) × (due.ending.now ≡ paper_ending job.select job.mode) × (due.bytes.items ≡ paper job)

-- the job has its paper: the file of this path, which has its name from this time and a number from this one on, has just that; it is on disk, and so is its name
pub record HasPaper (station stamp : List ℕ) (number : ℕ) (job : Job) (path : List ℕ) (after : List Asked) : Type 0 where
  pub next : ℕ
  pub named : IsBetweenFrom (path_in station (paper_folder job.select) stamp) (paper_ending job.select job.mode) number next path
  pub on_disk : IsOnDisk path (paper job) after
