-- What a receiver has in its file of the jobs of a transmission while they come (own profile); no promise rests on it.
use Rattle.rje_store.specs.Store.{Discloses, FileMap, IsSame, Sets}
use Rattle.rje_files.specs.declared.entry.Entry.{Entry}
use Rattle.rje_files.specs.JobFile.{IsEntryFileOf}
use Rattle.rje_jobs.specs.declared.job.Job.{Job}
use Rattle.std.specs.Prelude.{List, Option, length, map, ℕ, take, ⊤, None, Some, ◌≡◌, ◌+◌, ◌≤◌, ◌++◌, ◌∷◌, [], if◌then◌else◌}
use Rattle.rje_files.specs.declared.job_file.version.FileVersion.TheVariants.{Second}
use Rattle.rje_files.specs.Entry.{entry_of}
use Rattle.rje_store.specs.declared.store.WriteMode.TheVariants.{Growing, Once}
use Rattle.rje_sockets.specs.declared.job_writer.JobWriter.{JobWriter}
use Rattle.rje_sockets.specs.Answering.{whole_in_front}
use Rattle.rje_sockets.specs.Inside.Opening.{IsOpened}
use Rattle.rje_sockets.specs.declared.transfer_error.TransferError.{TransferError}
use Rattle.rje_store.specs.declared.store.WriteMode.{WriteMode}
use Rattle.std.specs.List.{slice_get}

-- where there are some, the file of this name became the version 2 file of the entries in front and these jobs, which has so many bytes, and no
-- other file changed; where there are none, no file changed
abbrev pub AreKept : (front : List Entry) → List Job → (long : ℕ) → (name : List ℕ) → (files made : Option FileMap) → Type 0
AreKept front [] long name files made = Discloses files made IsSame
AreKept front (job ∷ jobs) long name files made =
    (bytes : List ℕ) × IsEntryFileOf Second (front ++ map entry_of (job ∷ jobs)) bytes × (length bytes ≡ long) × (long ≤ 16777216) × Discloses files made (Sets name bytes)

-- What a keeper has kept of these jobs since the files were these, after the entries in front: some of the first that have come whole, and in a
-- file that grows all of these. But for the last one all jobs have come whole.
pub record KeepsJobs (keeper : JobWriter) (jobs : List Job) (files made : Option FileMap) : Type 0 where
  pub front : List Entry
  pub opened : IsOpened front keeper.file files
  pub few : keeper.kept ≤ whole_in_front jobs
  pub all : keeper.file.place ≡ Growing → keeper.kept ≡ whole_in_front jobs
  pub cut : length jobs ≤ whole_in_front jobs + 1
  pub kept : AreKept front (take keeper.kept jobs) keeper.long keeper.file.into.jobs.now files made

-- a keeper of the same file went on to keep what it had kept, and what came since
abbrev pub GoesOnKeeping : (old new : JobWriter) → (jobs more : List Job) → (before after : Option FileMap) → Type 0
GoesOnKeeping old new jobs more before after =
    (new.file ≡ old.file) × ((files : Option FileMap) → KeepsJobs old jobs files before → KeepsJobs new more files after)

-- a job couldn't be kept
abbrev pub IsOfFile : TransferError → Type 0
IsOfFile (TransferError.Line fault) = ⊥
IsOfFile (TransferError.File fault) = ⊤

-- how many jobs are kept after a hearing: in a file that grows one more, where the next has come to its end
abbrev pub kept_after : WriteMode → ℕ → List Job → ℕ
kept_after Growing kept jobs = elim (slice_get jobs kept) [ Some job ↦ (if job.whole then kept + 1 else kept) | None ↦ kept ]
kept_after Once kept jobs = kept
