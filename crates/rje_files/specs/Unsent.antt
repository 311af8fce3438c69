-- What is left to send of a job file (own profile).
use Rattle.std.specs.Prelude.{◌≡◌, ◌⊎◌, ℕ, zero, suc, ◌+◌, Bool, true, false, not, List, [], ◌∷◌, ◌++◌, length, filter, if◌then◌else◌}
use Rattle.std.specs.List.{All}
use Rattle.rje_jobs.specs.declared.job.Job.{Job}
use Rattle.rje_jobs.specs.declared.file_fault.FileFault.{FileFault}
use Rattle.rje_jobs.specs.Fitting.{JobFits}
use Rattle.rje_files.specs.declared.entry.State.{State}
use Rattle.rje_files.specs.declared.entry.State.TheVariants.{Waiting, Sent, Whole, Cut}
use Rattle.rje_files.specs.declared.entry.Entry.{Entry}
use Rattle.rje_files.specs.declared.job_file.version.FileVersion.TheVariants.{Second}
use Rattle.rje_files.specs.FileFault.{IsFileFault, IsEntryFault}
use Rattle.rje_files.specs.Entry.{jobs_in}
use Rattle.rje_files.specs.JobFile.{HasEntries, IsEntryFile, IsEntryFileOf}

-- a state of a job that was counted as sent
abbrev pub is_sent : State → Bool
is_sent Waiting = false
is_sent Sent = true
is_sent Whole = false
is_sent Cut = false

-- the first n of the entries that are not Sent become Sent, and all else stays
abbrev pub with_sent : ℕ → List Entry → List Entry
with_sent n [] = []
with_sent zero (e ∷ es) = e ∷ es
with_sent (suc n) (e ∷ es) = if is_sent e.state
    then e ∷ with_sent (suc n) es
    else (record e { state = Sent } ∷ with_sent n es)

-- the entries that were not sent
abbrev pub unsent : List Entry → List Entry
unsent entries = filter (λ e. not (is_sent e.state)) entries

-- an entry was sent, or its job can be
abbrev pub CanPass : Entry → Type 0
CanPass e = is_sent e.state ≡ false → JobFits e.job

-- the number, from 1, of the first entry that was not sent and can't be
pub record IsFirstUnsendable (entries : List Entry) (number : ℕ) : Type 0 where
  pub before : List Entry
  pub entry : Entry
  pub after : List Entry
  pub whole : entries ≡ before ++ entry ∷ after
  pub number_is : number ≡ length before + 1
  pub passed : All CanPass before
  pub stops : CanPass entry → ⊥

-- these jobs are those of a file's entries that were not sent, and each of them can be
abbrev pub IsLeft : List ℕ → List Job → Type 0
IsLeft file jobs = (entries : List Entry) × HasEntries entries file × All CanPass entries × (jobs ≡ jobs_in (unsent entries))

-- these bytes are the version 2 file of the same entries as that file's, in which just the first n of those that were not Sent are Sent
abbrev pub IsSentFile : List ℕ → ℕ → List ℕ → Type 0
IsSentFile file n bytes = (entries : List Entry) × HasEntries entries file × IsEntryFileOf Second (with_sent n entries) bytes

-- why there is no such file: the bytes aren't a file, or an entry that is to be made Sent is cut
abbrev pub IsSentFault : List ℕ → ℕ → FileFault → Type 0
IsSentFault file n fault =
    IsFileFault IsEntryFile file fault ⊎ ((entries : List Entry) × HasEntries entries file × IsEntryFault (with_sent n entries) fault)
