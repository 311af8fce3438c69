-- What is entered of the jobs of a spool: its ledger (own profile). A job of a transmission goes by its number there, from 0.
use Rattle.std.specs.Prelude.{◌≡◌, ◌⊎◌, ℕ, List, ◌∷◌, Result, Ok, Err}
use Rattle.rje_day.specs.declared.disposition.Disposition.{Disposition}
use Rattle.rje_jobs.specs.declared.job.Job.{Job}

-- one entry
pub data Entry : Type 0 where
  -- a transmission begins: it is given these jobs
  Given : (jobs : List Job) → Entry
  -- from now on this job may have arrived, as its last block goes out
  MayArrive : (job : ℕ) → Entry
  -- this became of it
  Settled : (job : ℕ) → (what : Disposition) → Entry
  -- a job that came whole is kept
  Kept : (job : Job) → Entry
  -- one that was cut when its transmission ended is kept so
  KeptCut : (job : Job) → Entry

-- it may be entered
abbrev pub MayBeEntered : Entry → (before after : List Entry) → Type 0
MayBeEntered entry before after = (after ≡ before) ⊎ (after ≡ entry ∷ before)

-- a call made this entry, the newest; one that failed may have made it
abbrev pub IsEntered : {A F : Type 0} → Result A F → Entry → (before after : List Entry) → Type 0
IsEntered (Ok _) entry before after = after ≡ entry ∷ before
IsEntered (Err _) entry before after = MayBeEntered entry before after
