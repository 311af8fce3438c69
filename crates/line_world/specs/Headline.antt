-- The headline: whatever the line loses or damages, records are handed out in order and each once, and the jobs that count as sent are
-- handed out whole. Own profile.
use Rattle.std.specs.Prelude.{◌≡◌, ◌⊎◌, ℕ, ◌+◌, ◌≤◌, true, false, List, [], ◌∷◌, ◌++◌, length, take, drop, slice_get, Option, Some}
use Rattle.std.specs.List.{AllByRecursion, flat_map}
use Rattle.bsc_link.specs.declared.outcome.Outcome.{Outcome}
use Rattle.rje_text.specs.declared.record.Record.{Record}
use Rattle.rje_jobs.specs.declared.job.Job.{Job}
use Rattle.rje_jobs.specs.Fitting.{JobFits}
use Rattle.line_world.specs.declared.spoken.Spoken.{Spoken}
use Rattle.line_world.specs.declared.turn.Turn.{Turn}
use Rattle.rje_jobs.specs.Blocks.{blocks}
use Rattle.rje_jobs.specs.Joined.{joined}
use Rattle.rje_station.specs.Sending.{ended_by}
use Rattle.bsc_history.specs.History.{History}
use Rattle.bsc_history.specs.Known.{known}
use Rattle.bsc_history.specs.Got.{got}
use Rattle.bsc_history.specs.Conversation.{MayBeSpoken}
use Rattle.line_world.specs.Plan.{plan_of, numbered}
use Rattle.line_world.specs.Run.{IsRun}

-- the records of these jobs, in order
abbrev pub records_of : List Job → List Record
records_of jobs = flat_map (λ job. job.records) jobs

-- these records are the first of those: the same, in order and each once, as far as they go
abbrev pub IsPrefixOf : List Record → List Record → Type 0
IsPrefixOf records all = (rest : List Record) × (records ++ rest ≡ all)

-- IN ORDER AND EACH ONCE

-- the records handed out are a prefix of those given
abbrev pub AreHandedInOrder : List Job → List Job → Type 0
AreHandedInOrder given handed = IsPrefixOf (records_of handed) (records_of given)

-- EVERY COUNTED JOB WHOLE

-- the first jobs, as many as are counted, were handed out as they were given, selection and mode included, and whole
pub record AreHandedWhole (counted : ℕ) (given handed : List Job) : Type 0 where
  pub within : counted ≤ length given
  pub same : take counted handed ≡ take counted given
  pub whole : AllByRecursion (λ job. job.whole ≡ true) (take counted handed)

-- MORE EXACTLY

-- a beginning of the job: its selection and mode and the first of its records, told as a job that isn't whole
pub record IsBeginningOf (job cut : Job) : Type 0 where
  pub left : cut.whole ≡ false
  pub select : cut.select ≡ job.select
  pub mode : cut.mode ≡ job.mode
  pub records : IsPrefixOf cut.records job.records

-- nothing, or a beginning of the next job
abbrev pub IsBegun : Option Job → List Job → Type 0
IsBegun next rest = (rest ≡ []) ⊎ ((job : Job) × (next ≡ Some job) × ((cut : Job) × (rest ≡ cut ∷ []) × IsBeginningOf job cut))

-- the first w of the jobs given are handed out as they are, and after them nothing, or a beginning of the next one
pub record HandsFirst (w : ℕ) (given handed : List Job) : Type 0 where
  pub within : w ≤ length given
  pub first : take w handed ≡ take w given
  pub after : IsBegun (slice_get given w) (drop w handed)

-- as many jobs as are counted, or one more
abbrev pub HandsFirstJobs : ℕ → List Job → List Job → Type 0
HandsFirstJobs counted given handed = (w : ℕ) × ((w ≡ counted) ⊎ (w ≡ counted + 1)) × HandsFirst w given handed

-- WHAT HOLDS OF HISTORIES AND RUNS

-- of every history of the law of agreement, over jobs that can be sent: so many are counted, and these handed out
abbrev pub OfHistories : (ℕ → List Job → List Job → Type 0) → Type 0
OfHistories Holds =
    (jobs : List Job) (h : History) → AllByRecursion JobFits jobs → MayBeSpoken (plan_of (blocks jobs)) h
    → Holds (ended_by (take (known h) (blocks jobs))) jobs (joined (numbered (blocks jobs) (got h)))

-- of a run of jobs that can be sent
abbrev pub OfRuns : (ℕ → List Job → List Job → Type 0) → Type 0
OfRuns Holds =
    (jobs : List Job) (turns : List Turn) (spoken : List Spoken) (handed : List Job) (counted : ℕ) (ending : Option Outcome)
    → AllByRecursion JobFits jobs → IsRun jobs turns spoken handed counted ending → Holds counted jobs handed
