-- What goes each way over an exchange between two sessions: what they were given, entered and kept (own profile).
use Rattle.std.specs.Prelude.{◌≡◌, ℕ, true, List, length, take}
use Rattle.std.specs.List.{AllByRecursion}
use Rattle.bsc_link.specs.declared.rank.Rank.{Rank}
use Rattle.rje_jobs.specs.declared.job.Job.{Job}
use Rattle.rje_jobs.specs.Fitting.{JobFits}
use Rattle.rje_station.specs.Station.{Contending}
use Rattle.rje_session.specs.Account.{IsSettled, ended_of, may_arrive}
use Rattle.rje_session.specs.Keeping.{AreKept}
use Rattle.rje_session.specs.Ledger.{Entry}
use Rattle.rje_session.specs.Turns.{Carried}
use Rattle.connection_world.specs.BothWays.{AtEnd, EndWent, IsExchange}
use Rattle.connection_world.specs.LastBlocks.{HasSaidLast}
use Rattle.day_world.specs.Passage.{IsPassedOn, Passage, jobs_of}

-- At the sending end: the session was given these jobs, counts what the station counts, and settled each job by how its transmission ended; and
-- the last block of a job was said only once it was entered that the job may arrive.
pub record IsBooked (t : Passage) (rank : Rank) (past : List AtEnd) (s : Contending) (went : EndWent rank (jobs_of t.given) past s) : Type 0 where
  pub session : Carried
  pub ledger : List Entry
  pub given : session.station.sender.jobs ≡ jobs_of t.given
  pub counted : session.station.sender.counted ≡ s.sender.counted
  pub ended : t.ended ≡ ended_of session
  pub settled : IsSettled session ledger
  pub entered : (n : ℕ) → HasSaidLast n rank (jobs_of t.given) past s went → may_arrive ledger n ≡ true

-- at the receiving end: of these jobs, which its station hands out, those that came whole were kept
pub record HasKept (kept handed : List Job) : Type 0 where
  pub many : AreKept (length kept) handed
  pub same : kept ≡ take (length kept) handed

-- An exchange of two new stations with jobs that can be sent, and what their sessions made of it. What happens at an end once its line failed, or
-- it couldn't keep a job, is no part of it: then nothing more is said.
pub record IsCarried (up down : Passage) : Type 0 where
  pub near : List AtEnd
  pub far : List AtEnd
  pub p : Contending
  pub s : Contending
  pub exchange : IsExchange (jobs_of up.given) (jobs_of down.given) near far p s
  pub fit_up : AllByRecursion JobFits (jobs_of up.given)
  pub fit_down : AllByRecursion JobFits (jobs_of down.given)
  pub booked_up : IsBooked up Rank.Primary near p exchange.primary
  pub booked_down : IsBooked down Rank.Secondary far s exchange.secondary
  pub kept_up : HasKept up.kept s.receiver.jobs
  pub kept_down : HasKept down.kept p.receiver.jobs

-- so each way of it is passed on
abbrev pub PassOnTheFirstJobs : Type 0
PassOnTheFirstJobs = (up down : Passage) → IsCarried up down → IsPassedOn up × IsPassedOn down
