-- What a session enters as things happen at its end, turn by turn as rje_session has it (own profile).
use Rattle.std.specs.Prelude.{◌≡◌, ◌⊎◌, ℕ, ◌==◌, Bool, false, ◌&&◌, ◌||◌, List, [], ◌∷◌, ◌++◌, length, slice_get, nat_lt, MatchBool}
use Rattle.std.specs.List.{AllByRecursion}
use Rattle.bsc_link.specs.declared.rank.Rank.{Rank}
use Rattle.rje_jobs.specs.declared.job.Job.{Job}
use Rattle.rje_jobs.specs.Fitting.{JobFits}
use Rattle.rje_station.specs.Station.{Contending}
use Rattle.rje_session.specs.Account.{SettlesRest, ended_of}
use Rattle.rje_session.specs.Keeping.{cutting, keeping, kept_with}
use Rattle.rje_session.specs.Ledger.{Entry, Given, Kept}
use Rattle.rje_session.specs.Turns.{Carried, announcing, goes_out, settling}
use Rattle.connection_world.specs.BothWays.{AtEnd, Own, Crosses, Others, EndWent, IsExchange}
use Rattle.connection_world.specs.Connection.{Says}
use Rattle.day_world.specs.Carried.{IsCarried}
use Rattle.day_world.specs.Passage.{Passage, jobs_of}

-- What it keeps beside its station: whether the job after those counted may have arrived, how many jobs are kept, and what it has entered since the
-- transmission began.
pub record Books : Type 0 where
  pub may_have_come : Bool
  pub kept : ℕ
  pub entered : List Entry

-- as the session has it in hand; whether it was answered, and broke, is no matter of what it enters
abbrev pub in_hand : Contending → Books → Carried
in_hand s b = record { station = s; may_have_come = b.may_have_come; kept = b.kept; answered = false; broken = false }

-- before it speaks: where the last block of a job goes out, that the job may arrive
abbrev pub announced : Contending → Books → Books
announced s b = record b { may_have_come = b.may_have_come || goes_out (in_hand s b); entered = announcing (in_hand s b) ++ b.entered }

-- once it has listened for an answer: where one more job is counted, that it was sent
abbrev pub answered : (before after : Contending) → Books → Books
answered s s' b = record b {
  may_have_come = b.may_have_come && (s.sender.counted == s'.sender.counted);
  entered = settling s.sender.counted s'.sender.counted ++ b.entered;
}

-- once it has heard the other station: where the next job came whole, that it is kept
abbrev pub kept_next : Contending → Books → Books
kept_next s b =
    let next = slice_get s.receiver.jobs b.kept in
    record b { kept = kept_with b.kept next; entered = keeping next ++ b.entered }

-- all of it
abbrev pub books : (rank : Rank) (jobs : List Job) (past : List AtEnd) (s : Contending) → EndWent rank jobs past s → Books
books rank jobs [] s went = record { may_have_come = false; kept = 0; entered = [] }
books rank jobs (Own (Says f) ∷ past) s (before, went, speaks) = announced before (books rank jobs past before went)
books rank jobs (Own _ ∷ past) s (before, went, listens) = answered before s (books rank jobs past before went)
books rank jobs (Crosses c ∷ past) s (before, went, listens) = answered before s (books rank jobs past before went)
books rank jobs (Others e ∷ past) s (before, went, hears) = kept_next s (books rank jobs past before went)

-- a transmission begins with such a ledger: it was just given its jobs, or it has none
abbrev pub BeginsWith : List Job → List Entry → Type 0
BeginsWith jobs ledger = ((earlier : List Entry) × (ledger ≡ Given jobs ∷ earlier)) ⊎ (jobs ≡ [])

-- once the transmission is over: what is left of its jobs is settled by how it ended, and a job that was cut is kept so
pub record Finishes (c : Carried) (before after : List Entry) : Type 0 where
  pub rest : List Entry
  pub settles :
      MatchBool (nat_lt c.station.sender.counted (length c.station.sender.jobs))
      (SettlesRest (ended_of c) c.station.sender.counted (length c.station.sender.jobs) before rest) (rest ≡ before)
  pub cut : after ≡ cutting (slice_get c.station.receiver.jobs c.kept) ++ rest

-- the jobs that are kept as whole by these entries, the oldest first
abbrev pub kept_by : List Entry → List Job
kept_by [] = []
kept_by (Kept job ∷ past) = kept_by past ++ job ∷ []
kept_by (_ ∷ past) = kept_by past

-- At an end the session enters turn by turn what happens, from when its transmission began until it is over: so its own jobs end, and of the other
-- end's these are kept.
pub record Enters (own other : Passage) (rank : Rank) (past : List AtEnd) (s : Contending) (went : EndWent rank (jobs_of own.given) past s) : Type 0 where
  pub begun : List Entry
  pub after : List Entry
  pub begins : BeginsWith (jobs_of own.given) begun
  pub ended : own.ended ≡ ended_of (in_hand s (books rank (jobs_of own.given) past s went))
  pub finishes :
      Finishes (in_hand s (books rank (jobs_of own.given) past s went)) ((books rank (jobs_of own.given) past s went).entered ++ begun) after
  pub kept : other.kept ≡ kept_by (books rank (jobs_of own.given) past s went).entered

-- an exchange of two new stations with jobs that can be sent, at each end of which a session does
pub record IsEntered (up down : Passage) : Type 0 where
  pub near : List AtEnd
  pub far : List AtEnd
  pub p : Contending
  pub s : Contending
  pub exchange : IsExchange (jobs_of up.given) (jobs_of down.given) near far p s
  pub fit_up : AllByRecursion JobFits (jobs_of up.given)
  pub fit_down : AllByRecursion JobFits (jobs_of down.given)
  pub primary : Enters up down Rank.Primary near p exchange.primary
  pub secondary : Enters down up Rank.Secondary far s exchange.secondary

-- then it is carried
abbrev pub CarryWhatIsEntered : Type 0
CarryWhatIsEntered = (up down : Passage) → IsEntered up down → IsCarried up down
