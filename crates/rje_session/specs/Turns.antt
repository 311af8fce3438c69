-- What a turn of a transmission in hand enters, and how one is left (own profile). What a station says, hears and replies in its turns is said in
-- specs/Stations.antt.
use Rattle.std.specs.Prelude.{◌≡◌, ◌≢◌, ◌⊎◌, ℕ, ◌==◌, Bool, true, false, not, ◌&&◌, ◌||◌, List, [], ◌∷◌, ◌++◌, Option, Some, MatchBool, if◌then◌else◌}
use Rattle.bsc_frame.specs.declared.heard.Heard.{Heard}
use Rattle.bsc_link.specs.declared.say.Say.{Say}
use Rattle.bsc_link.specs.declared.sound.Sound.{Sound}
use Rattle.bsc_link.specs.declared.wish.Wish.{Wish}
use Rattle.rje_day.specs.declared.disposition.Disposition.{Disposition}
use Rattle.rje_jobs.specs.declared.job.Job.{Job}
use Rattle.rje_station.specs.JoinedJobs.{begun_in}
use Rattle.rje_station.specs.Receiving.{MayRefuse}
use Rattle.rje_station.specs.Sending.{outcome_of}
use Rattle.rje_station.specs.Station.{Contending, due_at, after_other, after_other_ended, after_other_refusal}
use Rattle.rje_session.specs.Breaking.{breaks, is_answer}
use Rattle.rje_session.specs.Stations.{FailsInOwn, TakesOwn}
use Rattle.rje_session.specs.declared.leaving.Leaving.{Leaving}
use Rattle.rje_session.specs.Keeping.{keeping}
use Rattle.rje_session.specs.Ledger.{Entry, Kept, MayArrive, MayBeEntered, Settled}
use Rattle.rje_session.specs.Outstanding.{ends_with}

-- a transmission in hand
pub record Carried : Type 0 where
  pub station : Contending
  -- the job after those that are counted may have arrived: that is entered
  pub may_have_come : Bool
  -- so many of the jobs that came are kept
  pub kept : ℕ
  -- something that it said was answered
  pub answered : Bool
  -- it broke: something that it said wasn't, or it gave up after its bid was granted
  pub broken : Bool

-- ---- Its own turn.

-- the outstanding block is said, or asked about
abbrev pub is_of_block : Say → Bool
is_of_block Say.Block = true
is_of_block Say.Again = true
is_of_block Say.Ask = true
is_of_block _ = false

-- the last block of a job goes out next, and it isn't entered yet that the job may arrive
abbrev pub goes_out : Carried → Bool
goes_out c = not c.may_have_come && (is_of_block (due_at c.station) && ends_with c.station.sender.rest)

-- what is entered before anything is said
abbrev pub announcing : Carried → List Entry
announcing c = if goes_out c then MayArrive c.station.sender.counted ∷ [] else []

-- what is entered once the answer is heard: where one more job is counted, that it was sent
abbrev pub settling : (before after : ℕ) → List Entry
settling before after = if before == after then [] else Settled before Disposition.Sent ∷ []

-- it may have come where that is entered, until it is counted
abbrev pub may_come_after : Carried → Contending → Bool
may_come_after c s = (c.may_have_come || goes_out c) && (c.station.sender.counted == s.sender.counted)

-- what is noted of its own turn
pub record Notes (host : Bool) (c c' : Carried) (heard : Sound) : Type 0 where
  pub answered : c'.answered ≡ (c.answered || is_answer (due_at c.station) heard)
  pub broken : c'.broken ≡ (c.broken || breaks host (due_at c.station) heard (outcome_of c'.station.sender))

-- Why its own turn was left. The line failed as it spoke or as it listened. Or the spool did: before anything was said, and then nothing was;
-- or after a job was counted.
abbrev pub LeavesOwn : {F : Type 0} → (unsaid : Type 0) → Carried → Carried → Leaving F → Type 0
LeavesOwn unsaid c c' (Leaving.Line fault) = FailsInOwn c.station c'.station fault × (c'.may_have_come ≡ (c.may_have_come || goes_out c))
LeavesOwn unsaid c c' (Leaving.Spool fault) =
    (unsaid × (c' ≡ c)) ⊎ ((said : Say) × (heard : Sound) × TakesOwn c.station c'.station said heard × (c.station.sender.counted ≢ c'.station.sender.counted))
LeavesOwn unsaid c c' Leaving.TooMuch = ⊥

-- what is entered then
abbrev pub EntersLeavingOwn : {F : Type 0} → Carried → Carried → (before after : List Entry) → Leaving F → Type 0
EntersLeavingOwn c c' before after (Leaving.Line fault) = after ≡ announcing c ++ before
EntersLeavingOwn c c' before after (Leaving.Spool fault) =
    let counted = c.station.sender.counted in
    MatchBool (counted == c'.station.sender.counted) (MayBeEntered (MayArrive counted) before after)
    (MayBeEntered (Settled counted Disposition.Sent) (announcing c ++ before) after)
EntersLeavingOwn c c' before after Leaving.TooMuch = ⊥

-- ---- The other's turn.

-- it heard something, and left without a reply
abbrev pub LeavesUnanswered : (unsaid : Type 0) → Carried → Carried → Type 0
LeavesUnanswered unsaid c c' =
    unsaid
    × ((what : Heard) × (refused : Bool) × MayRefuse what (begun_in c.station.receiver.jobs) refused
    × (c'.station ≡ after_other_ended (after_other c.station what refused Wish.Go)))

-- Why the other's turn was left. The line failed, as the station listened or as it replied. Or what came couldn't be held, or a job not be kept,
-- and nothing was replied.
abbrev pub LeavesOthers : {F : Type 0} → (unsaid : Type 0) → Carried → Carried → Leaving F → Type 0
LeavesOthers unsaid c c' (Leaving.Line fault) =
    (c'.station ≡ after_other_refusal fault c.station)
    ⊎ ((what : Heard) × (refused : Bool) × MayRefuse what (begun_in c.station.receiver.jobs) refused
    × (c'.station ≡ after_other_refusal fault (after_other c.station what refused Wish.Go)))
LeavesOthers unsaid c c' (Leaving.Spool fault) = LeavesUnanswered unsaid c c'
LeavesOthers unsaid c c' Leaving.TooMuch = LeavesUnanswered unsaid c c'

-- What is entered then. Where a reply was begun, a job that came whole was kept before; where one couldn't be kept, it may be entered; where
-- what came couldn't be held, nothing is.
abbrev pub EntersLeavingOthers : {F : Type 0} → (unsaid : Type 0) → (next : Option Job) → (before after : List Entry) → Leaving F → Type 0
EntersLeavingOthers unsaid next before after (Leaving.Line fault) = (unsaid × (after ≡ before)) ⊎ (after ≡ keeping next ++ before)
EntersLeavingOthers unsaid next before after (Leaving.Spool fault) = (job : Job) × (next ≡ Some job) × (job.whole ≡ true) × MayBeEntered (Kept job) before after
EntersLeavingOthers unsaid next before after Leaving.TooMuch = after ≡ before
