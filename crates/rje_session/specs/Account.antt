-- What the ledger tells of the jobs of a transmission in hand: looked back over since the transmission began (own profile).
use Rattle.std.specs.Prelude.{◌≡◌, ℕ, ◌≤◌, ◌<◌, ◌==◌, Bool, true, false, ◌&&◌, List, [], ◌∷◌, ◌++◌, length, Option, Some, None, nat_lt, nat_le, slice_get, if◌then◌else◌}
use Rattle.rje_day.specs.declared.disposition.Disposition.{Disposition}
use Rattle.rje_day.specs.declared.ended.Ended.{Ended}
use Rattle.rje_day.specs.declared.day_event.DayEvent.{DayEvent}
use Rattle.rje_day.specs.Ended.{disposition_of}
use Rattle.rje_station.specs.Station.{is_receiving}
use Rattle.rje_session.specs.declared.leaving.Leaving.{Leaving}
use Rattle.rje_session.specs.Breaking.{heard_end}
use Rattle.rje_session.specs.Keeping.{cutting}
use Rattle.rje_session.specs.Ledger.{Entry, Given, Kept, KeptCut, MayArrive, Settled}
use Rattle.rje_session.specs.Turns.{Carried}

-- this became of a job of the transmission
abbrev pub became : List Entry → ℕ → Option Disposition
became [] job = None
became (Given jobs ∷ past) job = None
became (Settled other what ∷ past) job = if other == job then Some what else became past job
became (MayArrive other ∷ past) job = became past job
became (Kept came ∷ past) job = became past job
became (KeptCut came ∷ past) job = became past job

-- it may have arrived
abbrev pub may_arrive : List Entry → ℕ → Bool
may_arrive [] job = false
may_arrive (Given jobs ∷ past) job = false
may_arrive (MayArrive other ∷ past) job = if other == job then true else may_arrive past job
may_arrive (Settled other what ∷ past) job = may_arrive past job
may_arrive (Kept came ∷ past) job = may_arrive past job
may_arrive (KeptCut came ∷ past) job = may_arrive past job

-- The ledger stands so while a transmission is in hand: the jobs that are counted were sent; nothing became of the others; and of these the
-- next one alone may have arrived, where that is noted.
pub record IsInStep (c : Carried) (ledger : List Entry) : Type 0 where
  pub sent : (job : ℕ) → job < length c.station.sender.jobs → became ledger job ≡ (if nat_lt job c.station.sender.counted then Some Disposition.Sent else None)
  pub out : (job : ℕ) → job < length c.station.sender.jobs → c.station.sender.counted ≤ job → may_arrive ledger job ≡ (c.may_have_come && (c.station.sender.counted == job))

-- how its own transmission ended: in doubt where the next job may have arrived
abbrev pub ended_of : Carried → Ended
ended_of c =
    let counted = c.station.sender.counted in
    if nat_le (length c.station.sender.jobs) counted then Ended.Done else (if c.may_have_come then Ended.InDoubt counted else Ended.Early counted)

-- What became of each of its jobs is entered, once it is over; one that lies ready can't have arrived, and one is in doubt only where it may
-- have.
pub record IsSettled (c : Carried) (ledger : List Entry) : Type 0 where
  pub all : (job : ℕ) → job < length c.station.sender.jobs → became ledger job ≡ Some (disposition_of (ended_of c) job)
  pub ready : (job : ℕ) → job < length c.station.sender.jobs → became ledger job ≡ Some Disposition.Ready → may_arrive ledger job ≡ false
  pub doubt : (job : ℕ) → job < length c.station.sender.jobs → became ledger job ≡ Some Disposition.InDoubt → may_arrive ledger job ≡ true

-- these of the jobs from the first on, up to the last, were settled, by how the transmission ended, and nothing else was
pub record SettlesRest (ended : Ended) (first last : ℕ) (before after : List Entry) : Type 0 where
  pub became_is : (job : ℕ) → became after job ≡ (if nat_le first job && nat_lt job last then Some (disposition_of ended job) else became before job)
  pub out : (job : ℕ) → may_arrive after job ≡ may_arrive before job

-- where the other end's transmission begins, its own is in hand still; each other event ends both
abbrev pub IsAccounted : DayEvent → Carried → List Entry → Type 0
IsAccounted DayEvent.OtherBegan c ledger = IsInStep c ledger
IsAccounted _ c ledger = IsSettled c ledger

-- An event that comes of a transmission in hand. Its own ends as is told, and the other end's begins, only where the other end's isn't in hand;
-- the other end's ends only where it is, and by its EOT. Neither ends so where it broke: then the connection is over.
abbrev pub ComesOf : (before after : Carried) → DayEvent → Type 0
ComesOf c c' (DayEvent.OwnEnded ended) = (is_receiving c.station.contender.place ≡ false) × (ended ≡ ended_of c') × (c'.broken ≡ false)
ComesOf c c' DayEvent.OtherBegan = (is_receiving c.station.contender.place ≡ false) × (is_receiving c'.station.contender.place ≡ true)
ComesOf c c' DayEvent.OtherEnded =
    (is_receiving c.station.contender.place ≡ true) × (heard_end c'.station.receiver.arrival ≡ true) × (c'.broken ≡ false)
ComesOf c c' DayEvent.Disconnected = Unit {0}
ComesOf c c' _ = ⊥

-- Where a line failed, or what came can't be held, the ledger is in step still; where the spool failed, nothing is known of the entry it was
-- about.
abbrev pub UnlessSpoolFailed : {F : Type 0} → Leaving F → Type 0 → Type 0
UnlessSpoolFailed (Leaving.Line fault) P = P
UnlessSpoolFailed Leaving.TooMuch P = P
UnlessSpoolFailed (Leaving.Spool fault) P = Unit {0}

-- what was cut is kept so, as the last entry of a transmission that is over
abbrev pub KeepsCut : DayEvent → Carried → List Entry → Type 0
KeepsCut DayEvent.OtherBegan c ledger = Unit {0}
KeepsCut _ c ledger = (past : List Entry) × (ledger ≡ cutting (slice_get c.station.receiver.jobs c.kept) ++ past)
