-- A day of two stations, exchange after exchange: what is kept over all of it, each way (own profile). The newest stands first.
use Rattle.std.specs.Prelude.{◌≡◌, ◌⊎◌, Bool, true, false, List, [], ◌∷◌, ◌++◌, if◌then◌else◌}
use Rattle.std.specs.List.{AllByRecursion}
use Rattle.bsc_link.specs.declared.rank.Rank.{Rank}
use Rattle.rje_day.specs.Giving.{AllMayOccur, LiesReady, Name, Occurrence, Transmitted}
use Rattle.rje_day.specs.Giving.{PutOut as IsPutOut}
use Rattle.rje_jobs.specs.declared.job.Job.{Job}
use Rattle.day_world.specs.Carried.{IsCarried}
use Rattle.day_world.specs.Passage.{ComesThrough, LeavesOneInDoubt, Named, Passage, came, jobs_of, names_of, sent, transmission_of}

-- ---- What happens.

pub data Happening : Type 0 where
  -- a job is put out to be sent, by the station of this rank
  PutOut : (by : Rank) → (name : Name) → Happening
  -- an exchange is over, of what went up, from the primary to the secondary, and of what went down
  Exchanged : (up down : Passage) → Happening

-- what the station of this rank sent
abbrev pub sent_by : Rank → (up down : Passage) → Passage
sent_by Rank.Primary up down = up
sent_by Rank.Secondary up down = down

abbrev pub is_same : Rank → Rank → Bool
is_same Rank.Primary Rank.Primary = true
is_same Rank.Secondary Rank.Secondary = true
is_same _ _ = false

-- all that it sent
abbrev pub passages : Rank → List Happening → List Passage
passages rank [] = []
passages rank (PutOut by name ∷ past) = passages rank past
passages rank (Exchanged up down ∷ past) = sent_by rank up down ∷ passages rank past

-- what its folder went through
abbrev pub occurrences : Rank → List Happening → List Occurrence
occurrences rank [] = []
occurrences rank (PutOut by name ∷ past) = if is_same rank by then IsPutOut name ∷ occurrences rank past else occurrences rank past
occurrences rank (Exchanged up down ∷ past) = Transmitted (transmission_of (sent_by rank up down)) ∷ occurrences rank past

-- ---- What is kept.

-- the jobs that the other end kept over the day, the oldest first
abbrev pub kept_in : List Passage → List Job
kept_in [] = []
kept_in (t ∷ past) = kept_in past ++ t.kept

-- those that came
abbrev pub came_in : List Passage → List Named
came_in [] = []
came_in (t ∷ past) = came_in past ++ came t

-- those that were sent
abbrev pub sent_in : List Passage → List Named
sent_in [] = []
sent_in (t ∷ past) = sent_in past ++ sent t

-- these are among all those, in order and each at a place of its own: the first of them is the first of those and the others are among the rest,
-- or all of them are among the rest
abbrev pub AreAmong : List Named → List Named → Type 0
AreAmong [] all = Unit {0}
AreAmong (g ∷ more) [] = ⊥
AreAmong (g ∷ more) (h ∷ all) = ((g ≡ h) × AreAmong more all) ⊎ AreAmong (g ∷ more) all

-- the name is one of these
abbrev pub IsAmong : Name → List Name → Type 0
IsAmong name [] = ⊥
IsAmong name (n ∷ names) = (n ≡ name) ⊎ IsAmong name names

-- each of these names stands there once
abbrev pub IsEachOnce : List Name → Type 0
IsEachOnce [] = Unit {0}
IsEachOnce (n ∷ names) = (IsAmong n names → ⊥) × IsEachOnce names

-- ---- A day.

-- each exchange was carried
abbrev pub AllCarried : List Happening → Type 0
AllCarried [] = Unit {0}
AllCarried (PutOut by name ∷ past) = AllCarried past
AllCarried (Exchanged up down ∷ past) = IsCarried up down × AllCarried past

-- Each exchange was carried; at either station each job is put out once, and each transmission is given only what lies ready, each once.
pub record IsDay (day : List Happening) : Type 0 where
  pub carried : AllCarried day
  pub ready : (rank : Rank) → AllMayOccur (occurrences rank day)
  pub once : (rank : Rank) → AllByRecursion (λ t. IsEachOnce (names_of t.given)) (passages rank day)

-- this holds each way of every day: of what a station sent, and of what its folder went through
abbrev pub OverDays : (List Passage → List Occurrence → Type 0) → Type 0
OverDays Holds = (day : List Happening) (rank : Rank) → IsDay day → Holds (passages rank day) (occurrences rank day)

-- what is kept is, in order, just what came
abbrev pub KeepsWhatCame : List Passage → List Occurrence → Type 0
KeepsWhatCame passed occurred = kept_in passed ≡ jobs_of (came_in passed)

-- each job that was sent came, in the order of the day and each at a place of its own
abbrev pub BringsWhatWasSent : List Passage → List Occurrence → Type 0
BringsWhatWasSent passed occurred = AreAmong (sent_in passed) (came_in passed)

-- and of each transmission nothing else came but a job that is in doubt, behind those that were sent
abbrev pub BringsNoOther : List Passage → List Occurrence → Type 0
BringsNoOther passed occurred = AllByRecursion ComesThrough passed

-- no job comes twice
abbrev pub BringsEachOnce : List Passage → List Occurrence → Type 0
BringsEachOnce passed occurred = IsEachOnce (names_of (came_in passed))

-- a job that lies ready hasn't come
abbrev pub BringsNoneReady : List Passage → List Occurrence → Type 0
BringsNoneReady passed occurred = (name : Name) → LiesReady occurred name → IsAmong name (names_of (came_in passed)) → ⊥

-- of each transmission at most one job is in doubt, and only where it ended so
abbrev pub LeavesFewInDoubt : List Passage → List Occurrence → Type 0
LeavesFewInDoubt passed occurred = AllByRecursion LeavesOneInDoubt passed
