-- Which jobs the transmissions of a day are given (own profile). A job is known by its name; the newest occurrence stands first.
use Rattle.std.specs.Prelude.{◌≡◌, ◌⊎◌, ℕ, List, [], ◌∷◌, slice_get, Some}
use Rattle.rje_day.specs.declared.disposition.Disposition.{Disposition}
use Rattle.rje_day.specs.declared.ended.Ended.{Ended}
use Rattle.rje_day.specs.Ended.{disposition_of}

abbrev pub Name : Type 0
Name = List ℕ

-- one of the station's own transmissions: the jobs that it was given, in order, and how it ended
pub record Transmission : Type 0 where
  pub jobs : List Name
  pub ended : Ended

-- the transmission was given the job
abbrev pub IsGiven : Name → Transmission → Type 0
IsGiven name t = (k : ℕ) × (slice_get t.jobs k ≡ Some name)

-- it was, and this became of it
abbrev pub Becomes : Disposition → Name → Transmission → Type 0
Becomes what name t = (k : ℕ) × (slice_get t.jobs k ≡ Some name) × (disposition_of t.ended k ≡ what)

-- a job is put out to be sent, or a transmission has ended
pub data Occurrence : Type 0 where
  PutOut : (name : Name) → Occurrence
  Transmitted : (transmission : Transmission) → Occurrence

-- the job was put out
abbrev pub WasPutOut : List Occurrence → Name → Type 0
WasPutOut [] name = ⊥
WasPutOut (PutOut other ∷ past) name = (other ≡ name) ⊎ WasPutOut past name
WasPutOut (Transmitted t ∷ past) name = WasPutOut past name

-- a transmission was given the job
abbrev pub WasGiven : List Occurrence → Name → Type 0
WasGiven [] name = ⊥
WasGiven (PutOut other ∷ past) name = WasGiven past name
WasGiven (Transmitted t ∷ past) name = IsGiven name t ⊎ WasGiven past name

-- the job lies ready: it was put out, and each transmission that was given it left it so
abbrev pub LiesReady : List Occurrence → Name → Type 0
LiesReady [] name = ⊥
LiesReady (PutOut other ∷ past) name = (other ≡ name) ⊎ LiesReady past name
LiesReady (Transmitted t ∷ past) name =
    LiesReady past name × ((what : Disposition) → Becomes what name t → what ≡ Disposition.Ready)

-- each job is put out once, and a transmission is given what lies ready alone
abbrev pub MayOccur : Occurrence → List Occurrence → Type 0
MayOccur (PutOut name) past = WasPutOut past name → ⊥
MayOccur (Transmitted t) past = (name : Name) → IsGiven name t → LiesReady past name

abbrev pub AllMayOccur : List Occurrence → Type 0
AllMayOccur [] = Unit {0}
AllMayOccur (o ∷ past) = MayOccur o past × AllMayOccur past
