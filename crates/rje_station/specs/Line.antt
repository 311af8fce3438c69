-- What a line means (own profile).
use Rattle.std.specs.Prelude.{◌≡◌, ◌<◌, ◌≤◌, ◌^◌, ◌+◌, ◌-◌, ℕ, List, [], ◌++◌, min, take, Option, Some, None, ⊤}
use Rattle.rje_station.specs.declared.came.Came.{Came}
use Rattle.rje_station.specs.declared.came.Came.TheVariants.{Bytes, Quiet}
use Rattle.rje_station.specs.declared.line_fault.LineFault.{LineFault}

-- the bytes of the last transmission, and those that come before the next Quiet
pub record Talk : Type 0 where
  pub sent : List ℕ
  pub coming : List ℕ

-- on a line that discloses its bytes P holds of what it discloses before and after, and it goes on disclosing them
abbrev pub Passes : Option Talk → Option Talk → (Talk → Talk → Type 0) → Type 0
Passes None new P = ⊤
Passes (Some t) None P = ⊥
Passes (Some t) (Some u) P = P t u

-- the number of failures rose; nothing is said where it is as great as can be
abbrev pub Rose : ℕ → ℕ → Type 0
Rose before after = before < 2 ^ 64 - 1 → before < after

-- one transmission more; the number stays where it is as great as can be
abbrev pub one_more : ℕ → ℕ
one_more n = min (n + 1) (2 ^ 64 - 1)

-- what may fail after some calls might have failed before them, that many calls later
abbrev pub Ages : (ℕ → ℕ → Type 0) → (ℕ → ℕ → Type 0) → Type 0
Ages before after = (bytes calls : ℕ) → after bytes calls → (done : ℕ) × before bytes (done + calls)

-- a hearing may fail: some call that listens may
abbrev pub MayNotHear : (ℕ → ℕ → Type 0) → Type 0
MayNotHear may = (calls : ℕ) × may 0 calls

-- the next call may fail, where it sends at most 1,033 bytes
abbrev pub MayNotSend : (ℕ → ℕ → Type 0) → Type 0
MayNotSend may = (bytes : ℕ) × (bytes ≤ 1033) × may bytes 0

-- the line failed so: it may, the failure is counted, and this is its last fault
abbrev pub Fails : Type 0 → ℕ → ℕ → Option LineFault → LineFault → Type 0
Fails may before after last fault = may × Rose before after × (last ≡ Some fault)

-- the last transmission is just these bytes, and what comes is as before
abbrev pub Sends : List ℕ → Talk → Talk → Type 0
Sends bytes t u = (u.sent ≡ bytes) × (u.coming ≡ t.coming)

-- the answer is a prefix of what was to come, and Quiet only where nothing was
abbrev pub Hears : Came → List ℕ → Talk → Talk → Type 0
Hears (Bytes n) piece t u = (t.coming ≡ take n piece ++ u.coming) × (u.sent ≡ t.sent)
Hears Quiet piece t u = (t.coming ≡ []) × (u.sent ≡ t.sent)

-- from one to all bytes of the slice
abbrev pub IsWithin : Came → ℕ → Type 0
IsWithin (Bytes n) room = (0 < n) × (n ≤ room)
IsWithin Quiet room = ⊤
