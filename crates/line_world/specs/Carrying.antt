-- What a fate leaves of the bytes that were sent, and why it isn't carried out (own profile).
use Rattle.std.specs.Prelude.{◌≡◌, true, ℕ, List, []}
use Rattle.bsc_frame.specs.declared.heard.Heard.{Heard}
use Rattle.bsc_frame.specs.Heard.{IsHeard}
use Rattle.bsc_link.specs.declared.sound.Sound.{Sound}
use Rattle.rje_station.specs.Hearing.{sound_heard}
use Rattle.line_world.specs.declared.fate.Fate.{Fate}
use Rattle.line_world.specs.declared.turn_fault.TurnFault.{TurnFault}
use Rattle.bsc_history.specs.Fate.{is_damage_of}
use Rattle.line_world.specs.Damage.{Fits, HasBadCut, IsNoDamage}

-- the bytes that come
abbrev pub bytes_after : Fate → List ℕ → List ℕ
bytes_after (Fate.Arrives cuts) sent = sent
bytes_after Fate.Lost sent = []
bytes_after (Fate.Damaged bytes) sent = bytes.items

-- where the bytes were damaged, what is heard is damage of what was said
abbrev pub MayDamage : Fate → Sound → Sound → Type 0
MayDamage (Fate.Damaged bytes) said heard = is_damage_of said heard ≡ true
MayDamage _ said heard = Unit {0}

-- the bytes were damaged
abbrev pub IsDamaged : Fate → Type 0
IsDamaged (Fate.Damaged bytes) = Unit {0}
IsDamaged _ = ⊥

-- what was said and sent so met a fate that keeps its rules, and this was heard
pub record IsCarried (fate : Fate) (said : Sound) (sent : List ℕ) (what : Heard) : Type 0 where
  pub fits : Fits fate sent
  pub heard : IsHeard (bytes_after fate sent) what
  pub may : MayDamage fate said (sound_heard what)

-- a fault of memory says nothing, and another one that a fate so breaks a rule
abbrev pub FaultOf : ((Fate → Sound → List ℕ → Type 0) → Type 0) → TurnFault → Type 0
FaultOf BreaksBy TurnFault.OutOfMemory = Unit {0}
FaultOf BreaksBy TurnFault.NotDamage = BreaksBy IsNoDamage
FaultOf BreaksBy TurnFault.BadCut = BreaksBy HasBadCut

-- why it isn't carried
abbrev pub IsFateFault : Fate → Sound → List ℕ → TurnFault → Type 0
IsFateFault fate said sent fault = FaultOf (λ Breaks. Breaks fate said sent) fault
