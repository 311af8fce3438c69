-- What the line does to the bytes of a transmission, and which fates break the rules: own profile.
use Rattle.std.specs.Prelude.{◌≡◌, ◌⊎◌, ℕ, ◌<◌, ◌≤◌, false, List, [], ◌∷◌, length}
use Rattle.bsc_frame.specs.declared.heard.Heard.{Heard}
use Rattle.bsc_frame.specs.Heard.{IsHeard}
use Rattle.bsc_link.specs.declared.sound.Sound.{Sound}
use Rattle.rje_station.specs.Hearing.{sound_heard}
use Rattle.line_world.specs.declared.fate.Fate.{Fate}
use Rattle.bsc_history.specs.declared.sound_fate.SoundFate.{SoundFate}
use Rattle.bsc_history.specs.Fate.{is_damage_of}

-- the bytes are heard as this sound
pub record AreHeardAs (bytes : List ℕ) (sound : Sound) : Type 0 where
  pub what : Heard
  pub heard : IsHeard bytes what
  pub sound_is : sound ≡ sound_heard what

-- what a fate of bytes tells of sounds: damaged bytes tell what is heard of them
abbrev pub Tells : Fate → SoundFate → Type 0
Tells (Fate.Arrives cuts) told = told ≡ SoundFate.Arrives
Tells Fate.Lost told = told ≡ SoundFate.Lost
Tells (Fate.Damaged bytes) told = (sound : Sound) × AreHeardAs bytes.items sound × (told ≡ SoundFate.Damaged sound)

-- places that rise strictly, all behind this one and before the end
abbrev pub AreCuts : ℕ → ℕ → List ℕ → Type 0
AreCuts from end [] = Unit {0}
AreCuts from end (cut ∷ cuts) = (from < cut) × (cut < end) × AreCuts cut end cuts

-- the fate fits what was sent: cuts lie from 1 to its length less 1, and damaged bytes are at most 8,192
abbrev pub Fits : Fate → List ℕ → Type 0
Fits (Fate.Arrives cuts) sent = AreCuts 0 (length sent) cuts.items
Fits Fate.Lost sent = Unit {0}
Fits (Fate.Damaged bytes) sent = length bytes.items ≤ 8192

-- its cuts don't fit what was sent
abbrev pub HasBadCut : Fate → Sound → List ℕ → Type 0
HasBadCut (Fate.Arrives cuts) said sent = AreCuts 0 (length sent) cuts.items → ⊥
HasBadCut _ said sent = ⊥

-- its bytes are no damage of what was said: they are too many, or are heard as damage of it may not be
abbrev pub IsNoDamage : Fate → Sound → List ℕ → Type 0
IsNoDamage (Fate.Damaged bytes) said sent =
    (8192 < length bytes.items) ⊎ ((sound : Sound) × AreHeardAs bytes.items sound × (is_damage_of said sound ≡ false))
IsNoDamage _ said sent = ⊥
