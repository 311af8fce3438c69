-- One hearing: what a station takes of the bytes between two turnarounds of the line (GA27-3004; the limit of 8,192 bytes is own profile).
use Rattle.std.specs.Prelude.{◌≡◌, ◌<◌, ◌≤◌, ℕ, List, [], ◌++◌, length, take}
use Rattle.bsc_frame.specs.declared.frame.Frame.{Frame}
use Rattle.bsc_frame.specs.declared.frame.Frame.TheVariants as frame
use Rattle.bsc_frame.specs.declared.heard.Heard.{Heard}
use Rattle.bsc_frame.specs.declared.heard.Heard.TheVariants as heard
use Rattle.bsc_frame.specs.Transmission.{HasNoFrame}
use Rattle.bsc_frame.specs.Heard.{IsHeard}
use Rattle.bsc_link.specs.declared.sound.Sound.{Sound}
use Rattle.rje_station.specs.declared.hear_fault.HearFault.{HearFault}
use Rattle.rje_station.specs.declared.hear_fault.HearFault.TheVariants.{Lost, Babble}
use Rattle.rje_station.specs.declared.line_fault.LineFault.{LineFault}
use Rattle.rje_station.specs.Line.{Talk}

-- a frame, as the link cores take it
abbrev pub sound_of_frame : Frame → Sound
sound_of_frame frame.Enq = Sound.Enq
sound_of_frame frame.Ack0 = Sound.Ack0
sound_of_frame frame.Ack1 = Sound.Ack1
sound_of_frame frame.Nak = Sound.Nak
sound_of_frame frame.Wack = Sound.Wack
sound_of_frame frame.Rvi = Sound.Rvi
sound_of_frame frame.Ttd = Sound.Ttd
sound_of_frame frame.Abort = Sound.Abort
sound_of_frame frame.Eot = Sound.Eot
sound_of_frame (frame.Block block) = Sound.Block

-- what was heard, as the link cores take it
abbrev pub sound_heard : Heard → Sound
sound_heard (heard.Frame f) = sound_of_frame f
sound_heard heard.Bad = Sound.Bad
sound_heard heard.Noise = Sound.Noise
sound_heard heard.Quiet = Sound.Quiet

-- with a frame, what wasn't given is what comes next; without one the line went quiet: at most 8,192 bytes were given, and none was left
abbrev pub Ends : Heard → List ℕ → List ℕ → List ℕ → Type 0
Ends (heard.Frame f) given left coming = left ≡ coming
Ends h given left coming = (length given ≤ 8192) × (left ≡ [])

-- one hearing on a line that discloses its bytes
pub record Hearing (t u : Talk) (h : Heard) : Type 0 where
  -- the bytes that the line gave, and those that it still had
  pub given : List ℕ
  pub left : List ℕ
  pub came : t.coming ≡ given ++ left
  -- what is heard is what is heard of the bytes given, which is what is heard of the first 8,192 of all that were to come
  pub heard : IsHeard given h
  pub first : IsHeard (take 8192 t.coming) h
  pub ends : Ends h given left u.coming
  pub sent : u.sent ≡ t.sent

-- one hearing, by its sound
pub record HearsSound (t u : Talk) (sound : Sound) : Type 0 where
  pub what : Heard
  pub sound_is : sound ≡ sound_heard what
  pub hearing : Hearing t u what

-- more than 8,192 bytes were given, and there is no frame in the first 8,192
pub record Babbling (t u : Talk) : Type 0 where
  pub given : List ℕ
  pub came : t.coming ≡ given ++ u.coming
  pub many : 8192 < length given
  pub no_frame : HasNoFrame (take 8192 given)

-- why nothing was heard: one fact for a line that failed, one for babble; a private function's contract cites it
abbrev pub IsLost : (LineFault → Type 0) → Type 0 → HearFault → Type 0
IsLost failed babbled (Lost fault) = failed fault
IsLost failed babbled Babble = babbled
