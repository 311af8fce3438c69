-- Why a frame isn't written.
use Rattle.std.specs.Prelude.{ℕ, ◌<◌, Bool, true, false, List, length, slice_index, Contains}
use Rattle.bsc_codes.specs.Bytes.{control_bytes}
use Rattle.bsc_frame.specs.declared.frame.Frame.{Frame}
use Rattle.bsc_frame.specs.declared.frame.Frame.TheVariants as frame
use Rattle.bsc_frame.specs.declared.frame_fault.FrameFault.{FrameFault}
use Rattle.bsc_frame.specs.declared.frame_fault.FrameFault.TheVariants as fault
use Rattle.bsc_frame.specs.Body.{IsNormalText}

-- the first byte of the text that is no normal text byte stands there
pub record IsFirstBad (text : List ℕ) (place : ℕ) : Type 0 where
  pub within : place < length text
  pub here : Contains control_bytes (slice_index text place)
  pub before : (k : ℕ) → k < place → IsNormalText (slice_index text k)

-- a block is refused for its text alone, and a transparent text never is
abbrev pub IsTextRefused : Bool → List ℕ → FrameFault → Type 0
IsTextRefused false text (fault.TextByte place) = IsFirstBad text place
IsTextRefused false text fault.NotSent = ⊥
IsTextRefused true text f = ⊥

-- the one fault of a frame that is never sent
abbrev pub IsNotSent : FrameFault → Type 0
IsNotSent fault.NotSent = Unit {0}
IsNotSent (fault.TextByte place) = ⊥

-- a frame is refused for this
abbrev pub Refused : Frame → FrameFault → Type 0
Refused frame.Abort f = IsNotSent f
Refused (frame.Block block) f = IsTextRefused block.transparent block.text.items f
Refused frame.Enq f = ⊥
Refused frame.Ack0 f = ⊥
Refused frame.Ack1 f = ⊥
Refused frame.Nak f = ⊥
Refused frame.Wack f = ⊥
Refused frame.Rvi f = ⊥
Refused frame.Ttd f = ⊥
Refused frame.Eot f = ⊥
