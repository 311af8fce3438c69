-- What holds of transmissions, of what is heard and of what is written.
use Rattle.std.specs.Prelude.{ℕ, ◌≡◌, List, [], ◌∷◌, ◌++◌}
use Rattle.bsc_codes.specs.Bytes.{PAD}
use Rattle.bsc_frame.specs.declared.frame.Frame.{Frame}
use Rattle.bsc_frame.specs.declared.frame.TheConstants as code
use Rattle.bsc_frame.specs.declared.heard.Heard.{Heard}
use Rattle.bsc_frame.specs.Transmission.{Transmission}
use Rattle.bsc_frame.specs.Heard.{IsHeard}
use Rattle.bsc_frame.specs.Written.{Written}

-- of any bytes at most one prefix is a transmission, and of at most one frame
abbrev pub OneTransmission : Type 0
OneTransmission = (f g : Frame) (a b x y : List ℕ) → Transmission f a → Transmission g b → a ++ x ≡ b ++ y → (f ≡ g) × (a ≡ b)

-- of any bytes at most one thing is heard
abbrev pub OneHearing : Type 0
OneHearing = (bytes : List ℕ) (h k : Heard) → IsHeard bytes h → IsHeard bytes k → h ≡ k

-- of any bytes something is heard
abbrev pub EveryHearing : Type 0
EveryHearing = (bytes : List ℕ) → (h : Heard) × IsHeard bytes h

-- what is written is a transmission of the frame, and one pad
abbrev pub WrittenIsTransmission : Type 0
WrittenIsTransmission = (f : Frame) (bytes : List ℕ) → Written f bytes → (front : List ℕ) × Transmission f front × (bytes ≡ front ++ PAD ∷ [])

-- the code's constants are the second bytes of these acknowledgements (GA27-3004, EBCDIC), and the second pad
pub record NamedBytesHaveTheirCodes : Type 0 where
  pub ack0 : code.ACK0 ≡ 0x70
  pub ack1 : code.ACK1 ≡ 0x61
  pub wack : code.WACK ≡ 0x6B
  pub rvi : code.RVI ≡ 0x7C
  pub leading_pad : code.LEADING_PAD ≡ 0x55
