-- The form in which a frame is written: one transmission of it, without pads in front and without fill, and one pad after it.
use Rattle.std.specs.Prelude.{ℕ, ◌≡◌, Bool, Some, List, [], ◌∷◌, ◌++◌}
use Rattle.std.specs.List.{flat_map}
use Rattle.bsc_codes.specs.Bytes.{STX, DLE, ENQ, SYN, EOT, NAK, PAD}
use Rattle.bsc_frame.specs.declared.frame.Frame.{Frame}
use Rattle.bsc_frame.specs.declared.frame.Frame.TheVariants as frame
use Rattle.bsc_frame.specs.Bytes.{ACK0, ACK1, WACK, RVI}
use Rattle.bsc_frame.specs.Body.{on_line, start_of_text, block_end, Body}

-- a text without fill
abbrev pub text_without_fill : Bool → List ℕ → List ℕ
text_without_fill transparent text = flat_map (λ byte. on_line transparent (Some byte)) text

-- a frame's body without fill, EOT in its short form; an Abort is never written
abbrev pub body_without_fill : Frame → List ℕ
body_without_fill frame.Enq = ENQ ∷ []
body_without_fill frame.Ack0 = DLE ∷ ACK0 ∷ []
body_without_fill frame.Ack1 = DLE ∷ ACK1 ∷ []
body_without_fill frame.Nak = NAK ∷ []
body_without_fill frame.Wack = DLE ∷ WACK ∷ []
body_without_fill frame.Rvi = DLE ∷ RVI ∷ []
body_without_fill frame.Ttd = STX ∷ ENQ ∷ []
body_without_fill frame.Abort = []
body_without_fill frame.Eot = EOT ∷ []
body_without_fill (frame.Block block) =
    start_of_text block.transparent
    ++ (text_without_fill block.transparent block.text.items ++ block_end block.transparent block.text.items block.closing)

-- two SYN, the body without fill, which is a body of the frame, and one pad
pub record Written (f : Frame) (bytes : List ℕ) : Type 0 where
  pub is_body : Body f (body_without_fill f)
  pub whole : bytes ≡ SYN ∷ SYN ∷ (body_without_fill f ++ PAD ∷ [])
