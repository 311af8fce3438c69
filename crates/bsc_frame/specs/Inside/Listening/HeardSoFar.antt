-- The plain listener on lists: a device of the proofs; no promise rests on this file.
-- What has come, and what one more byte does.
use Rattle.std.specs.Prelude.{ℕ, ◌==◌, ◌||◌, ◌&&◌, slice_index, Bool, true, false, if◌then◌else◌, List, [], ◌∷◌, ◌++◌, length, nat_lt}
use Rattle.bsc_codes.specs.declared.block.Block.{Block}
use Rattle.bsc_codes.specs.declared.block.Closing.{Closing}
use Rattle.bsc_codes.specs.declared.block.Closing.TheVariants.{Etb, Etx}
use Rattle.bsc_codes.specs.Bytes.{STX, ETX, DLE, ETB, ENQ, SYN, EOT, NAK, PAD}
use Rattle.bsc_check.specs.Check.{check_of}
use Rattle.bsc_frame.specs.declared.frame.Frame.{Frame}
use Rattle.bsc_frame.specs.declared.frame.Frame.TheVariants as frame
use Rattle.bsc_frame.specs.Bytes.{ACK0, ACK1, WACK, RVI, LEADING_PAD}
use Rattle.bsc_frame.specs.declared.heard.Heard.{Heard}
use Rattle.bsc_frame.specs.declared.heard.Heard.TheVariants as heard
use Rattle.bsc_frame.specs.Body.{covered}
use Rattle.bsc_frame.specs.Inside.Listening.NormalText.{is_normal_text}

-- what has come
pub data HeardSoFar : Type 0 where
  -- pads, if anything; then one SYN; then two or more
  Pads : HeardSoFar
  OneSyn : HeardSoFar
  Syns : HeardSoFar
  -- a synchronization pattern and DLE
  Dle : HeardSoFar
  -- a synchronization pattern, the start of a text, and these data bytes; in transparent text then a DLE
  Text : Bool → List ℕ → HeardSoFar
  TextDle : List ℕ → HeardSoFar
  -- all of a block but the check (BCC); all but its second byte
  AwaitsCheck : Block → HeardSoFar
  AwaitsSecondCheck : Block → ℕ → HeardSoFar
  -- what can become no transmission: with a text that was started; pads and SYN alone; other bytes
  BadText : HeardSoFar
  OnlyPads : HeardSoFar
  OnlyNoise : HeardSoFar

-- what one more byte does: more has come, or a frame is whole
pub data Progress : Type 0 where
  On : HeardSoFar → Progress
  Got : Frame → Progress

-- the byte is a pad
abbrev pub is_pad : ℕ → Bool
is_pad byte = (byte == PAD) || (byte == LEADING_PAD)

-- one more data byte, where there is room for it
abbrev pub with_byte : Bool → List ℕ → ℕ → Progress
with_byte transparent text byte = if nat_lt (length text) 512 then On (Text transparent (text ++ byte ∷ [])) else On BadText

-- the frame of a text that an ENQ ends
abbrev pub frame_of_enq : Bool → List ℕ → Frame
frame_of_enq false [] = frame.Ttd
frame_of_enq false (byte ∷ text) = frame.Abort
frame_of_enq true text = frame.Abort

-- a block of these parts
abbrev pub block_of : Bool → List ℕ → Closing → Block
block_of transparent text closing = record { text = record { items = text }; closing = closing; transparent = transparent }

-- a closing byte has come
abbrev pub closed : Bool → List ℕ → Closing → Progress
closed transparent text closing = On (AwaitsCheck (block_of transparent text closing))

-- a byte that belongs to no synchronization pattern
abbrev pub after_no_sync : ℕ → Progress
after_no_sync byte = if is_pad byte then On OnlyPads else (if byte == SYN then On OnlyPads else On OnlyNoise)

-- the two bytes are the check
abbrev pub is_check : List ℕ → ℕ → ℕ → Bool
is_check bytes first second = (slice_index (check_of bytes) 0 == first) && (slice_index (check_of bytes) 1 == second)

-- what one more byte does
abbrev pub next : HeardSoFar → ℕ → Progress
next Pads byte = if byte == SYN then On OneSyn else (if is_pad byte then On Pads else On OnlyNoise)
next OneSyn byte = if byte == SYN then On Syns else after_no_sync byte
next Syns byte =
    if byte == SYN then On Syns else (
    if byte == STX then On (Text false []) else (
    if byte == DLE then On Dle else (
    if byte == ENQ then Got frame.Enq else (
    if byte == NAK then Got frame.Nak else (
    if byte == EOT then Got frame.Eot else after_no_sync byte)))))
next Dle byte =
    if byte == STX then On (Text true []) else (
    if byte == ACK0 then Got frame.Ack0 else (
    if byte == ACK1 then Got frame.Ack1 else (
    if byte == WACK then Got frame.Wack else (
    if byte == RVI then Got frame.Rvi else (
    if byte == EOT then Got frame.Eot else On OnlyNoise)))))
next (Text false text) byte =
    if is_normal_text byte then with_byte false text byte else (
    if byte == SYN then On (Text false text) else (
    if byte == ENQ then Got (frame_of_enq false text) else (
    if byte == ETB then closed false text Etb else (
    if byte == ETX then closed false text Etx else On BadText))))
next (Text true text) byte = if byte == DLE then On (TextDle text) else with_byte true text byte
next (TextDle text) byte =
    if byte == DLE then with_byte true text byte else (
    if byte == SYN then On (Text true text) else (
    if byte == ENQ then Got (frame_of_enq true text) else (
    if byte == ETB then closed true text Etb else (
    if byte == ETX then closed true text Etx else On BadText))))
next (AwaitsCheck block) byte = On (AwaitsSecondCheck block byte)
next (AwaitsSecondCheck block first) byte =
    if is_check (covered block.text.items block.closing) first byte then Got (frame.Block block) else On BadText
next BadText byte = On BadText
next OnlyPads byte = after_no_sync byte
next OnlyNoise byte = On OnlyNoise

-- what is heard where the line goes quiet
abbrev pub heard_at : HeardSoFar → Heard
heard_at Pads = heard.Quiet
heard_at OneSyn = heard.Quiet
heard_at Syns = heard.Quiet
heard_at Dle = heard.Noise
heard_at (Text transparent text) = heard.Bad
heard_at (TextDle text) = heard.Bad
heard_at (AwaitsCheck block) = heard.Bad
heard_at (AwaitsSecondCheck block first) = heard.Bad
heard_at BadText = heard.Bad
heard_at OnlyPads = heard.Quiet
heard_at OnlyNoise = heard.Noise
