-- The plain listener on lists: a device of the proofs; no promise rests on this file.
-- Bytes that a text keeps as they come.
use Rattle.std.specs.Prelude.{◌≡◌, ℕ, ◌==◌, Bool, true, false}
use Rattle.bsc_codes.specs.Bytes.{DLE}
use Rattle.bsc_frame.specs.Inside.Listening.NormalText.{is_normal_text}

-- the byte is kept as one of a text: of normal text where it may stand there, of transparent text where it is no DLE
abbrev pub IsData : Bool → ℕ → Type 0
IsData false byte = is_normal_text byte ≡ true
IsData true byte = (byte == DLE) ≡ false
