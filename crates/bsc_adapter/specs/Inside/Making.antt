-- The plain machine on lists: a device of the proofs; no promise rests on this file.
use Rattle.std.specs.Prelude.{ℕ, ◌≡◌, ◌==◌, ◌||◌, ◌&&◌, slice_index, Bool, true, false, if◌then◌else◌, List, [], ◌∷◌, ◌++◌}
use Rattle.bsc_codes.specs.Bytes.{STX, ETX, DLE, ETB, ENQ, SYN, PAD}
use Rattle.bsc_check.specs.Check.{check_of, IsCheckOf}
use Rattle.bsc_frame.specs.Bytes.{LEADING_PAD}
use Rattle.bsc_adapter.specs.declared.place.Place.{Place}
use Rattle.bsc_adapter.specs.declared.place.Place.TheVariants as place

-- where the bytes stand
pub data Standing : Type 0 where
  -- in front of a body; behind a DLE in its first place
  Front : Standing
  Dle : Standing
  -- in a text, of which these data bytes have come; behind a DLE in transparent text
  Text : Bool → List ℕ → Standing
  TextDle : List ℕ → Standing

-- the byte says nothing in front of a body
abbrev pub is_idle : ℕ → Bool
is_idle byte = (byte == SYN) || ((byte == PAD) || (byte == LEADING_PAD))

-- the byte closes a block
abbrev pub closes : ℕ → Bool
closes byte = (byte == ETB) || (byte == ETX)

-- where the bytes stand after one more
abbrev pub next : Standing → ℕ → Standing
next Front byte =
    if is_idle byte then Front else (
    if byte == STX then Text false [] else (
    if byte == DLE then Dle else Front))
next Dle byte = if byte == STX then Text true [] else Front
next (Text false text) byte =
    if byte == SYN then Text false text else (
    if byte == ENQ then Front else (
    if closes byte then Front else Text false (text ++ byte ∷ [])))
next (Text true text) byte = if byte == DLE then TextDle text else Text true (text ++ byte ∷ [])
next (TextDle text) byte =
    if byte == DLE then Text true (text ++ byte ∷ []) else (
    if byte == ENQ then Front else (
    if closes byte then Front else Text true text))

-- the check behind a byte that closes a block of these data bytes
abbrev pub check_behind : List ℕ → ℕ → List ℕ
check_behind text byte = if closes byte then check_of (text ++ byte ∷ []) else []

-- what is made of one more byte
abbrev pub says : Standing → ℕ → List ℕ
says Front byte = if is_idle byte then [] else SYN ∷ SYN ∷ byte ∷ []
says Dle byte = byte ∷ []
says (Text false text) byte = byte ∷ check_behind text byte
says (Text true text) byte = byte ∷ []
says (TextDle text) byte = byte ∷ check_behind text byte

-- where the bytes stand after all of these
abbrev pub reached : Standing → List ℕ → Standing
reached s [] = s
reached s (byte ∷ bytes) = reached (next s byte) bytes

-- what is made of all of these
abbrev pub made : Standing → List ℕ → List ℕ
made s [] = []
made s (byte ∷ bytes) = says s byte ++ made (next s byte) bytes

-- a place and a running check are those of a standing
abbrev pub Stands : Place → ℕ → Standing → Type 0
Stands p check Front = p ≡ place.Front
Stands p check Dle = p ≡ place.Dle
Stands p check (Text transparent text) = (p ≡ place.Text transparent) × IsCheckOf check text
Stands p check (TextDle text) = (p ≡ place.TextDle) × IsCheckOf check text

-- how many bytes stand behind what is said, in two SYN, a body and a pad
abbrev pub behind : List ℕ → ℕ
behind bytes =
    let first = slice_index bytes 2 in
    let second = slice_index bytes 3 in
    let is_block = ((first == STX) && (if second == ENQ then false else true)) || ((first == DLE) && (second == STX)) in
    if is_block then 3 else 1
