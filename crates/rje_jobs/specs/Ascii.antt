-- Data in ASCII, as it is printed and punched (own profile).
use Rattle.std.specs.Prelude.{ℕ, List, map, unwrap_or}
use Rattle.bsc_codes.specs.CodePage.{ascii_of}

-- the ASCII character of a byte, and a question mark for a byte that has none
abbrev pub shown : ℕ → ℕ
shown byte = unwrap_or (ascii_of byte) 0x3F

-- each byte's character
abbrev pub ascii : List ℕ → List ℕ
ascii bytes = map shown bytes
