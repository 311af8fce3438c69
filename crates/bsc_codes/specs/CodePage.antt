-- Code page 037 for the 95 printable ASCII characters.
use Rattle.std.specs.Prelude.{ℕ, ◌+◌, List, [], ◌∷◌, ◌++◌, Option, option_map, find, codes, ◌==◌}

-- an ASCII character and its EBCDIC code
pub record Entry : Type 0 where
  pub character : ℕ
  pub code : ℕ

-- these characters have codes in a row, the first of them this one
abbrev pub from : ℕ → List ℕ → List Entry
from code [] = []
from code (character ∷ characters) = record { character = character; code = code } ∷ from (code + 1) characters

-- the printable ASCII characters: the letters and digits, which have codes in rows, and the blank and the 32 others, each with its own
unfoldable pub page_037 : List Entry
page_037 =
    from 0xC1 (codes "ABCDEFGHI") ++ from 0xD1 (codes "JKLMNOPQR") ++ from 0xE2 (codes "STUVWXYZ")
    ++ from 0x81 (codes "abcdefghi") ++ from 0x91 (codes "jklmnopqr") ++ from 0xA2 (codes "stuvwxyz")
    ++ from 0xF0 (codes "0123456789") ++ from 0x40 (codes " ")
    ++ from 0x5A (codes "!") ++ from 0x7F (codes "\"") ++ from 0x7B (codes "#") ++ from 0x5B (codes "$")
    ++ from 0x6C (codes "%") ++ from 0x50 (codes "&") ++ from 0x7D (codes "'") ++ from 0x4D (codes "(")
    ++ from 0x5D (codes ")") ++ from 0x5C (codes "*") ++ from 0x4E (codes "+") ++ from 0x6B (codes ",")
    ++ from 0x60 (codes "-") ++ from 0x4B (codes ".") ++ from 0x61 (codes "/") ++ from 0x7A (codes ":")
    ++ from 0x5E (codes ";") ++ from 0x4C (codes "<") ++ from 0x7E (codes "=") ++ from 0x6E (codes ">")
    ++ from 0x6F (codes "?") ++ from 0x7C (codes "@") ++ from 0xBA (codes "[") ++ from 0xE0 (codes "\\")
    ++ from 0xBB (codes "]") ++ from 0xB0 (codes "^") ++ from 0x6D (codes "_") ++ from 0x79 (codes "`")
    ++ from 0xC0 (codes "{") ++ from 0x4F (codes "|") ++ from 0xD0 (codes "}") ++ from 0xA1 (codes "~")

-- the EBCDIC code of an ASCII character, if it is printable
unfoldable pub ebcdic_of : ℕ → Option ℕ
ebcdic_of ascii = option_map (λ (e : Entry). e.code) (find (λ e. e.character == ascii) page_037)

-- the ASCII character of an EBCDIC code, if that is the code of a printable one
unfoldable pub ascii_of : ℕ → Option ℕ
ascii_of ebcdic = option_map (λ (e : Entry). e.character) (find (λ e. e.code == ebcdic) page_037)
