-- Turns of a line in hexadecimal, and their text (own profile).
use Rattle.std.specs.Prelude.{◌≡◌, ◌≢◌, ◌⊎◌, ℕ, zero, suc, ◌+◌, ◌/◌, ◌%◌, ◌==◌, Bool, if◌then◌else◌, List, [], ◌∷◌, ◌++◌, length, drop, slice_get, Option, Some, None, codes, decimal}
use Rattle.std.specs.Io.BufRead.{strip_last}
use Rattle.std.specs.List.{prefix_len, position_or_len, before_first, after_first}
use Rattle.bsc_frame.specs.declared.heard.Heard.{Heard}
use Rattle.rje_text.specs.declared.mode.Mode.{Mode}
use Rattle.rje_monitor.specs.declared.hex_fault.HexFault.{HexFault}
use Rattle.rje_monitor.specs.Hearing.{IsHeardFirst, AreWords, mode_after, is_pad}
use Rattle.rje_monitor.specs.Stream.{line_of}

-- ---- Lines.

-- the byte ends a line
abbrev pub is_lf : ℕ → Bool
is_lf byte = byte == 0x0A

-- the first line: what stands in front of the first LF, without a CR right in front of it; all bytes where there is no LF
abbrev pub first_line : List ℕ → List ℕ
first_line lines = if position_or_len is_lf lines == length lines then lines else strip_last 0x0D (before_first is_lf lines)

-- the lines after the first one
abbrev pub later_lines : List ℕ → List ℕ
later_lines lines = after_first is_lf lines

-- ---- Bytes in hexadecimal.

-- the character is the hexadecimal digit of this value, in upper or lower case
abbrev pub IsHexDigit : ℕ → ℕ → Type 0
IsHexDigit value character =
    (slice_get (codes "0123456789ABCDEF") value ≡ Some character) ⊎ (slice_get (codes "0123456789abcdef") value ≡ Some character)

-- the text is the two digits of this byte, and this follows them
abbrev pub IsPair : ℕ → (text behind : List ℕ) → Type 0
IsPair b text behind =
    (high : ℕ) × (low : ℕ) × (text ≡ high ∷ low ∷ behind) × IsHexDigit (b / 16) high × IsHexDigit (b % 16) low

-- the byte is a blank of ASCII
abbrev pub is_blank : ℕ → Bool
is_blank byte = byte == 0x20

-- what follows the blanks in front
abbrev pub after_blanks : List ℕ → List ℕ
after_blanks text = drop (prefix_len is_blank text) text

-- these bytes in hexadecimal: the two digits of each, with any blanks in front of them
abbrev pub ArePairs : (bytes text : List ℕ) → Type 0
ArePairs [] text = text ≡ []
ArePairs (b ∷ bytes) text = (behind : List ℕ) × IsPair b (after_blanks text) behind × ArePairs bytes behind

-- the line of these bytes: their digits, with blanks between the pairs alone
abbrev pub IsHexLine : (bytes line : List ℕ) → Type 0
IsHexLine bytes line = (slice_get line 0 ≢ Some 0x20) × ArePairs bytes line

-- the line of some bytes
abbrev pub IsHex : List ℕ → Type 0
IsHex line = (bytes : List ℕ) × IsHexLine bytes line

-- ---- Turns.

-- the lines are those of the bytes of these turns, each ended by LF; the last LF may be left out
abbrev pub AreLinesOf : List (List ℕ) → List ℕ → Type 0
AreLinesOf [] lines = lines ≡ []
AreLinesOf (bytes ∷ turns) lines = (lines ≢ []) × IsHexLine bytes (first_line lines) × AreLinesOf turns (later_lines lines)

-- how many bytes come after a frame, but for one pad
abbrev pub bytes_after : List ℕ → ℕ
bytes_after [] = 0
bytes_after (b ∷ bytes) = if is_pad b then length bytes else length (b ∷ bytes)

-- the words for so many bytes after a frame
abbrev pub extra_words : ℕ → List ℕ
extra_words zero = []
extra_words (suc n) = codes " +" ++ decimal (suc n)

-- the line of the turn of this number, in which these bytes came: what was heard first, and how many bytes came after it
abbrev pub IsTurnLine : ℕ → Option Mode → Heard → (bytes line : List ℕ) → Type 0
IsTurnLine number so_far heard bytes line =
    (front : List ℕ) × (rest : List ℕ) × (words : List ℕ) × IsHeardFirst heard bytes front rest × AreWords so_far heard front words
    × (line ≡ line_of number (words ++ extra_words (bytes_after rest)))

-- the lines of turns that are numbered from here on
abbrev pub AreTurnLines : ℕ → Option Mode → List (List ℕ) → List ℕ → Type 0
AreTurnLines number so_far [] text = text ≡ []
AreTurnLines number so_far (bytes ∷ turns) text =
    (heard : Heard) × (line : List ℕ) × (more : List ℕ) × IsTurnLine number so_far heard bytes line × (text ≡ line ++ more)
    × AreTurnLines (number + 1) (mode_after so_far heard) turns more

-- the text of these lines: a line for each turn
abbrev pub IsTurnsText : (lines text : List ℕ) → Type 0
IsTurnsText lines text = (turns : List (List ℕ)) × AreLinesOf turns lines × AreTurnLines 1 None turns text

-- ---- Refusals.

-- each line is that of some bytes
abbrev pub AreHexLines : List ℕ → Type 0
AreHexLines lines = (turns : List (List ℕ)) × AreLinesOf turns lines

-- the first n lines are each that of some bytes, and the next one is not
abbrev pub IsBadBehind : ℕ → List ℕ → Type 0
IsBadBehind zero lines = (lines ≢ []) × ¬ (IsHex (first_line lines))
IsBadBehind (suc n) lines = (lines ≢ []) × IsHex (first_line lines) × IsBadBehind n (later_lines lines)

-- the line of this number, from 1, is the first that is of no bytes
abbrev pub IsFirstBadLine : List ℕ → ℕ → Type 0
IsFirstBadLine lines number = (n : ℕ) × (number ≡ n + 1) × IsBadBehind n lines

-- the fault of lines that have no text: the first line that is of no bytes, and out of memory only where each is
abbrev pub IsHexFault : List ℕ → HexFault → Type 0
IsHexFault lines HexFault.OutOfMemory = AreHexLines lines
IsHexFault lines (HexFault.NotHex number) = IsFirstBadLine lines number
