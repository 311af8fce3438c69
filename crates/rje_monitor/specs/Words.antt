-- How bytes, names and faults are shown (own profile).
use Rattle.std.specs.Prelude.{ℕ, ◌/◌, ◌%◌, Bool, true, false, List, [], ◌∷◌, ◌++◌, map, unwrap_or, slice_index, codes, decimal}
use Rattle.std.specs.List.{flat_map}
use Rattle.bsc_codes.specs.CodePage.{ascii_of}
use Rattle.bsc_codes.specs.declared.block.Closing.{Closing}
use Rattle.rje_text.specs.declared.select.Select.{Select}
use Rattle.rje_text.specs.declared.text_fault.TextFault.{TextFault}

-- the ASCII character of a byte, and a question mark for a byte that has none
abbrev pub shown : ℕ → ℕ
shown byte = unwrap_or (ascii_of byte) 0x3F

-- each byte's character
abbrev pub ascii : List ℕ → List ℕ
ascii bytes = map shown bytes

-- the hexadecimal digit of a number below 16
abbrev pub hex_digit : ℕ → ℕ
hex_digit n = slice_index (codes "0123456789ABCDEF") n

-- a byte in hexadecimal: two digits
abbrev pub hex_pair : ℕ → List ℕ
hex_pair b = hex_digit (b / 16) ∷ hex_digit (b % 16) ∷ []

-- bytes in hexadecimal, without gaps
abbrev pub hex : List ℕ → List ℕ
hex bytes = flat_map hex_pair bytes

-- how what closes a block is shown
abbrev pub closing_name : Closing → List ℕ
closing_name Closing.Etb = codes "ETB"
closing_name Closing.Etx = codes "ETX"

-- how a text's form is shown
abbrev pub form_name : Bool → List ℕ
form_name true = codes "transparent"
form_name false = codes "normal"

-- how a selection is shown
abbrev pub select_name : Select → List ℕ
select_name Select.Unset = codes "unset"
select_name Select.Printer = codes "printer"
select_name Select.Punch = codes "punch"

-- the text that a fault prints
abbrev pub fault_text : TextFault → List ℕ
fault_text TextFault.OutOfMemory = codes "out of memory"
fault_text (TextFault.BadCount place) = codes "no count of blanks at " ++ decimal place
fault_text (TextFault.RecordTooLong place) = codes "a record passes 144 bytes at " ++ decimal place
fault_text TextFault.CardsNot80 = codes "transparent text that is no cards of 80 bytes"
fault_text TextFault.MixedModes = codes "another mode than the job's earlier blocks"
