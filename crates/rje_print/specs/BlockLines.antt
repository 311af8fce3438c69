-- What the program prints of blocks (own profile).
use Rattle.std.specs.Prelude.{ℕ, ◌+◌, ◌/◌, ◌%◌, List, [], ◌∷◌, ◌++◌, length, slice_index, codes, decimal}
use Rattle.std.specs.List.{flat_map}
use Rattle.bsc_codes.specs.declared.block.Block.{Block}
use Rattle.bsc_codes.specs.declared.block.Closing.{Closing}
use Rattle.bsc_codes.specs.declared.block.Closing.TheVariants.{Etb, Etx}

-- the hexadecimal digit of a number below 16
abbrev pub hex_digit : ℕ → ℕ
hex_digit n = slice_index (codes "0123456789ABCDEF") n

-- bytes in hexadecimal, two digits each
abbrev pub hex : List ℕ → List ℕ
hex bytes = flat_map (λ b. hex_digit (b / 16) ∷ hex_digit (b % 16) ∷ []) bytes

-- bytes in hexadecimal, or a hyphen for no bytes
abbrev pub hex_or_hyphen : List ℕ → List ℕ
hex_or_hyphen [] = codes "-"
hex_or_hyphen (b ∷ bs) = hex (b ∷ bs)

-- how a closing is printed
abbrev pub closing_name : Closing → List ℕ
closing_name Etb = codes "ETB"
closing_name Etx = codes "ETX"

-- the line of the block of this number: its closing, its text's length and its text
unfoldable pub block_line : ℕ → Block → List ℕ
block_line number b =
    decimal number ++ codes " " ++ closing_name b.closing ++ codes " " ++ decimal (length b.text.items) ++ codes " " ++ hex_or_hyphen b.text.items ++ codes "\n"

-- the lines of blocks that are numbered from here on
abbrev pub block_lines : ℕ → List Block → List ℕ
block_lines number [] = []
block_lines number (b ∷ bs) = block_line number b ++ block_lines (number + 1) bs

-- the line that says how many records come back
abbrev pub back_line : ℕ → List ℕ
back_line count = codes "back " ++ decimal count ++ codes "\n"
