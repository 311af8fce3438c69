-- The program's table of characters is the page the other way round.
use Rattle.std.proofs.Common.{◌≡◌, ℕ, ◌<◌, ◌≤◌, Option, Some, None, get_or, map, refl, ap, ◌∙◌, arith}
use Rattle.std.specs.Prelude.{unwrap_or}
use Rattle.std.specs.List.{range_with_len}
use Rattle.std.proofs.lemmas.List.FromFn.{get_or-map-range_with_len}
use Rattle.bsc_codes.specs.declared.code_page.TheConstants.{CHARACTERS}
use Rattle.bsc_codes.specs.CodePage.{ascii_of, page_037}
use Rattle.bsc_codes.proofs.Tables.{backward, character_within}

-- the character of a code, and 0 where it has none
abbrev pub character_or_zero : ℕ → ℕ
character_or_zero code = unwrap_or (ascii_of code) 0

-- the whole table, computed
table_is : CHARACTERS ≡ map character_or_zero (range_with_len 0 256)
unfolding ascii_of page_037
table_is = refl

-- so each entry is the character of its place
pub entry_is : (code : ℕ) → code < 256 → get_or CHARACTERS code 0 ≡ character_or_zero code
entry_is code h = ap (λ t. get_or t code 0) table_is ∙ get_or-map-range_with_len character_or_zero 0 256 code code 0 h (omega arith)

no_zero : (o : Option ℕ) → ((a : ℕ) → o ≡ Some a → 32 ≤ a) → unwrap_or o 0 ≡ 0 → o ≡ None
no_zero None low h = refl
no_zero (Some a) low h = let e : a ≡ 0 = h in let l = low a refl in absurd (omega arith)

-- an entry of 0 has no character
pub none_at : (code : ℕ) → character_or_zero code ≡ 0 → ascii_of code ≡ None
none_at code h = no_zero (ascii_of code) (λ a e. (character_within a code (backward a code e)).0) h
