-- The codes of a line whose characters have codes: by the program's table, and by the least and the greatest of them.
use Rattle.std.proofs.Common.{◌≡◌, ◌⊎◌, inl, inr, ⊎_elim, ℕ, zero, suc, ◌+◌, ◌<◌, ◌≤◌, Bool, true, false, ◌||◌, List, [], ◌∷◌, length, map, get_or, Option, Some, None, refl, ap, sym, ◌∙◌, arith}
use Rattle.std.specs.Prelude.{is_none, unwrap_or, nat_lt, option_map, if◌then◌else◌}
use Rattle.std.specs.Option.{option_or}
use Rattle.std.specs.List.{filter_map, cons_option, list_any, position, position_or_len, range_with_len}
use Rattle.std.proofs.lemmas.List.FromFn.{get_or-map-range_with_len}
use Rattle.std.proofs.lemmas.Bool.{cases_lt, lt-ltb}
use Rattle.std.proofs.lemmas.List.{length-map}
use Rattle.rje_text.proofs.NoneFound.{none_first}
use Rattle.bsc_codes.specs.CodePage.{ebcdic_of, page_037}
use Rattle.rje_jobs.specs.declared.cards.TheConstants.{CODES}
use Rattle.rje_jobs.specs.Deck.{AreCoded, code_or_zero, first_fault, line_fault}
use Rattle.rje_jobs.specs.declared.deck_fault.DeckFault.{DeckFault}
use Rattle.rje_jobs.specs.declared.deck_fault.DeckFault.TheVariants.{LongLine, BadCharacter}

abbrev lacks_code : ℕ → Bool
lacks_code c = is_none (ebcdic_of c)

neither : (a b : Bool) → (a || b) ≡ false → (a ≡ false) × (b ≡ false)
neither true b e = cc
neither false b e = (refl, e)

cases_le : (a b : ℕ) → a ≤ b → (b ≡ a) ⊎ (a + 1 ≤ b)
cases_le a b h = ⊎_elim (λ (l : a < b). inr (omega (arith, l))) (λ (g : b ≤ a). inl (omega (arith, g, h))) (cases_lt a b)

-- the whole table, computed
table_is : CODES ≡ map code_or_zero (range_with_len 0 256)
unfolding ebcdic_of page_037
table_is = refl

-- so each entry is the code of its place
pub entry_is : (c : ℕ) → c < 256 → get_or CODES c 0 ≡ code_or_zero c
entry_is c h = ap (λ t. get_or t c 0) table_is ∙ get_or-map-range_with_len code_or_zero 0 256 c c 0 h (omega arith)

with_code : (code : Option ℕ) (rest : List ℕ) → is_none code ≡ false → unwrap_or code 0 ∷ rest ≡ cons_option code rest
with_code None rest h = cc
with_code (Some c) rest h = refl

-- each character of a line that has no character without a code has one
from_none : (line : List ℕ) → length line ≤ position_or_len lacks_code line → AreCoded line
from_none [] h = tt
from_none (c ∷ line) h = by (from_none line) (lacks_code c) refl h
  where
    by : (length line ≤ position_or_len lacks_code line → AreCoded line) → (b : Bool) → lacks_code c ≡ b → length (c ∷ line) ≤ position_or_len lacks_code (c ∷ line) → AreCoded (c ∷ line)
    by rest true e h = let at : position_or_len lacks_code (c ∷ line) ≡ 0 = rw e refl in absurd (omega (arith, at, h))
    by rest false e h = let at : position_or_len lacks_code (c ∷ line) ≡ position_or_len lacks_code line + 1 = rw e (omega arith) in (e, rest (omega (arith, at, h)))

pub all_coded : (line : List ℕ) → position lacks_code line ≡ None → AreCoded line
all_coded line e =
    ⊎_elim
    (λ (h : position_or_len lacks_code line < length line). let found : position lacks_code line ≡ Some (position_or_len lacks_code line) = rw (lt-ltb (position_or_len lacks_code line) (length line) h) refl in cc (e, found))
    (λ (h : length line ≤ position_or_len lacks_code line). from_none line h)
    (cases_lt (position_or_len lacks_code line) (length line))

none_lacks : (line : List ℕ) → AreCoded line → list_any lacks_code line ≡ false
none_lacks [] h = refl
none_lacks (c ∷ line) h = rw h.0 (none_lacks line h.1)

-- and the other way round
pub none_bad : (line : List ℕ) → AreCoded line → position lacks_code line ≡ None
none_bad line h = none_first lacks_code line (none_lacks line h)

-- their codes are what the table gives
pub codes_are : (line : List ℕ) → AreCoded line → map code_or_zero line ≡ filter_map ebcdic_of line
codes_are [] h = refl
codes_are (c ∷ line) h = ap (λ rest. code_or_zero c ∷ rest) (codes_are line h.1) ∙ with_code (ebcdic_of c) (filter_map ebcdic_of line) h.0

-- each printable character has a code: the whole row of them, computed
printable_row : list_any lacks_code (range_with_len 0x20 95) ≡ false
unfolding ebcdic_of page_037
printable_row = refl

-- so where the least and the greatest of them are printable, all are
has_code : (c : ℕ) → 0x20 ≤ c → c ≤ 0x7E → lacks_code c ≡ false
has_code c low high = in_row 95 0x20 c printable_row low (omega (arith, high))
  where
    in_row : (n first c : ℕ) → list_any lacks_code (range_with_len first n) ≡ false → first ≤ c → c < first + n → lacks_code c ≡ false
    in_row zero first c h low high = absurd (omega (arith, low, high))
    in_row (suc n) first c h low high =
        let e = neither (lacks_code first) (list_any lacks_code (range_with_len (first + 1) n)) h in
        ⊎_elim (λ (is : c ≡ first). rw is e.0) (λ (more : first + 1 ≤ c). in_row n (first + 1) c e.1 more (omega (arith, high))) (cases_le first c low)

pub all_printable : (line : List ℕ) (least greatest : ℕ) → ((k : ℕ) → k < length line → (least ≤ get_or line k 0) × (get_or line k 0 ≤ greatest)) → 0x20 ≤ least → greatest ≤ 0x7E → AreCoded line
all_printable [] least greatest all low high = tt
all_printable (c ∷ line) least greatest all low high =
    let first = all 0 (omega arith) in
    (has_code c (omega (arith, low, first.0)) (omega (arith, high, first.1)), all_printable line least greatest (λ k h. all (suc k) (omega (arith, h))) low high)

-- the characters of a line without a fault have codes
pub sound_codes : (number : ℕ) (line : List ℕ) → line_fault number line ≡ None → AreCoded line
sound_codes number line h = by (nat_lt 80 (length line)) (position lacks_code line) refl h
  where
    by : (long : Bool) (bad : Option ℕ) → position lacks_code line ≡ bad → (if long then Some (LongLine number) else option_map (λ i. BadCharacter number (i + 1)) bad) ≡ None → AreCoded line
    by true bad e h = cc
    by false None e h = all_coded line e
    by false (Some i) e h = cc

-- so do those of the first of lines that have none
pub first_coded : (number : ℕ) (line : List ℕ) (rest : List (List ℕ)) → first_fault number (line ∷ rest) ≡ None → AreCoded line
first_coded number line rest h = sound_codes number line (first_none (line_fault number line) (first_fault (number + 1) rest) h)
  where
    first_none : (first later : Option DeckFault) → option_or first later ≡ None → first ≡ None
    first_none None later h = refl
    first_none (Some fault) later h = cc

-- and there are as many of them
pub length_codes : (line : List ℕ) → AreCoded line → length (filter_map ebcdic_of line) ≡ length line
length_codes line h = ap length (sym (codes_are line h)) ∙ length-map line code_or_zero
