-- The first line of a deck, by the place of its LF.
use Rattle.std.proofs.Common.{◌≡◌, ℕ, ◌+◌, ◌<◌, ◌≤◌, Bool, false, eqb, List, [], ◌∷◌, length, take, drop, Some, None, refl, ap, ◌∙◌, arith, ⊎_elim}
use Rattle.std.specs.List.{slice_split, position, position_or_len, before_first, after_first}
use Rattle.std.specs.Str.Lines.{lines, lines_of_parts, strip_carriage_return}
use Rattle.std.proofs.lemmas.Bool.{cases_lt, lt-ltb, le-ltb}
use Rattle.std.proofs.lemmas.Bool.Decides.{nat_tests}
use Rattle.std.proofs.lemmas.List.Sums.{fails_before_first}
use Rattle.std.proofs.lemmas.List.Splits.{slice_split_first, slice_split_none, length-slice_split}

abbrev is_lf : ℕ → Bool
is_lf b = eqb b 10

lines_of_parts-cons : (part : List ℕ) (parts : List (List ℕ)) → 0 < length parts → lines_of_parts (part ∷ parts) ≡ strip_carriage_return part ∷ lines_of_parts parts
lines_of_parts-cons part [] h = absurd (omega (arith, h))
lines_of_parts-cons part (next ∷ parts) h = refl

positive : (n : ℕ) → 0 < n → eqb n 0 ≡ false
positive n h = grind (arith, nat_tests)

-- an LF ends the first line
first_line : (deck : List ℕ) → position_or_len is_lf deck < length deck
    → lines deck ≡ strip_carriage_return (before_first is_lf deck) ∷ lines (after_first is_lf deck)
first_line deck h =
    ap lines_of_parts (slice_split_first is_lf deck 0 h)
    ∙ lines_of_parts-cons (before_first is_lf deck) (slice_split is_lf (after_first is_lf deck)) (omega (arith, length-slice_split is_lf (after_first is_lf deck)))

-- without an LF the deck is one line
only_line : (deck : List ℕ) → 0 < length deck → length deck ≤ position_or_len is_lf deck → lines deck ≡ deck ∷ []
only_line deck p h =
    let one : slice_split is_lf deck ≡ deck ∷ [] = slice_split_none is_lf deck (λ k e m. fails_before_first is_lf deck k e (omega (arith, h, m))) in
    ap lines_of_parts one ∙ rw (positive (length deck) p) refl

found : (deck : List ℕ) → position_or_len is_lf deck < length deck → position is_lf deck ≡ Some (position_or_len is_lf deck)
found deck h = rw (lt-ltb (position_or_len is_lf deck) (length deck) h) refl

not_found : (deck : List ℕ) → length deck ≤ position_or_len is_lf deck → position is_lf deck ≡ None
not_found deck h = rw (le-ltb (position_or_len is_lf deck) (length deck) h) refl

-- the first line where the first LF stands at end
pub line_at : (deck : List ℕ) (end : ℕ) → Some end ≡ position is_lf deck → lines deck ≡ strip_carriage_return (take end deck) ∷ lines (drop (end + 1) deck)
line_at deck end e =
    ⊎_elim
    (λ (h : position_or_len is_lf deck < length deck). let at : end ≡ position_or_len is_lf deck = cc (e, found deck h) in rw at (first_line deck h))
    (λ (h : length deck ≤ position_or_len is_lf deck). cc (e, not_found deck h))
    (cases_lt (position_or_len is_lf deck) (length deck))

-- the one line where no LF stands
pub line_alone : (deck : List ℕ) → 0 < length deck → None ≡ position is_lf deck → lines deck ≡ deck ∷ []
line_alone deck p e =
    ⊎_elim
    (λ (h : position_or_len is_lf deck < length deck). cc (e, found deck h))
    (λ (h : length deck ≤ position_or_len is_lf deck). only_line deck p h)
    (cases_lt (position_or_len is_lf deck) (length deck))
