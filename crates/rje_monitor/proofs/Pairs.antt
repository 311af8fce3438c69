-- Pairs of hexadecimal digits.
use Rattle.std.proofs.Common.{◌≡◌, ℕ, ◌/◌, ◌%◌, true, List, [], ◌∷◌, Some, codes, refl, sym, ap, subst, inl, inr}
use Rattle.std.specs.Prelude.{slice_get, ◌↔◌}
use Rattle.std.specs.Char.{is_ascii_hexdigit}
use Rattle.std.specs.List.{list_all}
use Rattle.std.proofs.lemmas.Option.{slice_get_within, get_or_from_slice_get}
use Rattle.std.proofs.lemmas.List.Elements.{All-get_or}
use Rattle.std.proofs.lemmas.List.Sums.{AllPass-from_list_all}
use Rattle.rje_monitor.specs.Turns.{IsHexDigit, IsPair, ArePairs, after_blanks}

at_digit : (digits : List ℕ) (value c : ℕ) → list_all is_ascii_hexdigit digits ≡ true → slice_get digits value ≡ Some c → is_ascii_hexdigit c ≡ true
at_digit digits value c all e =
    let within = slice_get_within digits value c e in
    let at = get_or_from_slice_get digits value c 0 e in
    rw (sym at) (All-get_or (λ c. is_ascii_hexdigit c ≡ true) digits value 0 within (AllPass-from_list_all is_ascii_hexdigit digits all))

-- the character of a hexadecimal digit
pub digit_character : (value c : ℕ) → IsHexDigit value c → is_ascii_hexdigit c ≡ true
digit_character value c (inl e) = at_digit (codes "0123456789ABCDEF") value c refl e
digit_character value c (inr e) = at_digit (codes "0123456789abcdef") value c refl e

-- of a text that begins with two bytes both are digits, where it has a first pair
pub pair_digits : (text behind : List ℕ) (high low b : ℕ) (rest : List ℕ) → text ≡ high ∷ low ∷ rest → IsPair b text behind → IsHexDigit (b / 16) high × IsHexDigit (b % 16) low
pair_digits text behind high low b rest e (x, y, is, is_high, is_low) =
    let same_high : high ≡ x = cc in
    let same_low : low ≡ y = cc in
    (rw same_high is_high, rw same_low is_low)

-- the text is pairs of some bytes
abbrev pub ArePairsOfSome : List ℕ → Type 0
ArePairsOfSome text = (bytes : List ℕ) × ArePairs bytes text

-- one text is pairs where the other is
abbrev pub HasSameEnd : (line rest : List ℕ) → Type 0
HasSameEnd line rest = ArePairsOfSome line ↔ ArePairsOfSome rest

-- behind the first pair come pairs
pub pairs_behind : (text behind : List ℕ) (b : ℕ) → IsPair b (after_blanks text) behind → ArePairsOfSome text → ArePairsOfSome behind
pairs_behind text behind b (high, low, e, is_high, is_low) ([], h) = let none : after_blanks text ≡ [] = ap after_blanks h in cc
pairs_behind text behind b (high, low, e, is_high, is_low) (v ∷ bytes, (other, (x, y, same, is_x, is_y), h)) =
    let tails : other ≡ behind = cc in (bytes, subst (λ (t : List ℕ). ArePairs bytes t) tails h)

-- a pair in front of pairs
pub pairs_with : (text behind : List ℕ) (b : ℕ) → IsPair b (after_blanks text) behind → ArePairsOfSome behind → ArePairsOfSome text
pairs_with text behind b pair (bytes, h) = (b ∷ bytes, (behind, pair, h))

-- the end moves on by one pair
pub same_end : (line text behind : List ℕ) (b : ℕ) → HasSameEnd line text → IsPair b (after_blanks text) behind → HasSameEnd line behind
same_end line text behind b h pair = (λ all. pairs_behind text behind b pair (h.0 all), λ all. h.1 (pairs_with text behind b pair all))

-- a text without a first pair has no byte, where it is pairs
pub pairs_end : (text : List ℕ) → ((b : ℕ) (behind : List ℕ) → ¬ (IsPair b (after_blanks text) behind)) → ArePairsOfSome text → text ≡ []
pairs_end text none ([], h) = h
pairs_end text none (b ∷ bytes, (behind, pair, h)) = absurd (none b behind pair)

-- no text is pairs of no bytes
pub pairs_none : (text : List ℕ) → text ≡ [] → ArePairsOfSome text
pairs_none text e = ([], e)
