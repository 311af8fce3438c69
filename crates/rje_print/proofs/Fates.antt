-- Words of fates: which bytes they hold, and what is no such word.
use Rattle.std.proofs.Common.{◌≡◌, inl, inr, ℕ, ◌/◌, ◌%◌, ◌^◌, ◌<◌, true, List, [], ◌∷◌, ◌++◌, length, codes, get_or, ap, slice_index, nat_lt, refl, subst, arith}
use Rattle.std.specs.Prelude.{decimal}
use Rattle.std.specs.Char.{is_ascii_hexdigit}
use Rattle.std.specs.List.{All, list_all}
use Rattle.std.specs.Str.Parse.{AllDigits}
use Rattle.std.proofs.lemmas.Bool.{ltb-true}
use Rattle.std.proofs.lemmas.Bool.Decides.{nat_tests}
use Rattle.std.proofs.lemmas.Fmt.{decimal_is_IsNumeral}
use Rattle.std.proofs.lemmas.Str.Parse.{digit_from_value}
use Rattle.std.proofs.lemmas.List.Elements.{All-nil, All-cons, All-head, All-tail, All-append, All-weaker, All-get_or}
use Rattle.std.proofs.lemmas.List.Sums.{AllPass-from_list_all}
use Rattle.line_world.specs.declared.fate.Fate.{Fate}
use Rattle.rje_print.specs.Script.{IsHexDigit, IsHexOf, IsFirstPair, HasFirstPair, IsDamageWord, IsFateWord, FitsMachine, IsFate, Lacks, IsSplit, places_text, cuts_text}
use Rattle.rje_print.proofs.Splits.{AreAbove, above_lack, no_split, split_is}

-- DECIMAL NUMBERS

digits_above : (ds : List ℕ) → AllDigits 10 ds → AreAbove 0x2C ds
digits_above [] h = All-nil (λ b. 0x2C < b)
digits_above (d ∷ ds) h =
    let range = digit_from_value d h.0 in
    All-cons (λ b. 0x2C < b) d ds (omega (arith, range.0)) (digits_above ds h.1)

-- a decimal number's bytes are above the comma
decimal_above : (n : ℕ) → n < 2 ^ 64 → AreAbove 0x2C (decimal n)
decimal_above n h = digits_above (decimal n) (decimal_is_IsNumeral n h).0.1

decimal_lacks_comma : (n : ℕ) → n < 2 ^ 64 → Lacks 0x2C (decimal n)
decimal_lacks_comma n h = above_lack 0x2C 0x2C (decimal n) (omega arith) (decimal_above n h)

above_blank : (bytes : List ℕ) → AreAbove 0x2C bytes → AreAbove 0x20 bytes
above_blank bytes h = All-weaker (λ b. 0x2C < b) (λ b. 0x20 < b) (λ b m. omega arith) bytes h

-- HEXADECIMAL DIGITS

-- the character is a hexadecimal digit of some value
abbrev pub IsSomeDigit : ℕ → Type 0
IsSomeDigit character = (value : ℕ) × (value < 16) × IsHexDigit value character

at_digit : (digits : List ℕ) (value c : ℕ) → list_all is_ascii_hexdigit digits ≡ true → value < length digits → c ≡ slice_index digits value
    → is_ascii_hexdigit c ≡ true
at_digit digits value c all h e =
    rw e (All-get_or (λ c. is_ascii_hexdigit c ≡ true) digits value 0 h (AllPass-from_list_all is_ascii_hexdigit digits all))

-- the character of a hexadecimal digit
pub digit_character : (value c : ℕ) → value < 16 → IsHexDigit value c → is_ascii_hexdigit c ≡ true
digit_character value c h (inl e) = at_digit (codes "0123456789ABCDEF") value c refl h e
digit_character value c h (inr e) = at_digit (codes "0123456789abcdef") value c refl h e

hex_character_above : (c : ℕ) → is_ascii_hexdigit c ≡ true → 0x20 < c
hex_character_above c h = grind (arith, nat_tests)

digit_above : (value c : ℕ) → value < 16 → IsHexDigit value c → 0x20 < c
digit_above value c h is = hex_character_above c (digit_character value c h is)

first_byte : (xs ys : List ℕ) → xs ≡ ys → get_or xs 0 0 ≡ get_or ys 0 0
first_byte xs ys e = ap (λ (zs : List ℕ). get_or zs 0 0) e

-- PLACES OF CUTS

-- the number fits the machine
abbrev pub IsPlace : ℕ → Type 0
IsPlace place = place < 2 ^ 64

-- the text of some places, one at least, that fit the machine
abbrev pub IsPlaces : List ℕ → Type 0
IsPlaces text = (place : ℕ) × (places : List ℕ) × All IsPlace (place ∷ places) × (text ≡ places_text (place ∷ places))

-- the text of a place that fits the machine
abbrev pub IsDecimal : List ℕ → Type 0
IsDecimal text = (place : ℕ) × (place < 2 ^ 64) × (text ≡ decimal place)

places_above : (place : ℕ) (places : List ℕ) → All IsPlace (place ∷ places) → AreAbove 0x20 (places_text (place ∷ places))
places_above place [] fit = above_blank (decimal place) (decimal_above place (All-head IsPlace place [] fit))
places_above place (next ∷ places) fit =
    All-append (λ b. 0x20 < b) (decimal place) (0x2C ∷ places_text (next ∷ places))
    (above_blank (decimal place) (decimal_above place (All-head IsPlace place (next ∷ places) fit)))
    (All-cons (λ b. 0x20 < b) 0x2C (places_text (next ∷ places)) (omega arith) (places_above next places (All-tail IsPlace place (next ∷ places) fit)))

-- without a comma there is one place
pub only_place : (text : List ℕ) → Lacks 0x2C text → IsPlaces text → IsDecimal text
only_place text none (place, [], fit, e) = (place, All-head IsPlace place [] fit, e)
only_place text none (place, next ∷ places, fit, e) = absurd (no_split 0x2C text (decimal place) (places_text (next ∷ places)) none e)

-- in front of the first comma is a place, and after it are more
pub first_place : (text front behind : List ℕ) → IsSplit 0x2C text front behind → IsPlaces text → IsDecimal front × IsPlaces behind
first_place text front behind split (place, [], fit, e) =
    let small = All-head IsPlace place [] fit in
    let parts : text ≡ front ++ 0x2C ∷ behind = split.0 in
    absurd (no_split 0x2C (decimal place) front behind (decimal_lacks_comma place small) cc)
first_place text front behind split (place, next ∷ places, fit, e) =
    let small = All-head IsPlace place (next ∷ places) fit in
    let parts = split_is 0x2C text front behind (decimal place) (places_text (next ∷ places)) split (decimal_lacks_comma place small) e in
    ((place, small, parts.0), (next, places, All-tail IsPlace place (next ∷ places) fit, parts.1))

cuts_are : (cuts text : List ℕ) → All IsPlace cuts → codes "ok:" ++ text ≡ cuts_text cuts → IsPlaces text
cuts_are [] text fit e = cc
cuts_are (place ∷ places) text fit e = (place, places, fit, cc)

damage_is_no_cut : (bytes text : List ℕ) → IsDamageWord bytes (codes "ok:" ++ text) → ⊥
damage_is_no_cut [] text h = h
damage_is_no_cut (b ∷ bytes) text (hex, is_hex, e) = let first : 111 ≡ 98 = first_byte _ _ e in omega (arith, first)

-- what stands after `ok:` in the word of a fate
pub places_are : (text : List ℕ) → IsFate (codes "ok:" ++ text) → IsPlaces text
places_are text (Fate.Arrives cuts, e, fit) = cuts_are cuts.items text fit e
places_are text (Fate.Lost, e, fit) = let first : 111 ≡ 108 = first_byte _ _ e in absurd (omega (arith, first))
places_are text (Fate.Damaged bytes, e, fit) = absurd (damage_is_no_cut bytes.items text e)

-- DAMAGE

-- the byte fits the machine
abbrev pub IsByte : ℕ → Type 0
IsByte b = b < 2 ^ 8

-- the text of some bytes in hexadecimal
abbrev pub IsHexText : List ℕ → Type 0
IsHexText text = (bytes : List ℕ) × All IsByte bytes × IsHexOf bytes text

-- after the first pair comes such a text again
pub hex_behind : (text rest : List ℕ) (b : ℕ) → IsFirstPair text b rest → IsHexText text → IsHexText rest
hex_behind text rest b (high, low, e, is_high, is_low) ([], fit, h) = cc
hex_behind (x ∷ y ∷ text) rest b (high, low, e, is_high, is_low) (v ∷ bytes, fit, h) =
    (bytes, All-tail IsByte v bytes fit, let behind : text ≡ rest = cc in subst (λ (t : List ℕ). IsHexOf bytes t) behind h.2)
hex_behind [] rest b (high, low, e, is_high, is_low) (v ∷ bytes, fit, h) = cc
hex_behind (x ∷ []) rest b (high, low, e, is_high, is_low) (v ∷ bytes, fit, h) = cc

-- such a text has a first pair, but where it is empty
pub hex_begins : (text : List ℕ) → 0 < length text → IsHexText text → HasFirstPair text
hex_begins [] some h = absurd (omega (arith, some))
hex_begins (x ∷ text) some ([], fit, h) = cc
hex_begins (x ∷ []) some (b ∷ bytes, fit, h) = absurd h
hex_begins (x ∷ y ∷ text) some (b ∷ bytes, fit, h) = (b, text, All-head IsByte b bytes fit, (x, y, refl, h.0, h.1))

-- of a text that begins with two bytes both are digits, where it has a first pair
pub pair_digits : (text rest : List ℕ) (high low : ℕ) → text ≡ high ∷ low ∷ rest → HasFirstPair text → IsSomeDigit high × IsSomeDigit low
pair_digits text rest high low e (b, behind, fit, (x, y, is, is_high, is_low)) =
    let same_high : high ≡ x = cc in
    let same_low : low ≡ y = cc in
    ((b / 16, omega arith, rw same_high is_high), (b % 16, omega arith, rw same_low is_low))

damage_hex : (bytes text : List ℕ) → All IsByte bytes → IsDamageWord bytes (codes "bad:" ++ text) → (0 < length text) × IsHexText text
damage_hex [] text fit h = absurd h
damage_hex (b ∷ bytes) [] fit ([], is_hex, e) = absurd is_hex
damage_hex (b ∷ bytes) [] fit (x ∷ hex, is_hex, e) = cc
damage_hex (b ∷ bytes) (x ∷ text) fit (hex, is_hex, e) =
    let same : hex ≡ x ∷ text = cc in
    (omega arith, (b ∷ bytes, fit, subst (λ (t : List ℕ). IsHexOf (b ∷ bytes) t) same is_hex))

cuts_are_no_damage : (cuts text : List ℕ) → codes "bad:" ++ text ≡ cuts_text cuts → ⊥
cuts_are_no_damage [] text e = let first : 98 ≡ 111 = first_byte _ _ e in omega (arith, first)
cuts_are_no_damage (place ∷ places) text e = let first : 98 ≡ 111 = first_byte _ _ e in omega (arith, first)

-- what stands after `bad:` in the word of a fate
pub hex_is : (text : List ℕ) → IsFate (codes "bad:" ++ text) → (0 < length text) × IsHexText text
hex_is text (Fate.Arrives cuts, e, fit) = absurd (cuts_are_no_damage cuts.items text e)
hex_is text (Fate.Lost, e, fit) = let first : 98 ≡ 108 = first_byte _ _ e in absurd (omega (arith, first))
hex_is text (Fate.Damaged bytes, e, fit) = damage_hex bytes.items text fit e

-- ANY FATE

hex_above : (bytes text : List ℕ) → All IsByte bytes → IsHexOf bytes text → AreAbove 0x20 text
hex_above [] text fit h = rw h (All-nil (λ b. 0x20 < b))
hex_above (b ∷ bytes) [] fit h = absurd h
hex_above (b ∷ bytes) (x ∷ []) fit h = absurd h
hex_above (b ∷ bytes) (high ∷ low ∷ text) fit h =
    let small : b < 2 ^ 8 = All-head IsByte b bytes fit in
    All-cons (λ b. 0x20 < b) high (low ∷ text) (digit_above (b / 16) high (omega arith) h.0)
    (All-cons (λ b. 0x20 < b) low text (digit_above (b % 16) low (omega arith) h.1) (hex_above bytes text (All-tail IsByte b bytes fit) h.2))

pub codes_above : (bytes : List ℕ) → list_all (nat_lt 0x20) bytes ≡ true → AreAbove 0x20 bytes
codes_above bytes h = All-weaker (λ b. nat_lt 0x20 b ≡ true) (λ b. 0x20 < b) (λ b t. ltb-true 0x20 b t) bytes (AllPass-from_list_all (nat_lt 0x20) bytes h)

cuts_above : (cuts : List ℕ) → All IsPlace cuts → AreAbove 0x20 (cuts_text cuts)
cuts_above [] fit = codes_above (codes "ok") refl
cuts_above (place ∷ places) fit =
    All-append (λ b. 0x20 < b) (codes "ok:") (places_text (place ∷ places)) (codes_above (codes "ok:") refl) (places_above place places fit)

damage_above : (bytes word : List ℕ) → All IsByte bytes → IsDamageWord bytes word → AreAbove 0x20 word
damage_above [] word fit h = absurd h
damage_above (b ∷ bytes) word fit (hex, is_hex, e) =
    rw e (All-append (λ b. 0x20 < b) (codes "bad:") hex (codes_above (codes "bad:") refl) (hex_above (b ∷ bytes) hex fit is_hex))

fate_above : (fate : Fate) (word : List ℕ) → IsFateWord fate word → FitsMachine fate → AreAbove 0x20 word
fate_above (Fate.Arrives cuts) word h fit = rw h (cuts_above cuts.items fit)
fate_above Fate.Lost word h fit = rw h (codes_above (codes "lost") refl)
fate_above (Fate.Damaged bytes) word h fit = damage_above bytes.items word fit h

-- the word of a fate has no blank in it
pub fate_lacks_blank : (word : List ℕ) → IsFate word → Lacks 0x20 word
fate_lacks_blank word (fate, h, fit) = above_lack 0x20 0x20 word (omega arith) (fate_above fate word h fit)
