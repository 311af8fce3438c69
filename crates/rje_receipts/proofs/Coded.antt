-- The characters of a receipt's card have codes, each of which stands for its character.
use Rattle.std.proofs.Common.{◌≡◌, ℕ, zero, suc, ◌-◌, ◌/◌, ◌%◌, ◌<◌, ◌≤◌, ◌^◌, List, [], ◌∷◌, ◌++◌, length, map, get_or, replicate, refl, ap, sym, ◌∙◌, arith}
use Rattle.std.specs.Prelude.{codes, decimal}
use Rattle.std.specs.List.{range_with_len}
use Rattle.std.specs.Str.Parse.{AllDigits}
use Rattle.std.proofs.lemmas.Fmt.{decimal_is_IsNumeral}
use Rattle.std.proofs.lemmas.List.{map-append}
use Rattle.std.proofs.lemmas.List.FromFn.{get_or-map-range_with_len}
use Rattle.std.proofs.lemmas.Str.Parse.{digit_from_value}
use Rattle.hex.specs.Hex.{IsBytes, encode_lower, encode_with, lower_digits}
use Rattle.bsc_codes.specs.CodePage.{ascii_of, ebcdic_of, page_037}
use Rattle.rje_jobs.specs.Ascii.{ascii, shown}
use Rattle.rje_jobs.specs.Deck.{code_or_zero}
use Rattle.rje_settle.specs.Receipt.{IsReceiptCard, counted_text, receipt_words}
use Rattle.rje_settle.specs.declared.receipt.Receipt.{Receipt}

-- what the code of a character stands for
abbrev back : ℕ → ℕ
back c = shown (code_or_zero c)

-- that is the character, if it is printable: the whole row of them, computed
row_back : map back (range_with_len 0x20 95) ≡ map (λ (c : ℕ). c) (range_with_len 0x20 95)
unfolding ebcdic_of ascii_of page_037
row_back = refl

printable_back : (c : ℕ) → 0x20 ≤ c → c ≤ 0x7E → back c ≡ c
printable_back c low high =
    sym (get_or-map-range_with_len back 0x20 95 (c - 0x20) c 0 (omega (arith, low, high)) (omega (arith, low)))
    ∙ ap (λ l. get_or l (c - 0x20) 0) row_back
    ∙ get_or-map-range_with_len (λ (c : ℕ). c) 0x20 95 (c - 0x20) c 0 (omega (arith, low, high)) (omega (arith, low))

words_back : map back (codes "RJE/SETTLE 1 KEPT ") ≡ codes "RJE/SETTLE 1 KEPT "
unfolding ebcdic_of ascii_of page_037
words_back = refl

blanks_back : (n : ℕ) → map back (replicate n 0x20) ≡ replicate n 0x20
blanks_back zero = refl
blanks_back (suc n) = ap (λ (rest : List ℕ). back 0x20 ∷ rest) (blanks_back n) ∙ ap (λ c. c ∷ replicate n 0x20) (printable_back 0x20 (omega arith) (omega arith))

digits_back : (digits : List ℕ) → AllDigits 10 digits → map back digits ≡ digits
digits_back [] all = refl
digits_back (c ∷ digits) all =
    let within = digit_from_value c all.0 in
    ap (λ (rest : List ℕ). back c ∷ rest) (digits_back digits all.1) ∙ ap (λ d. d ∷ digits) (printable_back c (omega (arith, within)) (omega (arith, within)))

hex_row_back : map back lower_digits ≡ lower_digits
unfolding ebcdic_of ascii_of page_037
hex_row_back = refl

one_back : (t : List ℕ) (d : ℕ) → d < length t → map back t ≡ t → back (get_or t d 0) ≡ get_or t d 0
one_back [] d h e = absurd (omega (arith, h))
one_back (c ∷ t) zero h e = ap (λ l. get_or l 0 0) e
one_back (c ∷ t) (suc d) h e = one_back t d (omega (arith, h)) (ap drop_first e) where
  drop_first : List ℕ → List ℕ
  drop_first [] = []
  drop_first (x ∷ rest) = rest

hex_back : (bytes : List ℕ) → IsBytes bytes → map back (encode_lower bytes) ≡ encode_lower bytes
unfolding encode_with
hex_back [] is = refl
hex_back (b ∷ bytes) is =
    let byte : b < 256 = is 0 in
    let high : back (get_or lower_digits (b / 16) 0) ≡ get_or lower_digits (b / 16) 0 = one_back lower_digits (b / 16) (omega (arith, byte)) hex_row_back in
    let low : back (get_or lower_digits (b % 16) 0) ≡ get_or lower_digits (b % 16) 0 = one_back lower_digits (b % 16) (omega arith) hex_row_back in
    ap (λ (rest : List ℕ). back (get_or lower_digits (b / 16) 0) ∷ back (get_or lower_digits (b % 16) 0) ∷ rest) (hex_back bytes (λ i. is (suc i)))
    ∙ ap (λ x. x ∷ back (get_or lower_digits (b % 16) 0) ∷ encode_lower bytes) high
    ∙ ap (λ x. get_or lower_digits (b / 16) 0 ∷ x ∷ encode_lower bytes) low

-- two texts, one after the other
both_back : (a b : List ℕ) → map back a ≡ a → map back b ≡ b → map back (a ++ b) ≡ a ++ b
both_back a b e f = map-append back a b ∙ rw (e, f) refl

-- the codes of a receipt's card stand for its characters
pub card_back : (card : List ℕ) (r : Receipt) → r.kept < 2 ^ 64 → IsBytes r.digest.bytes → IsReceiptCard card r → map back card ≡ card
unfolding receipt_words counted_text
card_back card r number digest is =
    let text : map back (counted_text 0x20 r) ≡ counted_text 0x20 r =
    both_back (decimal r.kept) (0x20 ∷ encode_lower r.digest.bytes) (digits_back (decimal r.kept) (decimal_is_IsNumeral r.kept number).0.1)
    (ap (λ (rest : List ℕ). back 0x20 ∷ rest) (hex_back r.digest.bytes digest) ∙ ap (λ c. c ∷ encode_lower r.digest.bytes) (printable_back 0x20 (omega arith) (omega arith))) in
    let words : map back (receipt_words r) ≡ receipt_words r = both_back (codes "RJE/SETTLE 1 KEPT ") (counted_text 0x20 r) words_back text in
    rw is (both_back (receipt_words r) (replicate (80 - length (receipt_words r)) 0x20) words (blanks_back (80 - length (receipt_words r))))

-- so the card is read of its codes
pub card_read : (card : List ℕ) (r : Receipt) → r.kept < 2 ^ 64 → IsBytes r.digest.bytes → IsReceiptCard card r → ascii (map code_or_zero card) ≡ card
card_read card r number digest is = twice card ∙ card_back card r number digest is where
  twice : (l : List ℕ) → map shown (map code_or_zero l) ≡ map back l
  twice [] = refl
  twice (c ∷ l) = ap (λ (rest : List ℕ). back c ∷ rest) (twice l)
