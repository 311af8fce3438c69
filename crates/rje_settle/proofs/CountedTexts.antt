-- A number and a digest at the front of a text: they stand there in one way.
use Rattle.std.proofs.Common.{◌≡◌, ℕ, ◌<◌, ◌≤◌, ◌^◌, List, [], ◌∷◌, ◌++◌, ◌-◌, length, length-append, refl, ap, sym, ◌∙◌, append_assoc, arith, lit<, take}
use Rattle.std.specs.Prelude.{codes, decimal, replicate}
use Rattle.std.specs.Str.Parse.{AllDigits}
use Rattle.std.proofs.Math.Seq.{take-append_seam}
use Rattle.std.proofs.lemmas.Fmt.{decimal_injective, decimal_is_IsNumeral}
use Rattle.std.proofs.lemmas.List.{append_cancel_left}
use Rattle.std.proofs.lemmas.List.Elements.{All-cons, All-nil}
use Rattle.std.proofs.lemmas.Str.Parse.{digit_from_value}
use Rattle.hex.specs.Hex.{decode_of, encode_lower, lower_digits}
use Rattle.hex.proofs.HexLemmas.{decode_of-encode_lower, length-encode_with}
use Rattle.rje_settle.specs.declared.receipt.Receipt.{Receipt}
use Rattle.rje_settle.specs.Digest.{IsDigest}
use Rattle.rje_settle.specs.Receipt.{CanBeSaid, IsReceiptCard, counted_text, receipt_words}
use Rattle.rje_settle.specs.Inside.Splitting.{IsSplit, Lacks}
use Rattle.rje_settle.specs.Laws.{CardsTellReceipts}
use Rattle.rje_settle.proofs.Splits.{AreAbove, above_lack, no_split, one_split, split_is}

digits_above : (ds : List ℕ) → AllDigits 10 ds → AreAbove 0x2F ds
digits_above [] h = All-nil (λ b. 0x2F < b)
digits_above (d ∷ ds) h =
    let range = digit_from_value d h.0 in
    All-cons (λ b. 0x2F < b) d ds (omega (arith, range.0)) (digits_above ds h.1)

-- a decimal number lacks what is below the digits
pub decimal_lacks : (byte n : ℕ) → byte < 48 → n < 2 ^ 64 → Lacks byte (decimal n)
decimal_lacks byte n low h = above_lack 0x2F byte (decimal n) (omega arith) (digits_above (decimal n) (decimal_is_IsNumeral n h).0.1)

-- where a text begins with a number and a digest, its split has them
pub front_parts : (byte : ℕ) (text front behind : List ℕ) (r : Receipt) (x : List ℕ) → byte < 48 → CanBeSaid r → IsSplit byte text front behind
    → text ≡ counted_text byte r ++ x → (front ≡ decimal r.kept) × (behind ≡ encode_lower r.digest.bytes ++ x)
unfolding counted_text
front_parts byte text front behind r x low can split e =
    split_is byte text front behind (decimal r.kept) (encode_lower r.digest.bytes ++ x) split (decimal_lacks byte r.kept low can.number)
    (e ∙ append_assoc (decimal r.kept) (byte ∷ encode_lower r.digest.bytes) x)

-- a digest has forty digits
pub forty : (bytes : List ℕ) → IsDigest bytes → length (encode_lower bytes) ≡ 40
forty bytes is = let twice = length-encode_with lower_digits bytes in omega (arith, twice, is.0)

pub same_digest : (b c : List ℕ) → IsDigest b → IsDigest c → encode_lower b ≡ encode_lower c → b ≡ c
same_digest b c is_b is_c e =
    let one = decode_of-encode_lower b is_b.1 in
    let two = decode_of-encode_lower c is_c.1 in
    let both : decode_of (encode_lower b) ≡ decode_of (encode_lower c) = ap decode_of e in
    cc

-- a text that lacks the byte between them doesn't begin so
pub not_split : (byte : ℕ) (text : List ℕ) (r : Receipt) (x : List ℕ) → Lacks byte text → text ≡ counted_text byte r ++ x → ⊥
unfolding counted_text
not_split byte text r x none e =
    no_split byte text (decimal r.kept) (encode_lower r.digest.bytes ++ x) none (e ∙ append_assoc (decimal r.kept) (byte ∷ encode_lower r.digest.bytes) x)

pub first_forty : (bytes rest x : List ℕ) → IsDigest bytes → rest ≡ encode_lower bytes ++ x → take 40 rest ≡ encode_lower bytes
first_forty bytes rest x is e = rw (e, sym (forty bytes is)) (take-append_seam (encode_lower bytes) x)

pub forty_behind : (bytes rest x : List ℕ) → IsDigest bytes → rest ≡ encode_lower bytes ++ x → 40 ≤ length rest
forty_behind bytes rest x is e = omega (arith, forty bytes is, length-append (encode_lower bytes) x, ap length e)

same_receipt : (r q : Receipt) → r.kept ≡ q.kept → r.digest.bytes ≡ q.digest.bytes → r ≡ q
same_receipt r q number digest =
    let by_number : r ≡ record { kept = q.kept; digest = r.digest } = ap (λ (n : ℕ). record { kept = n; digest = r.digest }) number in
    by_number ∙ ap (λ (bs : List ℕ). record { kept = q.kept; digest = record { bytes = bs } }) digest

-- they stand there in one way
pub one_front : (byte : ℕ) (r q : Receipt) (x y : List ℕ) → byte < 48 → CanBeSaid r → CanBeSaid q → counted_text byte r ++ x ≡ counted_text byte q ++ y
    → (r ≡ q) × (x ≡ y)
unfolding counted_text
one_front byte r q x y low can_r can_q e =
    let long : decimal r.kept ++ byte ∷ (encode_lower r.digest.bytes ++ x) ≡ decimal q.kept ++ byte ∷ (encode_lower q.digest.bytes ++ y) =
    sym (append_assoc (decimal r.kept) (byte ∷ encode_lower r.digest.bytes) x) ∙ e ∙ append_assoc (decimal q.kept) (byte ∷ encode_lower q.digest.bytes) y in
    let parts = one_split byte (decimal r.kept) (encode_lower r.digest.bytes ++ x) (decimal q.kept) (encode_lower q.digest.bytes ++ y)
    (decimal_lacks byte r.kept low can_r.number) (decimal_lacks byte q.kept low can_q.number) long in
    let number = decimal_injective r.kept q.kept can_r.number can_q.number parts.0 in
    let digits = sym (first_forty r.digest.bytes (encode_lower r.digest.bytes ++ x) x can_r.digest refl)
    ∙ first_forty q.digest.bytes (encode_lower r.digest.bytes ++ x) y can_q.digest parts.1 in
    let digest = same_digest r.digest.bytes q.digest.bytes can_r.digest can_q.digest digits in
    let same : encode_lower r.digest.bytes ++ x ≡ encode_lower r.digest.bytes ++ y = parts.1 ∙ ap (λ (d : List ℕ). d ++ y) (sym digits) in
    (same_receipt r q number digest, append_cancel_left (encode_lower r.digest.bytes) x y same)

-- how a card begins, and what stands behind that
pub words_behind : Receipt → List ℕ
words_behind r = replicate (80 - length (receipt_words r)) 0x20

pub card_is : (card : List ℕ) (r : Receipt) → IsReceiptCard card r → card ≡ codes "RJE/SETTLE 1 KEPT " ++ (counted_text 0x20 r ++ words_behind r)
unfolding receipt_words words_behind
card_is card r is = is

-- a receipt has one card
pub same_card : (card other : List ℕ) (r q : Receipt) → r ≡ q → IsReceiptCard card r → IsReceiptCard other q → card ≡ other
same_card card other r q e is is_other = is ∙ ap (λ (s : Receipt). receipt_words s ++ replicate (80 - length (receipt_words s)) 0x20) e ∙ sym is_other

-- and a card has one receipt
pub cards_tell_receipts : CardsTellReceipts
cards_tell_receipts card r q can_r can_q is_r is_q =
    let rest : counted_text 0x20 r ++ words_behind r ≡ counted_text 0x20 q ++ words_behind q =
    append_cancel_left (codes "RJE/SETTLE 1 KEPT ") (counted_text 0x20 r ++ words_behind r) (counted_text 0x20 q ++ words_behind q)
    (sym (card_is card r is_r) ∙ card_is card q is_q) in
    (one_front 0x20 r q (words_behind r) (words_behind q) (lit< tt) can_r can_q rest).0
