-- The register's shifts divide.
use Rattle.std.proofs.Common.{◌≡◌, ℕ, zero, suc, ◌+◌, ◌-◌, ◌*◌, ◌/◌, ◌%◌, ◌^◌, ◌<◌, Bool, true, false, cond, eqb, List, [], ◌∷◌, ◌++◌, length, replicate, take, drop, refl, ap, sym, ◌∙◌, subst, arith, append_assoc, length-append, length-take, length-drop, get_or, take-append-drop, append-nil, inl, inr, ◌⊎◌}
use Rattle.std.proofs.Math.Nat.{suc-add, pow-succ'}
use Rattle.std.proofs.lemmas.Nat.{xor_shr, xor_mod, pow_pos, xor_comm, xor_lt, shr-shr, div-add-mod', mod_below, mod-mul-add}
use Rattle.std.proofs.lemmas.Bool.{cond_both, cases_eq}
use Rattle.std.specs.Prelude.{bit_xor}
use Rattle.std.specs.List.{flat_map}
use Rattle.bsc_check.specs.Polynomials.{plus, add_at_front, generator_tail, cancel, remainder}
use Rattle.bsc_check.specs.Check.{low_bits, from_bits, polynomial, check_of, IsCheckOf}
use Rattle.bsc_check.specs.Inside.Shifts.{shift, shifts, register_after}
use Rattle.bsc_check.proofs.Division.{add_front_only, cancel_behind, cancel-add, length-cancel}

-- the low `k` bits are `k` bits
pub length-low_bits : (k n : ℕ) → length (low_bits k n) ≡ k
length-low_bits zero n = refl
length-low_bits (suc k) n = ap suc (length-low_bits k (n / 2))

-- a bit is zero or one
pub bit_cases : (a : ℕ) → (a % 2 ≡ 0) ⊎ (a % 2 ≡ 1)
bit_cases a = elim (cases_eq (a % 2) 0) [ inl e ↦ inl e | inr e ↦ inr (omega arith) ]

xor_bit : (a b : ℕ) → eqb (bit_xor a b % 2) 1 ≡ plus (eqb (a % 2) 1) (eqb (b % 2) 1)
xor_bit a b =
    let m = xor_mod a b 1 in
    elim (bit_cases a) [
      | inl p ↦ elim (bit_cases b) [ inl q ↦ rw (m, p, q) refl | inr q ↦ rw (m, p, q) refl ]
      | inr p ↦ elim (bit_cases b) [ inl q ↦ rw (m, p, q) refl | inr q ↦ rw (m, p, q) refl ]
    ]

-- the bits of a sum without carries are the sums of the bits
pub low_bits-xor : (k a b : ℕ) → low_bits k (bit_xor a b) ≡ add_at_front (low_bits k a) (low_bits k b)
low_bits-xor zero a b = refl
low_bits-xor (suc k) a b =
    let e : low_bits k (bit_xor (a / 2) (b / 2)) ≡ add_at_front (low_bits k (a / 2)) (low_bits k (b / 2)) = low_bits-xor k (a / 2) (b / 2) in
    let f : bit_xor a b / 2 ≡ bit_xor (a / 2) (b / 2) = xor_shr a b 1 in
    let g : eqb (bit_xor a b % 2) 1 ≡ plus (eqb (a % 2) 1) (eqb (b % 2) 1) = xor_bit a b in
    cc

-- a number below 2 ^ k has no more bits
pub low_bits_more : (k n : ℕ) → n < 2 ^ k → low_bits (suc k) n ≡ low_bits k n ++ false ∷ []
low_bits_more zero n h = let e : n ≡ 0 = omega arith in rw e refl
low_bits_more (suc k) n h = ap (λ v. eqb (n % 2) 1 ∷ v) (low_bits_more k (n / 2) (omega arith))

no_bits : (m : ℕ) → low_bits m 0 ≡ replicate m false
no_bits zero = refl
no_bits (suc m) = ap (λ v. false ∷ v) (no_bits m)

-- bits above the highest are zero
more_bits : (k m n : ℕ) → n < 2 ^ k → low_bits (k + m) n ≡ low_bits k n ++ replicate m false
more_bits zero m n h = rw (let e : 0 + m ≡ m = omega arith in e) (let e : n ≡ 0 = omega arith in rw e (no_bits m))
more_bits (suc k) m n h = rw (suc-add k m) (ap (λ v. eqb (n % 2) 1 ∷ v) (more_bits k m (n / 2) (omega arith)))

by_carry : (c : ℕ) (rest : List Bool) (d : ℕ) → d ≡ c / 2 → (b : Bool) → d < 2 ^ 15 → cancel 1 (b ∷ low_bits 15 d ++ false ∷ rest) ≡ low_bits 16 (cond b (bit_xor d 0xA001) d) ++ rest
by_carry c rest d e false h = sym (ap (λ v. v ++ rest) (low_bits_more 15 d h) ∙ append_assoc (low_bits 15 d) (false ∷ []) rest)
by_carry c rest d e true h =
    ap (add_at_front generator_tail) (sym (ap (λ v. v ++ rest) (low_bits_more 15 d h) ∙ append_assoc (low_bits 15 d) (false ∷ []) rest))
    ∙ add_front_only generator_tail (low_bits 16 d) rest (omega (arith, length-low_bits 16 d))
    ∙ ap (λ v. v ++ rest) (sym (ap (low_bits 16) (xor_comm d 0xA001) ∙ low_bits-xor 16 0xA001 d))

half_below : (n : ℕ) → n < 2 ^ 16 → n / 2 < 2 ^ 15
half_below n h = omega arith

-- one shift cancels one coefficient
pub cancel_one : (c : ℕ) (rest : List Bool) → c < 2 ^ 16 → cancel 1 (low_bits 16 c ++ false ∷ rest) ≡ low_bits 16 (shift c) ++ rest
cancel_one c rest h = by_carry c rest (c / 2) refl (eqb (c % 2) 1) (half_below c h)

-- a shift keeps to sixteen bits
pub shift_below : (c : ℕ) → c < 2 ^ 16 → shift c < 2 ^ 16
shift_below c h = cond_both (eqb (c % 2) 1) (bit_xor (c / 2) 0xA001) (c / 2) (λ n. n < 2 ^ 16) (λ _. xor_lt 16 (c / 2) 0xA001 (omega arith) (omega arith)) (λ _. omega arith)

-- and so do many
pub shifts_below : (n c : ℕ) → c < 2 ^ 16 → shifts n c < 2 ^ 16
unfolding shifts
shifts_below zero c h = h
shifts_below (suc n) c h = shifts_below n (shift c) (shift_below c h)

-- `n` shifts cancel `n` coefficients
pub cancel_shifts : (n c : ℕ) (rest : List Bool) → c < 2 ^ 16 → cancel n (low_bits 16 c ++ (replicate n false ++ rest)) ≡ low_bits 16 (shifts n c) ++ rest
unfolding shifts
cancel_shifts zero c rest h = refl
cancel_shifts (suc n) c rest h =
    ap (λ m. cancel m (low_bits 16 c ++ (false ∷ (replicate n false ++ rest)))) (let e : suc n ≡ 1 + n = omega arith in e)
    ∙ cancel-add 1 n (low_bits 16 c ++ (false ∷ (replicate n false ++ rest)))
    ∙ ap (cancel n) (cancel_one c (replicate n false ++ rest) h)
    ∙ cancel_shifts n (shift c) rest (shift_below c h)

-- the coefficients of the bytes
abbrev pub message : List ℕ → List Bool
message bytes = flat_map (low_bits 8) bytes

-- the remainder of coefficients followed by sixteen zeros
pub remainder_of : (b : List Bool) → remainder (b ++ replicate 16 false) ≡ cancel (length b) (b ++ replicate 16 false)
remainder_of b = ap (λ n. cancel n (b ++ replicate 16 false)) (omega (arith, length-append b (replicate 16 false)))

-- the coefficients of one more byte come last
pub message_push : (bytes : List ℕ) (x : ℕ) → message (bytes ++ x ∷ []) ≡ message bytes ++ low_bits 8 x
message_push [] x = append-nil (low_bits 8 x)
message_push (y ∷ bytes) x = ap (λ v. low_bits 8 y ++ v) (message_push bytes x) ∙ sym (append_assoc (low_bits 8 y) (message bytes) (low_bits 8 x))

-- a byte has no bits above its eighth
pub byte_bits : (x : ℕ) → x < 2 ^ 8 → low_bits 16 x ≡ low_bits 8 x ++ replicate 8 false
byte_bits x h = more_bits 8 8 x h

-- the register and a byte, after eight shifts
shifts_byte : (c x : ℕ) → c < 2 ^ 16 → x < 2 ^ 8 → low_bits 16 (shifts 8 (bit_xor c x)) ≡ cancel 8 (add_at_front (low_bits 16 c) (low_bits 8 x ++ replicate 16 false))
shifts_byte c x hc hx =
    sym (append-nil (low_bits 16 (shifts 8 (bit_xor c x))))
    ∙ sym (cancel_shifts 8 (bit_xor c x) [] (xor_lt 16 c x hc (omega arith)))
    ∙ ap (λ v. cancel 8 (v ++ replicate 8 false)) (low_bits-xor 16 c x)
    ∙ ap (cancel 8) (sym (add_front_only (low_bits 16 c) (low_bits 16 x) (replicate 8 false) (omega (arith, length-low_bits 16 c, length-low_bits 16 x))))
    ∙ ap (λ v. cancel 8 (add_at_front (low_bits 16 c) (v ++ replicate 8 false))) (byte_bits x hx)
    ∙ ap (λ v. cancel 8 (add_at_front (low_bits 16 c) v)) (append_assoc (low_bits 8 x) (replicate 8 false) (replicate 8 false))

-- one more byte
pub remainder_push : (bytes : List ℕ) (c x : ℕ) → c < 2 ^ 16 → x < 2 ^ 8 → low_bits 16 c ≡ remainder (polynomial bytes) → low_bits 16 (shifts 8 (bit_xor c x)) ≡ remainder (polynomial (bytes ++ x ∷ []))
remainder_push bytes c x hc hx e =
    let b = message bytes in
    let zeros = replicate 16 false in
    shifts_byte c x hc hx
    ∙ ap (λ v. cancel 8 (add_at_front v (low_bits 8 x ++ zeros))) (e ∙ remainder_of b)
    ∙ ap (cancel 8) (sym (cancel_behind b (low_bits 8 x ++ zeros)))
    ∙ sym (cancel-add (length b) 8 (b ++ (low_bits 8 x ++ zeros)))
    ∙ ap (λ n. cancel n (b ++ (low_bits 8 x ++ zeros))) (sym (length-append b (low_bits 8 x)))
    ∙ ap (cancel (length (b ++ low_bits 8 x))) (sym (append_assoc b (low_bits 8 x) zeros))
    ∙ sym (remainder_of (b ++ low_bits 8 x))
    ∙ ap (λ v. remainder (v ++ zeros)) (sym (message_push bytes x))

-- a remainder has sixteen coefficients
pub length-remainder : (bytes : List ℕ) → length (remainder (polynomial bytes)) ≡ 16
length-remainder bytes = omega (arith, length-cancel (length (polynomial bytes) - 16) (polynomial bytes), length-append (message bytes) (replicate 16 false))

-- the bits of the number that has these bits
pub bits_back : (b : List Bool) → low_bits (length b) (from_bits b) ≡ b
bits_back [] = refl
bits_back (true ∷ b) =
    let low : (1 + 2 * from_bits b) % 2 ≡ 1 = omega arith in
    let high : (1 + 2 * from_bits b) / 2 ≡ from_bits b = omega arith in
    let back : low_bits (length b) (from_bits b) ≡ b = bits_back b in
    rw (low, high) (ap (λ v. true ∷ v) back)
bits_back (false ∷ b) =
    let low : (0 + 2 * from_bits b) % 2 ≡ 0 = omega arith in
    let high : (0 + 2 * from_bits b) / 2 ≡ from_bits b = omega arith in
    let back : low_bits (length b) (from_bits b) ≡ b = bits_back b in
    rw (low, high) (ap (λ v. false ∷ v) back)

halves : (n j : ℕ) → n / 2 / 2 ^ j ≡ n / 2 ^ suc j
halves n j = shr-shr n 1 j ∙ ap (λ m. n / 2 ^ m) (let e : 1 + j ≡ suc j = omega arith in e)

bit_value : (n : ℕ) → cond (eqb (n % 2) 1) 1 0 ≡ n % 2
bit_value n = elim (bit_cases n) [ inl e ↦ rw e refl | inr e ↦ rw e refl ]

mod_double : (n p : ℕ) → 0 < p → n % 2 + 2 * (n / 2 % p) ≡ n % (2 * p)
mod_double n p h =
    let q = n / 2 in
    let split : q / p * p + q % p ≡ q = div-add-mod' q p in
    let small : q % p < p = mod_below q p h in
    let regroup : q / p * (2 * p) ≡ 2 * (q / p * p) = grind arith in
    let whole : n ≡ q / p * (2 * p) + (2 * (q % p) + n % 2) = omega arith in
    let small2 : 2 * (q % p) + n % 2 < 2 * p = omega arith in
    let e : n % (2 * p) ≡ 2 * (q % p) + n % 2 = ap (λ m. m % (2 * p)) whole ∙ mod-mul-add (q / p) (2 * p) (2 * (q % p) + n % 2) small2 in
    omega arith

-- the number that has the low bits of a number
pub number_back : (k n : ℕ) → from_bits (low_bits k n) ≡ n % 2 ^ k
number_back zero n = omega arith
number_back (suc k) n =
    let e : from_bits (low_bits k (n / 2)) ≡ n / 2 % 2 ^ k = number_back k (n / 2) in
    let p : 2 ^ suc k ≡ 2 * 2 ^ k = pow-succ' 2 k in
    rw (bit_value n, e, p) (mod_double n (2 ^ k) (pow_pos k))

low_bits_split : (j k n : ℕ) → low_bits (j + k) n ≡ low_bits j n ++ low_bits k (n / 2 ^ j)
low_bits_split zero k n = let e : 0 + k ≡ k = omega arith in let f : n / 2 ^ 0 ≡ n = omega arith in rw (e, f) refl
low_bits_split (suc j) k n =
    rw (suc-add j k)
    (ap (λ v. eqb (n % 2) 1 ∷ v) (low_bits_split j k (n / 2) ∙ ap (λ m. low_bits j (n / 2) ++ low_bits k m) (halves n j)))

-- the two bytes of a register
register_bytes : (c : ℕ) → c < 2 ^ 16 → (from_bits (take 8 (low_bits 16 c)) ≡ c % 256) × (from_bits (drop 8 (low_bits 16 c)) ≡ c / 256 % 256)
register_bytes c h =
    let split : low_bits 16 c ≡ low_bits 8 c ++ low_bits 8 (c / 2 ^ 8) = low_bits_split 8 8 c in
    (number_back 8 c, ap (λ v. from_bits (drop 8 v)) split ∙ number_back 8 (c / 2 ^ 8))

low_bits_of_byte : (n : ℕ) → low_bits 8 (n % 256) ≡ low_bits 8 n
low_bits_of_byte n = ap (low_bits 8) (sym (number_back 8 n)) ∙ bits_back (low_bits 8 n)

-- the two forms of the relation
pub bits_from_check : (bytes : List ℕ) (c : ℕ) → IsCheckOf c bytes → low_bits 16 c ≡ remainder (polynomial bytes)
unfolding check_of
bits_from_check bytes c s =
    let r = remainder (polynomial bytes) in
    let first : c % 256 ≡ from_bits (take 8 r) = ap (λ v. get_or v 0 0) s in
    let second : c / 256 % 256 ≡ from_bits (drop 8 r) = ap (λ v. get_or v 1 0) s in
    let n : length r ≡ 16 = length-remainder bytes in
    let n8 : 8 ≡ length (take 8 r) = omega (arith, length-take 8 r) in
    let m8 : 8 ≡ length (drop 8 r) = omega (arith, length-drop 8 r) in
    let front : low_bits 8 c ≡ take 8 r =
    sym (low_bits_of_byte c) ∙ ap (low_bits 8) first ∙ ap (λ k. low_bits k (from_bits (take 8 r))) n8 ∙ bits_back (take 8 r) in
    let back : low_bits 8 (c / 256) ≡ drop 8 r =
    sym (low_bits_of_byte (c / 256)) ∙ ap (low_bits 8) second ∙ ap (λ k. low_bits k (from_bits (drop 8 r))) m8 ∙ bits_back (drop 8 r) in
    low_bits_split 8 8 c ∙ ap (λ v. v ++ low_bits 8 (c / 256)) front ∙ ap (λ v. take 8 r ++ v) back ∙ take-append-drop 8 r

-- and back
pub check_from_bits : (bytes : List ℕ) (c : ℕ) → c < 2 ^ 16 → low_bits 16 c ≡ remainder (polynomial bytes) → IsCheckOf c bytes
unfolding check_of
check_from_bits bytes c h e =
    let b = register_bytes c h in
    let first : c % 256 ≡ from_bits (take 8 (remainder (polynomial bytes))) = sym b.0 ∙ ap (λ v. from_bits (take 8 v)) e in
    let second : c / 256 % 256 ≡ from_bits (drop 8 (remainder (polynomial bytes))) = sym b.1 ∙ ap (λ v. from_bits (drop 8 v)) e in
    cc

-- one more byte, at the register
pub one_byte_more : (bytes : List ℕ) (c x : ℕ) → c < 2 ^ 16 → x < 2 ^ 8 → IsCheckOf c bytes → IsCheckOf (shifts 8 (bit_xor c x)) (bytes ++ x ∷ [])
one_byte_more bytes c x hc hx s =
    check_from_bits (bytes ++ x ∷ []) (shifts 8 (bit_xor c x)) (shifts_below 8 (bit_xor c x) (xor_lt 16 c x hc (omega arith)))
    (remainder_push bytes c x hc hx (bits_from_check bytes c s))

-- and after many bytes
pub bytes_more : (before bytes : List ℕ) (c : ℕ) → c < 2 ^ 16 → ((k : ℕ) → get_or bytes k 0 < 2 ^ 8) → IsCheckOf c before → IsCheckOf (register_after c bytes) (before ++ bytes)
bytes_more before [] c hc hx s = subst (IsCheckOf c) (sym (append-nil before)) s
bytes_more before (x ∷ bytes) c hc hx s =
    let small : x < 2 ^ 8 = hx 0 in
    subst (IsCheckOf (register_after c (x ∷ bytes))) (append_assoc before (x ∷ []) bytes)
    (bytes_more (before ++ x ∷ []) bytes (shifts 8 (bit_xor c x)) (shifts_below 8 (bit_xor c x) (xor_lt 16 c x hc (omega (arith, small)))) (λ k. hx (suc k)) (one_byte_more before c x hc small s))
