-- The table is the eight shifts of each byte.
use Rattle.std.proofs.Common.{◌≡◌, ℕ, zero, suc, ◌+◌, ◌*◌, ◌/◌, ◌%◌, ◌<◌, get_or, map, refl, ap, sym, ◌∙◌, arith, inl, inr, ◌^◌}
use Rattle.std.specs.Prelude.{bit_xor}
use Rattle.std.specs.List.{range_with_len}
use Rattle.std.specs.Int.Bits.{xor_assoc, xor_self, xor_zero_l, xor_zero_r}
use Rattle.std.proofs.lemmas.Nat.{xor_comm, xor_shr, xor_mod, xor_block}
use Rattle.std.proofs.lemmas.List.FromFn.{get_or-map-range_with_len}
use Rattle.std.proofs.Math.Nat.{pow-succ'}
use Rattle.bsc_check.proofs.Shifts.{bit_cases}
use Rattle.bsc_check.specs.declared.table.TheConstants.{TABLE}
use Rattle.bsc_check.specs.Inside.Shifts.{shift, shifts}

-- the whole table, computed
pub table_is : TABLE ≡ map (shifts 8) (range_with_len 0 256)
unfolding shifts
table_is = refl

-- so each entry is what eight shifts make of its place
pub entry_is : (i : ℕ) → i < 256 → get_or TABLE i 0 ≡ shifts 8 i
entry_is i h = ap (λ t. get_or t i 0) table_is ∙ get_or-map-range_with_len (shifts 8) 0 256 i i 0 h (omega arith)

pub swap_last : (a b c : ℕ) → bit_xor (bit_xor a b) c ≡ bit_xor (bit_xor a c) b
swap_last a b c = xor_assoc a b c ∙ ap (bit_xor a) (xor_comm b c) ∙ sym (xor_assoc a c b)

cancelled : (a b c : ℕ) → bit_xor (bit_xor a c) (bit_xor b c) ≡ bit_xor a b
cancelled a b c =
    xor_assoc a c (bit_xor b c) ∙ ap (λ n. bit_xor a (bit_xor c n)) (xor_comm b c) ∙ ap (bit_xor a) (sym (xor_assoc c c b))
    ∙ ap (λ n. bit_xor a (bit_xor n b)) (xor_self c) ∙ ap (bit_xor a) (xor_zero_l b)

-- one shift of a sum without carries is the sum of the shifts
shift-xor : (a b : ℕ) → shift (bit_xor a b) ≡ bit_xor (shift a) (shift b)
shift-xor a b =
    let half : bit_xor a b / 2 ≡ bit_xor (a / 2) (b / 2) = xor_shr a b 1 in
    let low : bit_xor a b % 2 ≡ bit_xor (a % 2) (b % 2) = xor_mod a b 1 in
    elim (bit_cases a) [
      | inl p ↦ elim (bit_cases b) [
        | inl q ↦ rw (low, p, q) half
        | inr q ↦ rw (low, p, q) (ap (λ n. bit_xor n 0xA001) half ∙ xor_assoc (a / 2) (b / 2) 0xA001)
      ]
      | inr p ↦ elim (bit_cases b) [
        | inl q ↦ rw (low, p, q) (ap (λ n. bit_xor n 0xA001) half ∙ swap_last (a / 2) (b / 2) 0xA001)
        | inr q ↦ rw (low, p, q) (half ∙ sym (cancelled (a / 2) (b / 2) 0xA001))
      ]
    ]

pub shifts-xor : (n a b : ℕ) → shifts n (bit_xor a b) ≡ bit_xor (shifts n a) (shifts n b)
unfolding shifts
shifts-xor zero a b = refl
shifts-xor (suc n) a b = ap (shifts n) (shift-xor a b) ∙ shifts-xor n (shift a) (shift b)

-- zeros below a number are shifted away
shift_even : (m : ℕ) → shift (2 * m) ≡ m
shift_even m =
    let low : 2 * m % 2 ≡ 0 = omega arith in
    let half : 2 * m / 2 ≡ m = omega arith in
    rw (low, half) refl

shifts_high : (n h : ℕ) → shifts n (2 ^ n * h) ≡ h
unfolding shifts
shifts_high zero h = omega arith
shifts_high (suc n) h =
    let p : 2 ^ suc n * h ≡ 2 * (2 ^ n * h) = ap (λ m. m * h) (pow-succ' 2 n) ∙ grind arith in
    ap (λ m. shifts n (shift m)) p ∙ ap (shifts n) (shift_even (2 ^ n * h)) ∙ shifts_high n h

parted : (x : ℕ) → x ≡ bit_xor (2 ^ 8 * (x / 256)) (x % 256)
parted x =
    let block = xor_block 8 (x / 256) 0 0 (x % 256) (omega arith) (omega arith) in
    let left : x / 256 * 2 ^ 8 + 0 ≡ 2 ^ 8 * (x / 256) = omega arith in
    let right : 0 * 2 ^ 8 + x % 256 ≡ x % 256 = omega arith in
    let value : bit_xor (x / 256) 0 * 2 ^ 8 + bit_xor 0 (x % 256) ≡ x = rw (xor_zero_r (x / 256), xor_zero_l (x % 256)) (omega arith) in
    sym (ap (λ n. bit_xor n (x % 256)) (sym left) ∙ ap (bit_xor (x / 256 * 2 ^ 8 + 0)) (sym right) ∙ block ∙ value)

-- eight shifts, from the high byte and the shifts of the low one
pub shifts_by_table : (x : ℕ) → shifts 8 x ≡ bit_xor (x / 256) (shifts 8 (x % 256))
shifts_by_table x =
    let split = parted x in
    ap (shifts 8) split ∙ shifts-xor 8 (2 ^ 8 * (x / 256)) (x % 256) ∙ ap (λ n. bit_xor n (shifts 8 (x % 256))) (shifts_high 8 (x / 256))

-- the eight shifts of a register and a byte, from the register's high byte and an entry
pub register_by_table : (c b : ℕ) → b < 256 → bit_xor (c / 256) (shifts 8 (bit_xor (c % 256) b)) ≡ shifts 8 (bit_xor c b)
register_by_table c b h =
    let high : bit_xor c b / 256 ≡ c / 256 = xor_shr c b 8 ∙ ap (bit_xor (c / 2 ^ 8)) (let z : b / 2 ^ 8 ≡ 0 = omega arith in z) ∙ xor_zero_r (c / 256) in
    let low : bit_xor c b % 256 ≡ bit_xor (c % 256) b = xor_mod c b 8 ∙ ap (bit_xor (c % 256)) (let z : b % 2 ^ 8 ≡ b = omega arith in z) in
    sym (shifts_by_table (bit_xor c b) ∙ ap (λ n. bit_xor n (shifts 8 (bit_xor c b % 256))) high ∙ ap (λ n. bit_xor (c / 256) (shifts 8 n)) low)
