-- Eight bytes at once: each through its own table.
use Rattle.std.proofs.Common.{◌≡◌, ℕ, zero, suc, ◌+◌, ◌*◌, ◌/◌, ◌%◌, ◌^◌, ◌<◌, List, [], ◌∷◌, length, get_or, map, refl, ap, sym, ◌∙◌, arith}
use Rattle.std.specs.Prelude.{bit_xor}
use Rattle.std.specs.List.{range_with_len}
use Rattle.std.specs.Int.Bits.{xor_zero_l}
use Rattle.std.proofs.lemmas.List.FromFn.{get_or-map-range_with_len}
use Rattle.bsc_check.proofs.ByTable.{swap_last, shifts-xor, register_by_table}
use Rattle.bsc_check.specs.declared.tables.TheConstants.{TABLES}
use Rattle.bsc_check.specs.Inside.Shifts.{shift, shifts, register_after}

-- the tables, computed
tables_are : TABLES ≡ map (λ k. map (shifts (8 * k + 16)) (range_with_len 0 256)) (range_with_len 0 7)
unfolding shifts
tables_are = refl

-- so each entry is what the shifts of its table make of its place
pub entry_is : (k i : ℕ) → k < 7 → i < 256 → get_or (get_or TABLES k []) i 0 ≡ shifts (8 * k + 16) i
entry_is k i hk hi =
    ap (λ t. get_or (get_or t k []) i 0) tables_are
    ∙ ap (λ t. get_or t i 0) (get_or-map-range_with_len (λ (k : ℕ). map (shifts (8 * k + 16)) (range_with_len 0 256)) 0 7 k k [] hk (omega arith))
    ∙ get_or-map-range_with_len (shifts (8 * k + 16)) 0 256 i i 0 hi (omega arith)

shifts_add : (m n x : ℕ) → shifts (m + n) x ≡ shifts n (shifts m x)
unfolding shifts
shifts_add zero n x = let e : 0 + n ≡ n = omega arith in rw e refl
shifts_add (suc m) n x = let e : suc m + n ≡ suc (m + n) = omega arith in rw e (shifts_add m n (shift x))

more_shifts : (n x : ℕ) → shifts n (shifts 8 x) ≡ shifts (n + 8) x
more_shifts n x = let e : 8 + n ≡ n + 8 = omega arith in sym (shifts_add 8 n x) ∙ ap (λ k. shifts k x) e

-- what is added to a register without carries goes through the shifts of all bytes after it
after_xor : (x y : ℕ) (bs : List ℕ) → register_after (bit_xor x y) bs ≡ bit_xor (register_after x bs) (shifts (8 * length bs) y)
unfolding shifts
after_xor x y [] = refl
after_xor x y (b ∷ bs) =
    let e : 8 * length bs + 8 ≡ 8 * suc (length bs) = omega arith in
    ap (λ r. register_after (shifts 8 r) bs) (swap_last x y b)
    ∙ ap (λ r. register_after r bs) (shifts-xor 8 (bit_xor x b) y)
    ∙ after_xor (shifts 8 (bit_xor x b)) (shifts 8 y) bs
    ∙ ap (bit_xor (register_after (shifts 8 (bit_xor x b)) bs)) (more_shifts (8 * length bs) y ∙ ap (λ k. shifts k y) e)

-- one byte more in front of others
in_front : (r b : ℕ) (bs : List ℕ) → register_after r (b ∷ bs) ≡ bit_xor (register_after 0 bs) (shifts (8 * length bs + 8) (bit_xor r b))
in_front r b bs =
    ap (λ x. register_after x bs) (sym (xor_zero_l (shifts 8 (bit_xor r b))))
    ∙ after_xor 0 (shifts 8 (bit_xor r b)) bs
    ∙ ap (bit_xor (register_after 0 bs)) (more_shifts (8 * length bs) (bit_xor r b))

-- the same from no register
first : (b : ℕ) (bs : List ℕ) → register_after 0 (b ∷ bs) ≡ bit_xor (register_after 0 bs) (shifts (8 * length bs + 8) b)
first b bs = in_front 0 b bs ∙ ap (λ x. bit_xor (register_after 0 bs) (shifts (8 * length bs + 8) x)) (xor_zero_l b)

last : (b : ℕ) → register_after 0 (b ∷ []) ≡ shifts 8 b
last b = ap (shifts 8) (xor_zero_l b)

-- six bytes alone
six : (d e f g h i : ℕ) → register_after 0 (d ∷ e ∷ f ∷ g ∷ h ∷ i ∷ []) ≡ bit_xor (bit_xor (bit_xor (bit_xor (bit_xor (shifts 8 i) (shifts 16 h)) (shifts 24 g)) (shifts 32 f)) (shifts 40 e)) (shifts 48 d)
six d e f g h i =
    first d (e ∷ f ∷ g ∷ h ∷ i ∷ [])
    ∙ ap (λ x. bit_xor x (shifts 48 d)) (first e (f ∷ g ∷ h ∷ i ∷ [])
    ∙ ap (λ x. bit_xor x (shifts 40 e)) (first f (g ∷ h ∷ i ∷ [])
    ∙ ap (λ x. bit_xor x (shifts 32 f)) (first g (h ∷ i ∷ [])
    ∙ ap (λ x. bit_xor x (shifts 24 g)) (first h (i ∷ [])
    ∙ ap (λ x. bit_xor x (shifts 16 h)) (last i)))))

-- eight bytes, the first two of which meet the register
pub register_by_tables : (c a b d e f g h i : ℕ) → a < 256 → register_after c (a ∷ b ∷ d ∷ e ∷ f ∷ g ∷ h ∷ i ∷ [])
    ≡ bit_xor (bit_xor (bit_xor (bit_xor (bit_xor (bit_xor (bit_xor (shifts 8 i) (shifts 16 h)) (shifts 24 g)) (shifts 32 f)) (shifts 40 e)) (shifts 48 d)) (shifts 56 (bit_xor (c / 256) b))) (shifts 64 (bit_xor (c % 256) a))
register_by_tables c a b d e f g h i ha =
    let rest = d ∷ e ∷ f ∷ g ∷ h ∷ i ∷ [] in
    let s = shifts 8 (bit_xor (c % 256) a) in
    ap (λ x. register_after x (b ∷ rest)) (sym (register_by_table c a ha))
    ∙ after_xor (c / 256) s (b ∷ rest)
    ∙ ap (λ x. bit_xor x (shifts 56 s)) (in_front (c / 256) b rest ∙ ap (λ x. bit_xor x (shifts 56 (bit_xor (c / 256) b))) (six d e f g h i))
    ∙ ap (bit_xor (bit_xor (bit_xor (bit_xor (bit_xor (bit_xor (bit_xor (shifts 8 i) (shifts 16 h)) (shifts 24 g)) (shifts 32 f)) (shifts 40 e)) (shifts 48 d)) (shifts 56 (bit_xor (c / 256) b)))) (more_shifts 56 (bit_xor (c % 256) a))

eight_are : (bs : List ℕ) → length bs ≡ 8 → bs ≡ get_or bs 0 0 ∷ get_or bs 1 0 ∷ get_or bs 2 0 ∷ get_or bs 3 0 ∷ get_or bs 4 0 ∷ get_or bs 5 0 ∷ get_or bs 6 0 ∷ get_or bs 7 0 ∷ []
eight_are [] n = absurd (omega arith)
eight_are (a ∷ []) n = absurd (omega arith)
eight_are (a ∷ b ∷ []) n = absurd (omega arith)
eight_are (a ∷ b ∷ d ∷ []) n = absurd (omega arith)
eight_are (a ∷ b ∷ d ∷ e ∷ []) n = absurd (omega arith)
eight_are (a ∷ b ∷ d ∷ e ∷ f ∷ []) n = absurd (omega arith)
eight_are (a ∷ b ∷ d ∷ e ∷ f ∷ g ∷ []) n = absurd (omega arith)
eight_are (a ∷ b ∷ d ∷ e ∷ f ∷ g ∷ h ∷ []) n = absurd (omega arith)
eight_are (a ∷ b ∷ d ∷ e ∷ f ∷ g ∷ h ∷ i ∷ []) n = refl
eight_are (a ∷ b ∷ d ∷ e ∷ f ∷ g ∷ h ∷ i ∷ x ∷ xs) n = absurd (omega arith)

-- likewise for a list of eight bytes, and for the two bytes of a register
pub register_of_eight : (c : ℕ) (bs : List ℕ) → length bs ≡ 8 → c < 2 ^ 16 → get_or bs 0 0 < 256 → register_after c bs
    ≡ bit_xor (bit_xor (bit_xor (bit_xor (bit_xor (bit_xor (bit_xor (shifts 8 (get_or bs 7 0)) (shifts 16 (get_or bs 6 0))) (shifts 24 (get_or bs 5 0))) (shifts 32 (get_or bs 4 0))) (shifts 40 (get_or bs 3 0))) (shifts 48 (get_or bs 2 0))) (shifts 56 (bit_xor (c / 256 % 256) (get_or bs 1 0)))) (shifts 64 (bit_xor (c % 256) (get_or bs 0 0)))
register_of_eight c bs n hc ha =
    let high : c / 256 % 256 ≡ c / 256 = omega arith in
    rw high
    (ap (register_after c) (eight_are bs n)
    ∙ register_by_tables c (get_or bs 0 0) (get_or bs 1 0) (get_or bs 2 0) (get_or bs 3 0) (get_or bs 4 0) (get_or bs 5 0) (get_or bs 6 0) (get_or bs 7 0) ha)
