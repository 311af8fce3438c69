-- Long division, in parts.
use Rattle.std.proofs.Common.{◌≡◌, ℕ, zero, suc, ◌+◌, ◌-◌, ◌≤◌, Bool, true, false, List, [], ◌∷◌, ◌++◌, length, replicate, refl, ap, sym, ◌∙◌, arith, length-append}
use Rattle.std.proofs.Math.Nat.{suc-add}
use Rattle.bsc_check.specs.Polynomials.{plus, add_at_front, generator_tail, cancel}

-- nothing is left of nothing
pub cancel_empty : (n : ℕ) → cancel n [] ≡ []
cancel_empty zero = refl
cancel_empty (suc n) = refl

-- more coefficients are cancelled after the first ones
pub cancel-add : (m n : ℕ) (p : List Bool) → cancel (m + n) p ≡ cancel n (cancel m p)
cancel-add zero n p = rw (let e : 0 + n ≡ n = omega arith in e) refl
cancel-add (suc m) n [] = cancel_empty (suc m + n) ∙ sym (cancel_empty n)
cancel-add (suc m) n (false ∷ p) = rw (suc-add m n) (cancel-add m n p)
cancel-add (suc m) n (true ∷ p) = rw (suc-add m n) (cancel-add m n (add_at_front generator_tail p))

xor_assoc : (a b c : Bool) → plus a (plus b c) ≡ plus (plus a b) c
xor_assoc true true true = refl
xor_assoc true true false = refl
xor_assoc true false true = refl
xor_assoc true false false = refl
xor_assoc false true true = refl
xor_assoc false true false = refl
xor_assoc false false true = refl
xor_assoc false false false = refl

-- two sums at the front are one
pub add_assoc_front : (g s w : List Bool) → length g ≤ length s → add_at_front g (add_at_front s w) ≡ add_at_front (add_at_front g s) w
add_assoc_front [] s w h = refl
add_assoc_front (x ∷ g) [] w h = absurd (omega arith)
add_assoc_front (x ∷ g) (y ∷ s) [] h = refl
add_assoc_front (x ∷ g) (y ∷ s) (z ∷ w) h =
    let e : add_at_front g (add_at_front s w) ≡ add_at_front (add_at_front g s) w = add_assoc_front g s w (omega arith) in
    let f : plus x (plus y z) ≡ plus (plus x y) z = xor_assoc x y z in
    cc

-- a sum at the front keeps the length
pub length-add_at_front : (g p : List Bool) → length (add_at_front g p) ≡ length p
length-add_at_front [] p = refl
length-add_at_front (x ∷ g) [] = refl
length-add_at_front (x ∷ g) (y ∷ p) = ap suc (length-add_at_front g p)

-- what is added after the coefficients that are cancelled may be added afterwards
pub cancel-add_at_front : (n : ℕ) (s w : List Bool) → length s ≡ n + 16 → cancel n (add_at_front s (replicate n false ++ w)) ≡ add_at_front (cancel n s) w
cancel-add_at_front zero s w h = refl
cancel-add_at_front (suc n) [] w h = absurd (omega arith)
cancel-add_at_front (suc n) (false ∷ s) w h = cancel-add_at_front n s w (omega arith)
cancel-add_at_front (suc n) (true ∷ s) w h =
    rw (add_assoc_front generator_tail s (replicate n false ++ w) (omega arith))
    (cancel-add_at_front n (add_at_front generator_tail s) w (omega (arith, length-add_at_front generator_tail s)))

-- zeros at the front add nothing
pub add_zeros : (k : ℕ) (w : List Bool) → add_at_front (replicate k false) w ≡ w
add_zeros zero w = refl
add_zeros (suc k) [] = refl
add_zeros (suc k) (true ∷ w) = ap (λ v. true ∷ v) (add_zeros k w)
add_zeros (suc k) (false ∷ w) = ap (λ v. false ∷ v) (add_zeros k w)

xor_false : (b : Bool) → plus b false ≡ b
xor_false true = refl
xor_false false = refl

-- a polynomial is its front followed by zeros, and the rest with zeros in front
pub split_front : (k : ℕ) (b v : List Bool) → b ++ v ≡ add_at_front (b ++ replicate k false) (replicate (length b) false ++ v)
split_front k [] v = sym (add_zeros k v)
split_front k (x ∷ b) v =
    let e : b ++ v ≡ add_at_front (b ++ replicate k false) (replicate (length b) false ++ v) = split_front k b v in
    let f : plus x false ≡ x = xor_false x in
    cc

-- what is left of n coefficients after division goes on with what comes after them
pub cancel_behind : (b v : List Bool) → cancel (length b) (b ++ v) ≡ add_at_front (cancel (length b) (b ++ replicate 16 false)) v
cancel_behind b v =
    ap (cancel (length b)) (split_front 16 b v)
    ∙ cancel-add_at_front (length b) (b ++ replicate 16 false) v (omega (arith, length-append b (replicate 16 false)))

-- what is added at the front leaves the rest
pub add_front_only : (g s w : List Bool) → length g ≤ length s → add_at_front g (s ++ w) ≡ add_at_front g s ++ w
add_front_only [] s w h = refl
add_front_only (x ∷ g) [] w h = absurd (omega arith)
add_front_only (x ∷ g) (y ∷ s) w h = ap (λ v. plus x y ∷ v) (add_front_only g s w (omega arith))

-- what was cancelled is gone
pub length-cancel : (n : ℕ) (p : List Bool) → length (cancel n p) ≡ length p - n
length-cancel zero p = omega arith
length-cancel (suc n) [] = omega arith
length-cancel (suc n) (false ∷ p) = omega (arith, length-cancel n p)
length-cancel (suc n) (true ∷ p) = omega (arith, length-cancel n (add_at_front generator_tail p), length-add_at_front generator_tail p)
