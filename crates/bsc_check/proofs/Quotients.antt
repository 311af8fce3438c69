-- Long division has a quotient, and one remainder.
use Rattle.std.proofs.Common.{◌≡◌, ℕ, zero, suc, ◌+◌, ◌-◌, Bool, true, false, List, [], ◌∷◌, ◌++◌, length, replicate, refl, ap, sym, ◌∙◌, arith, length-append}
use Rattle.std.proofs.lemmas.List.{length-replicate}
use Rattle.bsc_check.specs.Polynomials.{add_at_front, generator_tail, cancel, times_generator}
use Rattle.bsc_check.specs.Laws.{OneRemainder}
use Rattle.bsc_check.proofs.Division.{add_assoc_front, add_zeros, length-add_at_front, length-cancel}

length-times : (q : List Bool) → length (times_generator q) ≡ length q + 16
length-times [] = omega arith
length-times (false ∷ q) = omega (arith, length-times q)
length-times (true ∷ q) = omega (arith, length-times q, length-add_at_front generator_tail (times_generator q))

-- the generator added twice is nothing
twice : (p : List Bool) → add_at_front generator_tail (add_at_front generator_tail p) ≡ p
twice p = add_assoc_front generator_tail generator_tail p (omega arith) ∙ add_zeros 16 p

-- what was cancelled is a multiple of the generator
pub record Quotient (n : ℕ) (p : List Bool) : Type 0 where
  pub quotient : List Bool
  pub long : length quotient ≡ n
  pub whole : p ≡ add_at_front (times_generator quotient) (replicate n false ++ cancel n p)

quotient_of : (n : ℕ) (p : List Bool) → length p ≡ n + 16 → Quotient n p
quotient_of zero p h = record { quotient = []; long = refl; whole = sym (add_zeros 16 p) }
quotient_of (suc n) [] h = absurd (omega arith)
quotient_of (suc n) (false ∷ p) h =
    let q = quotient_of n p (omega arith) in
    record { quotient = false ∷ q.quotient; long = ap suc q.long; whole = ap (λ v. false ∷ v) q.whole }
quotient_of (suc n) (true ∷ p) h =
    let p' = add_at_front generator_tail p in
    let q = quotient_of n p' (omega (arith, length-add_at_front generator_tail p)) in
    let rest = replicate n false ++ cancel n p' in
    record {
      quotient = true ∷ q.quotient;
      long = ap suc q.long;
      whole = ap (λ v. true ∷ v)
          (sym (twice p) ∙ ap (add_at_front generator_tail) q.whole ∙ add_assoc_front generator_tail (times_generator q.quotient) rest (omega (arith, length-times q.quotient)));
    }

only : (q r : List Bool) → cancel (length q) (add_at_front (times_generator q) (replicate (length q) false ++ r)) ≡ r
only [] r = add_zeros 16 r
only (false ∷ q) r = only q r
only (true ∷ q) r =
    let t = times_generator q in
    let x = replicate (length q) false ++ r in
    ap (cancel (length q))
    (add_assoc_front generator_tail (add_at_front generator_tail t) x (omega (arith, length-times q, length-add_at_front generator_tail t)) ∙ ap (λ v. add_at_front v x) (twice t))
    ∙ only q r

-- how long a multiple and a remainder are
length-whole : (q r : List Bool) → length (add_at_front (times_generator q) (replicate (length q) false ++ r)) ≡ length q + length r
length-whole q r = omega (arith, length-add_at_front (times_generator q) (replicate (length q) false ++ r), length-append (replicate (length q) false) r, length-replicate (length q) false)

-- so long division leaves a remainder, and the only one
pub division : OneRemainder
division p h =
    let n = length p - 16 in
    let q = quotient_of n p (omega arith) in (
      record {
        quotient = q.quotient;
        whole = q.whole ∙ ap (λ k. add_at_front (times_generator q.quotient) (replicate k false ++ cancel n p)) (sym q.long);
        sixteen = omega (arith, length-cancel n p);
      },
      λ r s.
          let k : n ≡ length s.quotient = omega (arith, ap length s.whole, length-whole s.quotient r, s.sixteen) in
          sym (ap (λ m. cancel m p) k ∙ ap (cancel (length s.quotient)) s.whole ∙ only s.quotient r),
    )
