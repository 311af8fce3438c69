use Rattle.std.proofs.Common.{◌≡◌, ◌⊎◌, inl, inr, ℕ, zero, suc, ◌<◌, ◌≤◌, Bool, true, false, eqb, List, [], ◌∷◌, length, get_or, Option, Some, None, refl, arith}
use Rattle.std.specs.Prelude.{not}
use Rattle.std.specs.List.{position, prefix_len}
use Rattle.std.proofs.lemmas.Bool.{lt-ltb, le-ltb}
use Rattle.memchr.specs.Find.{IsFirstByte, is_byte}
use Rattle.rje_jobs.proofs.lines.place_of_lf.Goals as goal

not_byte : (a x : ℕ) → (eqb x a ≡ true → ⊥) → eqb x a ≡ false
not_byte a x h = other (eqb x a) h
  where
    other : (b : Bool) → (b ≡ true → ⊥) → b ≡ false
    other true h = absurd (h refl)
    other false h = refl

-- how many bytes stand in front of the first that is a
prefix_is : (a : ℕ) (xs : List ℕ) (n : ℕ) → n ≤ length xs → ((k : ℕ) → k < n → eqb (get_or xs k 0) a ≡ true → ⊥) → (n ≡ length xs) ⊎ (eqb (get_or xs n 0) a ≡ true)
    → prefix_len (λ x. not (eqb x a)) xs ≡ n
prefix_is a [] n l none at = omega arith
prefix_is a (x ∷ xs) zero l none (inl e) = absurd (omega (arith, e))
prefix_is a (x ∷ xs) zero l none (inr e) = rw e refl
prefix_is a (x ∷ xs) (suc n) l none at =
    let first = not_byte a x (none 0 (omega arith)) in
    rw first (omega (arith, prefix_is a xs n (omega arith) (λ k h. none (suc k) (omega arith)) (later at)))
  where
    later : (suc n ≡ length (x ∷ xs)) ⊎ (eqb (get_or (x ∷ xs) (suc n) 0) a ≡ true) → (n ≡ length xs) ⊎ (eqb (get_or xs n 0) a ≡ true)
    later (inl e) = inl (omega (arith, e))
    later (inr e) = inr e

position_is : (a : ℕ) (xs : List ℕ) (r : Option ℕ) → IsFirstByte (is_byte a) xs r → r ≡ position (λ x. eqb x a) xs
position_is a xs None h =
    rw (prefix_is a xs (length xs) (omega arith) (λ k l. h k (omega arith) l) (inl refl), le-ltb (length xs) (length xs) (omega arith)) refl
position_is a xs (Some n) h =
    let l : n < length xs = h.0.high in
    rw (prefix_is a xs n (omega arith) (λ k m. h.0.before k (omega arith) m) (inr h.1), lt-ltb n (length xs) l) refl

pub returns-clause-place : goal.returns-clause-place
returns-clause-place c = position_is 10 c.args.rest.now c.memchr.result c.memchr.ensures
