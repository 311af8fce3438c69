-- Bytes that are replaced one after another, each in its place.
use Rattle.std.proofs.Common.{◌≡◌, ℕ, zero, suc, ◌+◌, ◌<◌, List, [], ◌∷◌, ◌++◌, length, map, take, drop, get_or, slice_set, refl, ap, add-one, arith}

module _ (made : ℕ → ℕ) where
  -- the bytes, the first `n` of which are replaced already
  abbrev half : ℕ → List ℕ → List ℕ
  half n bytes = map made (take n bytes) ++ drop n bytes

  next : (bytes : List ℕ) (n : ℕ) → n < length bytes → slice_set (half n bytes) n (made (get_or (half n bytes) n 0)) ≡ half (suc n) bytes
  next [] n h = absurd (omega (arith, h))
  next (b ∷ bytes) zero h = refl
  next (b ∷ bytes) (suc n) h = ap (λ later. made b ∷ later) (next bytes n (omega (arith, h)))

  pub one_more : (bytes now : List ℕ) (n byte : ℕ) → n < length bytes → now ≡ half n bytes → byte ≡ made (get_or now n 0) → slice_set now n byte ≡ half (n + 1) bytes
  one_more bytes now n byte h e f = rw (add-one n, f, e) (next bytes n h)
