-- The letters of a name stand before its first blank.
use Rattle.std.proofs.Common.{◌≡◌, ℕ, ◌≤◌, Bool, true, false, List, length, take, Some, None, refl, ap, sym, arith, cond}
use Rattle.std.specs.Prelude.{position, nat_lt}
use Rattle.std.specs.List.{position_or_len, before_first}
use Rattle.std.proofs.lemmas.Bool.Decides.{nat_tests}
use Rattle.std.proofs.lemmas.List.{take_all}

module _ (p : ℕ → Bool) (xs : List ℕ) where
  found : (n : ℕ) (within : Bool) → nat_lt (position_or_len p xs) (length xs) ≡ within → cond within (Some (position_or_len p xs)) None ≡ Some n
      → position_or_len p xs ≡ n
  found n true is e = cc
  found n false is e = cc

  pub before_found : (n : ℕ) → position p xs ≡ Some n → take n xs ≡ before_first p xs
  before_found n e = ap (λ k. take k xs) (sym (found n _ refl e))

  pub before_none : position p xs ≡ None → xs ≡ before_first p xs
  before_none e = go _ refl e
    where
      go : (within : Bool) → nat_lt (position_or_len p xs) (length xs) ≡ within → cond within (Some (position_or_len p xs)) None ≡ None → xs ≡ before_first p xs
      go true is e = cc
      go false is e = let long : length xs ≤ position_or_len p xs = grind (arith, nat_tests) in sym (take_all (position_or_len p xs) xs long)
