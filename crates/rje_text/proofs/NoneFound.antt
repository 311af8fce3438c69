-- Where no item passes a test, there is no first that does.
use Rattle.std.proofs.Common.{◌≡◌, Bool, true, false, ◌||◌, List, [], ◌∷◌, length, None, refl, arith}
use Rattle.std.specs.List.{list_any, position, position_or_len}
use Rattle.std.proofs.lemmas.Bool.{le-ltb}

neither : (a b : Bool) → (a || b) ≡ false → (a ≡ false) × (b ≡ false)
neither true b e = cc
neither false b e = (refl, e)

past_all : {X : Type 0} (p : X → Bool) (xs : List X) → list_any p xs ≡ false → position_or_len p xs ≡ length xs
past_all p [] h = refl
past_all p (x ∷ xs) h =
    let e = neither (p x) (list_any p xs) h in
    rw e.0 (omega (arith, past_all p xs e.1))

pub none_first : {X : Type 0} (p : X → Bool) (xs : List X) → list_any p xs ≡ false → position p xs ≡ None
none_first p xs h = rw (past_all p xs h, le-ltb (length xs) (length xs) (omega arith)) refl
