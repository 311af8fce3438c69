-- Lists, and what stands at the front of them.
use Rattle.std.proofs.Common.{◌≡◌, ◌⊎◌, inl, inr, ℕ, zero, suc, ◌+◌, List, [], ◌∷◌, ◌++◌, Some, drop, refl, ap, sym, ◌∙◌, append_assoc, arith}
use Rattle.std.specs.Prelude.{slice_get}
use Rattle.std.proofs.lemmas.List.{append-nil}
use Rattle.rje_settle.specs.Digest.{JobFile}
use Rattle.settle_world.specs.Day.{Settled}
use Rattle.settle_world.specs.Settling.{IsAmong}

-- these jobs are the first of those
pub record IsFront (xs ys : List JobFile) : Type 0 where
  pub more : List JobFile
  pub whole : ys ≡ xs ++ more

pub front-same : (xs : List JobFile) → IsFront xs xs
front-same xs = record { more = []; whole = sym (append-nil xs) }

pub front-more : (xs ys : List JobFile) → IsFront xs (xs ++ ys)
front-more xs ys = record { more = ys; whole = refl }

pub front-of_front : (xs ys zs : List JobFile) → IsFront xs ys → IsFront ys zs → IsFront xs zs
front-of_front xs ys zs f g = record {
  more = f.more ++ g.more;
  whole = g.whole ∙ ap (λ (l : List JobFile). l ++ g.more) f.whole ∙ append_assoc xs f.more g.more;
}

-- what has a place in a list has it in each that begins so
pub at-front : (xs ys : List JobFile) (k : ℕ) (x : JobFile) → slice_get xs k ≡ Some x → slice_get (xs ++ ys) k ≡ Some x
at-front [] ys k x e = cc
at-front (y ∷ xs) ys zero x e = e
at-front (y ∷ xs) ys (suc k) x e = at-front xs ys k x e

-- and behind the first n it has one n further on
pub at-behind : (n : ℕ) (xs : List JobFile) (k j : ℕ) (x : JobFile) → j ≡ n + k → slice_get (drop n xs) k ≡ Some x → slice_get xs j ≡ Some x
at-behind zero xs k j x h e = let same : j ≡ k = omega arith in rw same e
at-behind (suc n) [] k j x h e = cc
at-behind (suc n) (y ∷ xs) k zero x h e = absurd (omega arith)
at-behind (suc n) (y ∷ xs) k (suc j) x h e = at-behind n xs k j x (omega arith) e

-- what is among two lists is among one of them
pub among-one : (s : Settled) (xs ys : List Settled) → IsAmong s (xs ++ ys) → IsAmong s xs ⊎ IsAmong s ys
among-one s [] ys h = inr h
among-one s (x ∷ xs) ys (inl e) = inl (inl e)
among-one s (x ∷ xs) ys (inr h) =
    elim (among-one s xs ys h) [
      | inl first ↦ inl (inr first)
      | inr second ↦ inr second
    ]
