-- The turns that a loop spoke so far: those of a history.
use Rattle.std.proofs.Common.{◌≡◌, ℕ, ◌+◌, List, [], ◌∷◌, ◌++◌, length, map, reverse, ap, sym, ◌∙◌, arith}
use Rattle.std.proofs.lemmas.List.{map-append, length-map, length-reverse, reverse-append}

-- n turns were spoken, and what a history of them leaves stands
pub record SpokenSoFar {T S : Type 0} (tells : T → S) (Stands : List T → Type 0) (n : ℕ) (spoken : List S) : Type 0 where
  pub history : List T
  pub long : length history ≡ n
  pub spoken_is : spoken ≡ map tells (reverse history)
  pub stands : Stands history

-- the turns of a history and one more
pub one_more : {T S : Type 0} (tells : T → S) (t : T) (h : List T) → map tells (reverse (t ∷ h)) ≡ map tells (reverse h) ++ tells t ∷ []
one_more tells t h = ap (map tells) (reverse-append (t ∷ []) h) ∙ map-append tells (reverse h) (t ∷ [])

pub spoken_on : {T S : Type 0} (tells : T → S) (Stands Stands' : List T → Type 0) (n : ℕ) (spoken spoken' : List S) (p : SpokenSoFar tells Stands n spoken) (t : T) (x : S) → x ≡ tells t → spoken' ≡ spoken ++ x ∷ [] → Stands' (t ∷ p.history) → SpokenSoFar tells Stands' (n + 1) spoken'
spoken_on tells Stands Stands' n spoken spoken' p t x is more stands = record {
  history = t ∷ p.history;
  long = omega (arith, p.long);
  spoken_is = more ∙ ap (λ xs. xs ++ x ∷ []) p.spoken_is ∙ ap (λ z. map tells (reverse p.history) ++ z ∷ []) is ∙ sym (one_more tells t p.history);
  stands = stands;
}

pub spoken_length : {T S : Type 0} (tells : T → S) (Stands : List T → Type 0) (n : ℕ) (spoken : List S) → SpokenSoFar tells Stands n spoken → length spoken ≡ n
spoken_length tells Stands n spoken p = ap length p.spoken_is ∙ length-map (reverse p.history) tells ∙ length-reverse p.history ∙ p.long
