-- Bytes that are cut apart.
use Rattle.std.proofs.Common.{◌≡◌, ℕ, ◌+◌, ◌-◌, ◌<◌, ◌≤◌, List, [], ◌∷◌, ◌++◌, length, map, take, drop, get_or, refl, ap, sym, ◌∙◌, subst, arith}
use Rattle.std.specs.List.{flat_map}
use Rattle.std.proofs.lemmas.List.{drop_more, length-drop, take_all, map-append, append_assoc, take-append-drop, drop-drop}
use Rattle.std.proofs.lemmas.Grind.{flat_map-append}
use Rattle.line_world.specs.Damage.{AreCuts}

-- the next cut of those that are left
pub next_cut : (cuts : List ℕ) (i d place end : ℕ) → i < length cuts → AreCuts place end (drop i cuts)
    → (place < get_or cuts i d) × (get_or cuts i d < end) × AreCuts (get_or cuts i d) end (drop (i + 1) cuts)
next_cut cuts i d place end less are = subst (AreCuts place end) (drop_more cuts i d less) are

pub append_nil : {X : Type 0} (xs : List X) → xs ++ [] ≡ xs
append_nil [] = refl
append_nil (x ∷ xs) = ap (λ ys. x ∷ ys) (append_nil xs)

-- one more piece
pub one_more : {X : Type 0} (bytes : X → List ℕ) (ps qs : List X) (p : X) → qs ≡ ps ++ p ∷ [] → flat_map (λ p. p) (map bytes qs) ≡ flat_map (λ p. p) (map bytes ps) ++ bytes p
one_more bytes ps qs p e =
    ap (λ xs. flat_map (λ p. p) (map bytes xs)) e
    ∙ ap (flat_map (λ p. p)) (map-append bytes ps (p ∷ []))
    ∙ flat_map-append (λ p. p) (map bytes ps) (bytes p ∷ [])
    ∙ ap (λ xs. flat_map (λ p. p) (map bytes ps) ++ xs) (append_nil (bytes p))

-- a piece from a place to the next cut, and the rest
pub cut_off : (bytes : List ℕ) (place cut : ℕ) → place ≤ cut → take (cut - place) (drop place bytes) ++ drop cut bytes ≡ drop place bytes
cut_off bytes place cut within =
    let e : place + (cut - place) ≡ cut = omega (arith, within) in
    ap (λ n. take (cut - place) (drop place bytes) ++ drop n bytes) (sym e)
    ∙ ap (λ xs. take (cut - place) (drop place bytes) ++ xs) (sym (drop-drop (cut - place) place bytes))
    ∙ take-append-drop (cut - place) (drop place bytes)

-- the pieces so far, one more piece, and the rest
pub go_on : {X : Type 0} (items : X → List ℕ) (ps qs : List X) (p : X) (bytes whole : List ℕ) (place cut : ℕ) → place ≤ cut → qs ≡ ps ++ p ∷ [] → items p ≡ take (cut - place) (drop place bytes)
    → flat_map (λ p. p) (map items ps) ++ drop place bytes ≡ whole → flat_map (λ p. p) (map items qs) ++ drop cut bytes ≡ whole
go_on items ps qs p bytes whole place cut within more is so_far =
    ap (λ xs. xs ++ drop cut bytes) (one_more items ps qs p more)
    ∙ append_assoc (flat_map (λ p. p) (map items ps)) (items p) (drop cut bytes)
    ∙ ap (λ xs. flat_map (λ p. p) (map items ps) ++ (xs ++ drop cut bytes)) is
    ∙ ap (λ xs. flat_map (λ p. p) (map items ps) ++ xs) (cut_off bytes place cut within)
    ∙ so_far

-- and the last one
pub at_last : {X : Type 0} (items : X → List ℕ) (ps qs : List X) (p : X) (bytes whole : List ℕ) (place : ℕ) → qs ≡ ps ++ p ∷ [] → items p ≡ drop place bytes
    → flat_map (λ p. p) (map items ps) ++ drop place bytes ≡ whole → flat_map (λ p. p) (map items qs) ≡ whole
at_last items ps qs p bytes whole place more is so_far =
    one_more items ps qs p more ∙ ap (λ xs. flat_map (λ p. p) (map items ps) ++ xs) is ∙ so_far

pub all_taken : (xs : List ℕ) (place : ℕ) → take (length xs - place) (drop place xs) ≡ drop place xs
all_taken xs place = take_all (length xs - place) (drop place xs) (omega (arith, length-drop place xs))
