-- Pieces that come, and what a slice gets of them.
use Rattle.std.proofs.Common.{◌≡◌, ℕ, zero, suc, ◌+◌, ◌<◌, ◌≤◌, List, [], ◌∷◌, ◌++◌, length, map, take, drop, get_or, refl, ap, sym, ◌∙◌, subst, arith, length-take}
use Rattle.std.specs.List.{flat_map}
use Rattle.std.proofs.lemmas.List.{drop_more, drop-drop, length-drop, append_assoc}
use Rattle.std.proofs.Math.Seq.{take-append_seam}
use Rattle.rje_station.specs.declared.came.Came.TheVariants.{Bytes}
use Rattle.line_world.specs.MemoryLine.{ready, given_to, came_with, pieces_in}

ready_cons : (p : List ℕ) (ps : List (List ℕ)) → 0 < length p → ready (p ∷ ps) ≡ p ∷ ps
ready_cons [] ps h = absurd (omega (arith, h))
ready_cons (x ∷ xs) ps h = refl

-- a piece that has bytes left is not
pub in_hand : {X : Type 0} (bytes : X → List ℕ) (ps : List X) (k given : ℕ) (d : X) → k < length ps → given < length (bytes (get_or ps k d))
    → pieces_in bytes given (drop k ps) ≡ ready (pieces_in bytes given (drop k ps))
in_hand bytes ps k given d h l =
    let cut = drop_more ps k d h in
    let b = drop given (bytes (get_or ps k d)) in
    ap (pieces_in bytes given) cut ∙ sym (ap (λ xs. ready (pieces_in bytes given xs)) cut
    ∙ ready_cons b (map bytes (drop (k + 1) ps)) (omega (arith, l, length-drop given (bytes (get_or ps k d)))))

-- ---- What a slice gets.

pub some_left : (ps : List (List ℕ)) (b : List ℕ) (rest : List (List ℕ)) → ready ps ≡ b ∷ rest → 0 < length b
some_left [] b rest e = absurd cc
some_left ([] ∷ ps) b rest e = some_left ps b rest e
some_left ((x ∷ xs) ∷ ps) b rest e = let same : x ∷ xs ≡ b = cc in subst (λ ys. 0 < length ys) same (omega arith)

-- the piece in hand is the first that has bytes
pub first_is : {X : Type 0} (bytes : X → List ℕ) (ps : List X) (k given : ℕ) (d : X) (waiting : List (List ℕ)) → k < length ps → pieces_in bytes given (drop k ps) ≡ ready waiting
    → ready waiting ≡ drop given (bytes (get_or ps k d)) ∷ map bytes (drop (k + 1) ps)
first_is bytes ps k given d waiting h e = sym e ∙ ap (pieces_in bytes given) (drop_more ps k d h)

-- it has bytes left
pub left_in : {X : Type 0} (bytes : X → List ℕ) (ps : List X) (k given : ℕ) (d : X) (waiting : List (List ℕ)) → k < length ps → pieces_in bytes given (drop k ps) ≡ ready waiting
    → given < length (bytes (get_or ps k d))
left_in bytes ps k given d waiting h e =
    omega (arith, some_left waiting _ _ (first_is bytes ps k given d waiting h e), length-drop given (bytes (get_or ps k d)))

front_back : (room : ℕ) (xs : List ℕ) → take room xs ++ drop (length (take room xs)) xs ≡ xs
front_back zero xs = refl
front_back (suc room) [] = refl
front_back (suc room) (x ∷ xs) = ap (λ ys. x ∷ ys) (front_back room xs)

some_taken : (room : ℕ) (xs : List ℕ) → 0 < room → 0 < length xs → 0 < length (take room xs)
some_taken room xs h l = omega (arith, length-take room xs)

pub came_bytes : (xs : List ℕ) → 0 < length xs → Bytes (length xs) ≡ came_with xs
came_bytes [] h = absurd (omega (arith, h))
came_bytes (x ∷ xs) h = refl

flat_ready : (ps : List (List ℕ)) → flat_map (λ p. p) ps ≡ flat_map (λ p. p) (ready ps)
flat_ready [] = refl
flat_ready ([] ∷ ps) = flat_ready ps
flat_ready ((x ∷ xs) ∷ ps) = refl

-- nothing comes where no piece has bytes
pub nothing_comes : (ps : List (List ℕ)) → ready ps ≡ [] → flat_map (λ p. p) ps ≡ []
nothing_comes ps e = flat_ready ps ∙ ap (flat_map (λ p. p)) e

-- no piece is behind the last
pub no_piece : {X : Type 0} (bytes : X → List ℕ) (ps : List X) (k given : ℕ) → length ps ≤ k → pieces_in bytes given (drop k ps) ≡ []
no_piece bytes [] zero given h = refl
no_piece bytes [] (suc k) given h = refl
no_piece bytes (p ∷ ps) zero given h = absurd (omega (arith, h))
no_piece bytes (p ∷ ps) (suc k) given h = no_piece bytes ps k given (omega (arith, h))

module _ {X : Type 0} (bytes : X → List ℕ) (ps : List X) (k given : ℕ) (d : X) (waiting : List (List ℕ)) (room n : ℕ) (within : k < length ps) (e : pieces_in bytes given (drop k ps) ≡ ready waiting)
    (count : n ≡ length (take room (drop given (bytes (get_or ps k d))))) where
  pub counted : 0 < room → 0 < n
  counted h = omega (arith, count, some_taken room _ h (some_left waiting _ _ (first_is bytes ps k given d waiting within e)))

  pub came : 0 < room → Bytes n ≡ came_with (given_to room (ready waiting))
  came h =
      ap Bytes count ∙ came_bytes _ (some_taken room _ h (some_left waiting _ _ (first_is bytes ps k given d waiting within e)))
      ∙ ap (λ xs. came_with (given_to room xs)) (sym (first_is bytes ps k given d waiting within e))

  -- the bytes at the front, and those of the pieces that are left
  pub parts : (piece out : List ℕ) → out ≡ take room (drop given (bytes (get_or ps k d))) ++ piece
      → flat_map (λ p. p) waiting ≡ take n out ++ flat_map (λ p. p) (pieces_in bytes (given + n) (drop k ps))
  parts piece out laid =
      let b = drop given (bytes (get_or ps k d)) in
      let others = flat_map (λ p. p) (map bytes (drop (k + 1) ps)) in
      let front : take n out ≡ take room b = ap (take n) laid ∙ ap (λ m. take m (take room b ++ piece)) count ∙ take-append_seam (take room b) piece in
      let back : drop n b ≡ drop (given + n) (bytes (get_or ps k d)) = drop-drop n given (bytes (get_or ps k d)) in
      let rest : flat_map (λ p. p) (pieces_in bytes (given + n) (drop k ps)) ≡ drop n b ++ others =
      ap (λ xs. flat_map (λ p. p) (pieces_in bytes (given + n) xs)) (drop_more ps k d within) ∙ ap (λ xs. xs ++ others) (sym back) in
      flat_ready waiting ∙ ap (flat_map (λ p. p)) (first_is bytes ps k given d waiting within e)
      ∙ ap (λ xs. xs ++ others) (sym (front_back room b) ∙ ap (λ m. take room b ++ drop m b) (sym count))
      ∙ append_assoc (take room b) (drop n b) others
      ∙ ap (λ xs. xs ++ (drop n b ++ others)) (sym front) ∙ ap (λ xs. take n out ++ xs) (sym rest)
