-- A text without fill, written in runs.
use Rattle.std.proofs.Common.{◌≡◌, ℕ, zero, suc, ◌+◌, ◌<◌, ◌≤◌, true, false, List, [], ◌∷◌, ◌++◌, length, take, drop, get_or, refl, ap, sym, ◌∙◌, arith, append_assoc}
use Rattle.std.proofs.lemmas.List.{drop-drop, get_or-drop, length-drop}
use Rattle.bsc_codes.specs.Bytes.{DLE}
use Rattle.bsc_frame.specs.Written.{text_without_fill}
use Rattle.bsc_frame.specs.Inside.Listening.Data.{IsData}

-- a normal text is written as it is
pub as_it_is : (text : List ℕ) → text_without_fill false text ≡ text
as_it_is [] = refl
as_it_is (b ∷ bs) = ap (λ (xs : List ℕ). b ∷ xs) (as_it_is bs)

-- so are the bytes of a transparent text that are no DLE
pub run_first : (text : List ℕ) (n : ℕ) → ((k : ℕ) → k < n → IsData true (get_or text k 0)) → n ≤ length text
    → text_without_fill true text ≡ take n text ++ text_without_fill true (drop n text)
run_first text zero each l = refl
run_first [] (suc n) each l = absurd (omega (arith, l))
run_first (b ∷ bs) (suc n) each l = rw (each 0 (omega arith)) (ap (λ (xs : List ℕ). b ∷ xs) (run_first bs n (λ k h. each (suc k) (omega (arith, h))) (omega (arith, l))))

-- and a DLE is written twice
pub dle_first : (text : List ℕ) → 0 < length text → get_or text 0 0 ≡ DLE → text_without_fill true text ≡ DLE ∷ DLE ∷ text_without_fill true (drop 1 text)
dle_first [] l h = absurd (omega (arith, l))
dle_first (b ∷ bs) l h = rw h refl

-- below, whole is what is written before and after
module _ (text whole : List ℕ) where
  pub run_written : (out more rest run : List ℕ) (place n : ℕ) → out ++ text_without_fill true (drop place text) ≡ whole → rest ≡ drop place text → run ≡ take n rest
      → more ≡ out ++ run → ((k : ℕ) → k < n → IsData true (get_or rest k 0)) → n ≤ length rest → more ++ text_without_fill true (drop (place + n) text) ≡ whole
  run_written out more rest run place n so_far rest_is run_is more_is each within =
      let behind : drop n rest ≡ drop (place + n) text = ap (drop n) rest_is ∙ drop-drop n place text in
      let first : text_without_fill true (drop place text) ≡ run ++ text_without_fill true (drop (place + n) text) =
      ap (text_without_fill true) (sym rest_is) ∙ run_first rest n each within ∙ ap (λ (xs : List ℕ). xs ++ text_without_fill true (drop n rest)) (sym run_is)
      ∙ ap (λ (xs : List ℕ). run ++ text_without_fill true xs) behind in
      ap (λ (xs : List ℕ). xs ++ text_without_fill true (drop (place + n) text)) more_is ∙ append_assoc out run (text_without_fill true (drop (place + n) text))
      ∙ ap (λ (xs : List ℕ). out ++ xs) (sym first) ∙ so_far

  pub dle_written : (out more : List ℕ) (place : ℕ) → out ++ text_without_fill true (drop place text) ≡ whole → place < length text → get_or text place 0 ≡ DLE
      → more ≡ out ++ DLE ∷ DLE ∷ [] → more ++ text_without_fill true (drop (place + 1) text) ≡ whole
  dle_written out more place so_far within is more_is =
      let behind : drop 1 (drop place text) ≡ drop (place + 1) text = drop-drop 1 place text in
      let here : get_or (drop place text) 0 0 ≡ DLE = get_or-drop place text 0 0 ∙ ap (λ (k : ℕ). get_or text k 0) (omega arith) ∙ is in
      let first : text_without_fill true (drop place text) ≡ DLE ∷ DLE ∷ text_without_fill true (drop (place + 1) text) =
      dle_first (drop place text) (omega (arith, length-drop place text, within)) here ∙ ap (λ (xs : List ℕ). DLE ∷ DLE ∷ text_without_fill true xs) behind in
      ap (λ (xs : List ℕ). xs ++ text_without_fill true (drop (place + 1) text)) more_is ∙ append_assoc out (DLE ∷ DLE ∷ []) (text_without_fill true (drop (place + 1) text))
      ∙ ap (λ (xs : List ℕ). out ++ xs) (sym first) ∙ so_far
