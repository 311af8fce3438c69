-- The first byte of a text that is no normal text byte.
use Rattle.std.proofs.Common.{◌≡◌, ℕ, zero, suc, ◌+◌, ◌-◌, ◌<◌, Bool, true, false, List, [], ◌∷◌, length, take, drop, get_or, ap, subst, arith, inl, inr}
use Rattle.std.proofs.lemmas.Bool.{cases_lt}
use Rattle.std.proofs.lemmas.List.{get_or-drop, get_or-take, length-drop, length-take-le}
use Rattle.std.specs.Array.{IsFirstChunk}
use Rattle.std.specs.Prelude.{Contains}
use Rattle.std.specs.List.{AllByRecursion}
use Rattle.bsc_codes.specs.Bytes.{control_bytes}
use Rattle.bsc_frame.specs.declared.frame_fault.FrameFault.{FrameFault}
use Rattle.bsc_frame.specs.declared.frame_fault.FrameFault.TheVariants as fault
use Rattle.bsc_frame.specs.Body.{IsNormalText}
use Rattle.bsc_frame.specs.FrameFault.{IsFirstBad, IsTextRefused}

-- a text without such a byte
pub all_normal : (text : List ℕ) → ((k : ℕ) → k < length text → IsNormalText (get_or text k 0)) → AllByRecursion IsNormalText text
all_normal [] h = tt
all_normal (byte ∷ text) h = (h 0 (omega arith), all_normal text (λ k l. h (suc k) (omega arith)))

-- every byte in front of this place is a normal text byte
abbrev pub IsNormalBefore : List ℕ → ℕ → Type 0
IsNormalBefore text place = (k : ℕ) → k < place → IsNormalText (get_or text k 0)

-- each byte of a normal text is a normal text byte
pub each_normal : (text : List ℕ) → AllByRecursion IsNormalText text → IsNormalBefore text (length text)
each_normal [] all k l = absurd (omega (arith, l))
each_normal (byte ∷ text) all zero l = all.0
each_normal (byte ∷ text) all (suc k) l = each_normal text all.1 k (omega (arith, l))

-- the bytes that follow such a place
further : (text : List ℕ) (passed more : ℕ) → IsNormalBefore text passed → IsNormalBefore (drop passed text) more → IsNormalBefore text (passed + more)
further text passed more front back k l =
    elim (cases_lt k passed) [
      | inl before ↦ front k before
      | inr behind ↦
          let at : passed + (k - passed) ≡ k = omega (arith, behind) in
          subst (λ (j : ℕ). IsNormalText (get_or text j 0)) at (subst IsNormalText (get_or-drop passed text (k - passed) 0) (back (k - passed) (omega (arith, behind, l))))
    ]

-- a text is normal whose rest is
pub rest_normal : (text : List ℕ) (passed : ℕ) → IsNormalBefore text passed → AllByRecursion IsNormalText (drop passed text) → AllByRecursion IsNormalText text
rest_normal text passed front all =
    let each : IsNormalBefore text (passed + length (drop passed text)) = further text passed (length (drop passed text)) front (each_normal (drop passed text) all) in
    all_normal text (λ k l. each k (omega (arith, l, length-drop passed text)))

-- a text is normal up to the end of a piece that is
pub piece_normal : (text piece : List ℕ) (passed size : ℕ) → IsNormalBefore text passed → IsFirstChunk (drop passed text) piece size → AllByRecursion IsNormalText piece → IsNormalBefore text (passed + size)
piece_normal text piece passed size front chunk all =
    let rest : List ℕ = drop passed text in
    let taken : AllByRecursion IsNormalText (take size rest) = subst (AllByRecursion IsNormalText) chunk.same all in
    further text passed size front (λ k l. subst IsNormalText (get_or-take size rest k 0 l) (each_normal (take size rest) taken k (omega (arith, l, length-take-le size rest chunk.enough))))

-- the first bad byte of the rest is the text's
pub first_of_rest : (text : List ℕ) (passed place : ℕ) → IsNormalBefore text passed → IsFirstBad (drop passed text) place → IsFirstBad text (passed + place)
first_of_rest text passed place front bad = record {
  within = omega (arith, bad.within, length-drop passed text);
  here = subst (Contains control_bytes) (get_or-drop passed text place 0) bad.here;
  before = further text passed place front bad.before;
}

-- and that of a piece is
pub first_of_piece : (text piece : List ℕ) (passed size place : ℕ) → IsNormalBefore text passed → IsFirstChunk (drop passed text) piece size → IsFirstBad piece place → IsFirstBad text (passed + place)
first_of_piece text piece passed size place front chunk bad =
    let rest : List ℕ = drop passed text in
    let taken : IsFirstBad (take size rest) place = subst (λ (bytes : List ℕ). IsFirstBad bytes place) chunk.same bad in
    let inside : place < size = omega (arith, taken.within, length-take-le size rest chunk.enough) in
    first_of_rest text passed place front (record {
      within = omega (arith, inside, chunk.enough);
      here = subst (Contains control_bytes) (get_or-take size rest place 0 inside) taken.here;
      before = λ k l. subst IsNormalText (get_or-take size rest k 0 (omega (arith, l, inside))) (taken.before k l);
    })

-- there is one such place
one_place : (text : List ℕ) (p q : ℕ) → IsFirstBad text p → IsFirstBad text q → p ≡ q
one_place text p q a b =
    elim (cases_lt p q) [
      | inl l ↦ absurd (b.before p l a.here)
      | inr l ↦ elim (cases_lt q p) [ inl m ↦ absurd (a.before q m b.here) | inr m ↦ omega arith ]
    ]

-- a text is refused for one fault
pub one_refusal : (transparent : Bool) (text : List ℕ) (p : ℕ) (f : FrameFault) → IsTextRefused transparent text (fault.TextByte p) → IsTextRefused transparent text f → fault.TextByte p ≡ f
one_refusal false text p (fault.TextByte q) a b = ap fault.TextByte (one_place text p q a b)
one_refusal false text p fault.NotSent a b = absurd b
one_refusal true text p f a b = absurd b
