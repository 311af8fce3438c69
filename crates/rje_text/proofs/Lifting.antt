-- The fault of a part of a text is the fault of the text.
use Rattle.std.proofs.Common.{◌≡◌, ℕ, ◌+◌, ◌<◌, ◌≤◌, Bool, true, false, cond, eqb, List, length, take, drop, get_or, refl, ap, sym, ◌∙◌, subst, arith, add_assoc, ⊎_elim}
use Rattle.std.proofs.lemmas.Bool.{cases_lt}
use Rattle.std.proofs.lemmas.Option.{slice_get-get_or}
use Rattle.std.proofs.lemmas.List.{length-drop, get_or-drop, drop-take}
use Rattle.bsc_codes.specs.Bytes.{IGS}
use Rattle.rje_text.specs.declared.text_fault.TextFault.{TextFault}
use Rattle.rje_text.specs.declared.text_fault.TextFault.TheVariants.{OutOfMemory, BadCount, RecordTooLong, CardsNot80, MixedModes}
use Rattle.rje_text.specs.Reading.{is_count}
use Rattle.rje_text.specs.TextFault.{width_at, HasNoCount, LacksCount, PassesLimit}
use Rattle.rje_text.specs.Inside.RecordText.{IsFaultFrom}
use Rattle.rje_text.proofs.Expanding.{no_count_past, no_count_at}

width_positive : (text : List ℕ) (p : ℕ) → 0 < width_at text p
width_positive text p = elim (eqb (get_or text p 0) IGS) as (λ b. 0 < cond b 2 1) [ true ↦ omega arith | false ↦ omega arith ]

-- a count that the part lacks
no_count : (text : List ℕ) (p : ℕ) → p < length text → HasNoCount text p → is_count (get_or text p 0) ≡ false
no_count text p l h = rw (slice_get-get_or text p 0 l) at h

-- the part stands at start in the text, which reads so far as the part does; after the part no count stands
pub record IsPart (outer inner : List ℕ → Bool) (text part : List ℕ) (start : ℕ) : Type 0 where
  pub within : start + length part ≤ length text
  pub bytes : (k : ℕ) → k < length part → get_or part k 0 ≡ get_or text (start + k) 0
  pub reads : (k : ℕ) → k ≤ length part → outer (take (start + k) text) ≡ inner (take k part)
  pub ends : HasNoCount text (start + length part)

module _ (outer inner : List ℕ → Bool) (text part : List ℕ) (start : ℕ) (is : IsPart outer inner text part start) where
  lift_lacks : (q : ℕ) → LacksCount inner part q → LacksCount outer text (start + q)
  lift_lacks q h =
      let at_in : h.at < length part = h.within in
      let same : start + (h.at + 1) ≡ start + q = ap (λ k. start + k) (sym h.behind) in
      record {
        at = start + h.at;
        behind = omega (arith, h.behind);
        within = omega (arith, is.within, at_in);
        igs = sym (is.bytes h.at at_in) ∙ h.igs;
        lacks =
            ⊎_elim
            (λ (l : q < length part). no_count_at text (start + q) (omega (arith, is.within, l)) (ap is_count (sym (is.bytes q l)) ∙ no_count part q l h.lacks))
            (λ (l : length part ≤ q). subst (λ k. HasNoCount text k) (omega (arith, l, h.behind, at_in)) is.ends)
            (cases_lt q (length part));
        before = is.reads h.at (omega (arith, at_in)) ∙ h.before;
      }

  lift_passes : (q : ℕ) → PassesLimit inner part q → PassesLimit outer text (start + q)
  lift_passes q h =
      let q_in : q < length part = omega (arith, h.within, width_positive part q) in
      let byte = is.bytes q q_in in
      let width : width_at text (start + q) ≡ width_at part q = ap (λ b. cond (eqb b IGS) 2 1) (sym byte) in
      record {
        within = rw width (omega (arith, h.within, is.within));
        counted = λ e.
            let two : width_at part q ≡ 2 = rw (byte, e) refl in
            let next : q + 1 < length part = omega (arith, h.within, two) in
            ap (λ k. is_count (get_or text k 0)) (add_assoc start q 1) ∙ ap is_count (sym (is.bytes (q + 1) next)) ∙ h.counted (byte ∙ e);
        before = is.reads q (omega (arith, q_in)) ∙ h.before;
        passes = rw width (ap (λ k. outer (take k text)) (add_assoc start q (width_at part q)) ∙ is.reads (q + width_at part q) h.within ∙ h.passes);
      }

  -- the part's fault, reported at a place in the whole
  pub lift_fault : (base : ℕ) (f : TextFault) → IsFaultFrom inner (base + start) part f → IsFaultFrom outer base text f
  lift_fault base OutOfMemory h = absurd h
  lift_fault base (BadCount p) h = (start + h.0, h.1 ∙ add_assoc base start h.0, lift_lacks h.0 h.2)
  lift_fault base (RecordTooLong p) h = (start + h.0, h.1 ∙ add_assoc base start h.0, lift_passes h.0 h.2)
  lift_fault base CardsNot80 h = absurd h
  lift_fault base MixedModes h = absurd h

-- the rest of a text after its first n bytes is a part of it
pub rest_is_part : (outer inner : List ℕ → Bool) (text : List ℕ) (n : ℕ) → n ≤ length text
    → ((k : ℕ) → n ≤ k → outer (take k text) ≡ inner (drop n (take k text))) → IsPart outer inner text (drop n text) n
rest_is_part outer inner text n l reads =
    let len = length-drop n text in
    record {
      within = omega arith;
      bytes = λ k h. get_or-drop n text k 0;
      reads = λ k h. reads (n + k) (omega arith) ∙ ap inner (behind k);
      ends = no_count_past text (n + length (drop n text)) (omega arith);
    }
  where
    behind : (k : ℕ) → drop n (take (n + k) text) ≡ take k (drop n text)
    behind k = drop-take n k text
