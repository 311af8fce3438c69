-- At most one fault is reported for a block.
use Rattle.std.proofs.Common.{◌≡◌, ◌≢◌, ◌⊎◌, inl, inr, ℕ, zero, suc, ◌+◌, ◌-◌, ◌<◌, ◌≤◌, Bool, true, false, List, [], ◌∷◌, ◌++◌, length, take, drop, get_or, Option, refl, ap, sym, ◌∙◌, subst, arith, ⊎_elim, IsSome, IfSome}
use Rattle.std.proofs.lemmas.List.{take-append-drop, take-take, drop-take, take_all, take_more, get_or-drop, get_or_past}
use Rattle.std.proofs.lemmas.Option.{slice_get-get_or}
use Rattle.std.proofs.lemmas.Bool.{cases_eq, cases_lt, true≢false}
use Rattle.bsc_codes.specs.Bytes.{IGS}
use Rattle.bsc_codes.specs.declared.block.Block.{Block}
use Rattle.rje_text.specs.declared.mode.Mode.{Mode}
use Rattle.rje_text.specs.declared.text_fault.TextFault.{TextFault}
use Rattle.rje_text.specs.declared.text_fault.TextFault.TheVariants.{OutOfMemory, BadCount, RecordTooLong, CardsNot80, MixedModes}
use Rattle.rje_text.specs.Reading.{is_count, card_reading, reading}
use Rattle.rje_text.specs.TextFault.{HasNoCount, LacksCount, PassesLimit, width_at, reads_normal, IsTextFault}
use Rattle.rje_text.proofs.Prefixes.{last_of, last-append, IsOpen, EndsWell, CutsWell, normal_front, count_other}
use Rattle.rje_text.proofs.Expanding.{not_equal}

no_count_here : (text : List ℕ) (p : ℕ) → HasNoCount text p → is_count (get_or text p 0) ≡ false
no_count_here text p h =
    ⊎_elim
    (λ (l : p < length text). subst (λ o. IfSome o (λ c. is_count c ≡ false)) (slice_get-get_or text p 0 l) h)
    (λ (l : length text ≤ p). ap is_count (get_or_past text p 0 l))
    (cases_lt p (length text))

last_taken : (text : List ℕ) (k : ℕ) → k < length text → last_of (take (k + 1) text) ≡ get_or text k 0
last_taken text k h = ap last_of (take_more text k 0 h) ∙ last-append (take k text) (get_or text k 0) []

first_dropped : (text : List ℕ) (n m : ℕ) → is_count (get_or (take m (drop n text)) 0 0) ≡ true → (0 < m) × (is_count (get_or text n 0) ≡ true)
first_dropped text n zero h = absurd (true≢false (sym h))
first_dropped text n (suc m) h = (omega arith, by (drop n text) (get_or-drop n text 0 0) h)
  where
    by : (ts : List ℕ) → get_or ts 0 0 ≡ get_or text (n + 0) 0 → is_count (get_or (take (suc m) ts) 0 0) ≡ true → is_count (get_or text n 0) ≡ true
    by [] e t = absurd (true≢false (sym t))
    by (x ∷ xs) e t = let same : n + 0 ≡ n = omega arith in subst (λ k. is_count (get_or text k 0) ≡ true) same (subst (λ z. is_count z ≡ true) e t)

-- a text that is cut well reads up to q; its byte at k stands before that
module _ (reads : List ℕ → Bool) (well : CutsWell reads) (text : List ℕ) where
  -- the text reads up to and with the byte at k, which is not an IGS
  abbrev ReadsBehind : ℕ → Type 0
  ReadsBehind k = (reads (take (k + 1) text) ≡ true) × (get_or text k 0 ≢ IGS)

  -- the byte at k is an IGS, and its count stands before q
  abbrev IsCounted : ℕ → ℕ → Type 0
  IsCounted k q = (get_or text k 0 ≡ IGS) × ((k + 1 < q) × (is_count (get_or text (k + 1) 0) ≡ true))

  cut_at : (k q : ℕ) → k < q → k < length text → reads (take q text) ≡ true → ReadsBehind k ⊎ IsCounted k q
  cut_at k q l h e =
      let m = q - (k + 1) in
      let sum : q ≡ (k + 1) + m = omega arith in
      let whole : take q text ≡ take (k + 1) text ++ take m (drop (k + 1) text) =
      sym (take-append-drop (k + 1) (take q text)) ∙ ap (λ ys. ys ++ drop (k + 1) (take q text)) (take-take (k + 1) q text (omega arith))
      ∙ ap (λ n. take (k + 1) text ++ drop (k + 1) (take n text)) sum ∙ ap (λ ys. take (k + 1) text ++ ys) (drop-take (k + 1) m text) in
      let last = last_taken text k h in
      ⊎_elim
      (λ (w : EndsWell reads (take (k + 1) text)). inl (w.0, subst (λ z. z ≢ IGS) last w.1))
      (λ (o : IsOpen (take (k + 1) text) (take m (drop (k + 1) text))).
      let first = first_dropped text (k + 1) m o.1 in
      inr (sym last ∙ o.0, (omega (arith, first.0), first.1)))
      (well (take (k + 1) text) (take m (drop (k + 1) text)) (subst (λ t. reads t ≡ true) whole e))

  igs_counted : (k q : ℕ) → k < q → k < length text → get_or text k 0 ≡ IGS → reads (take q text) ≡ true → (k + 1 < q) × (is_count (get_or text (k + 1) 0) ≡ true)
  igs_counted k q l h i e =
      ⊎_elim (λ (w : ReadsBehind k). absurd (w.1 i))
      (λ (o : IsCounted k q). o.1) (cut_at k q l h e)

  other_reads : (k q : ℕ) → k < q → k < length text → get_or text k 0 ≢ IGS → reads (take q text) ≡ true → reads (take (k + 1) text) ≡ true
  other_reads k q l h n e =
      ⊎_elim (λ (w : ReadsBehind k). w.0)
      (λ (o : IsCounted k q). absurd (n o.0)) (cut_at k q l h e)

  -- after a fault the text doesn't read
  lacked : (p : ℕ) (h : LacksCount reads text p) (q : ℕ) → h.at < q → reads (take q text) ≡ true → ⊥
  lacked p h q l e =
      let counted = igs_counted h.at q l h.within h.igs e in
      true≢false (sym counted.1 ∙ subst (λ k. is_count (get_or text k 0) ≡ false) h.behind (no_count_here text p h.lacks))

  passed : (p : ℕ) → PassesLimit reads text p → (q : ℕ) → p < q → reads (take q text) ≡ true → ⊥
  passed p h q l e =
      ⊎_elim
      (λ (i : get_or text p 0 ≡ IGS).
      let width : width_at text p ≡ 2 = rw i refl in
      let within : p + 2 ≤ length text = subst (λ w. p + w ≤ length text) width h.within in
      let counted = igs_counted p q l (omega arith) i e in
      let two : (p + 1) + 1 ≡ p + 2 = omega arith in
      let here = other_reads (p + 1) q counted.0 (omega arith) (count_other (get_or text (p + 1) 0) counted.1) e in
      true≢false (sym (subst (λ k. reads (take k text) ≡ true) two here) ∙ subst (λ w. reads (take (p + w) text) ≡ false) width h.passes))
      (λ (n : get_or text p 0 ≢ IGS).
      let width : width_at text p ≡ 1 = rw (not_equal (get_or text p 0) IGS n) refl in
      let within : p + 1 ≤ length text = subst (λ w. p + w ≤ length text) width h.within in
      true≢false (sym (other_reads p q l (omega arith) n e) ∙ subst (λ w. reads (take (p + w) text) ≡ false) width h.passes))
      (cases_eq (get_or text p 0) IGS)

  whole_reads : reads text ≡ true → reads (take (length text) text) ≡ true
  whole_reads e = subst (λ t. reads t ≡ true) (sym (take_all (length text) text (omega arith))) e

  lacked_whole : (p : ℕ) → LacksCount reads text p → reads text ≡ true → ⊥
  lacked_whole p h e = lacked p h (length text) h.within (whole_reads e)

  place_within : (p : ℕ) → PassesLimit reads text p → p < length text
  place_within p h =
      ⊎_elim
      (λ (i : get_or text p 0 ≡ IGS).
      let width : width_at text p ≡ 2 = rw i refl in
      let within : p + 2 ≤ length text = subst (λ w. p + w ≤ length text) width h.within in omega arith)
      (λ (n : get_or text p 0 ≢ IGS).
      let width : width_at text p ≡ 1 = rw (not_equal (get_or text p 0) IGS n) refl in
      let within : p + 1 ≤ length text = subst (λ w. p + w ≤ length text) width h.within in omega arith)
      (cases_eq (get_or text p 0) IGS)

  passed_whole : (p : ℕ) → PassesLimit reads text p → reads text ≡ true → ⊥
  passed_whole p h e = passed p h (length text) (place_within p h) (whole_reads e)

  same_lack : (p q : ℕ) → LacksCount reads text p → LacksCount reads text q → p ≡ q
  same_lack p q h g =
      ⊎_elim (λ (l : h.at < g.at). absurd (lacked p h g.at l g.before))
      (λ (l : g.at ≤ h.at).
      ⊎_elim (λ (m : g.at < h.at). absurd (lacked q g h.at m h.before)) (λ (m : h.at ≤ g.at). omega (arith, h.behind, g.behind)) (cases_lt g.at h.at))
      (cases_lt h.at g.at)

  same_limit : (p q : ℕ) → PassesLimit reads text p → PassesLimit reads text q → p ≡ q
  same_limit p q h g =
      ⊎_elim (λ (l : p < q). absurd (passed p h q l g.before))
      (λ (l : q ≤ p). ⊎_elim (λ (m : q < p). absurd (passed q g p m h.before)) (λ (m : p ≤ q). omega arith) (cases_lt q p))
      (cases_lt p q)

  lack_or_limit : (p q : ℕ) → LacksCount reads text p → PassesLimit reads text q → ⊥
  lack_or_limit p q h g =
      ⊎_elim (λ (l : h.at < q). lacked p h q l g.before)
      (λ (l : q ≤ h.at).
      ⊎_elim (λ (m : q < h.at). passed q g h.at m h.before)
      (λ (m : h.at ≤ q).
      let same : h.at ≡ q = omega arith in
      let counted = g.counted (subst (λ k. get_or text k 0 ≡ IGS) same h.igs) in
      let place : p ≡ q + 1 = omega (arith, h.behind) in
      true≢false (sym counted ∙ subst (λ k. is_count (get_or text k 0) ≡ false) place (no_count_here text p h.lacks)))
      (cases_lt q h.at))
      (cases_lt h.at q)

-- a normal block that is read has a text that reads
normal_reads : (b : Block) (so_far : Option Mode) → b.transparent ≡ false → IsSome (reading b so_far) → reads_normal so_far b.text.items ≡ true
normal_reads b so_far n e = rw n at e

cards_read : (b : Block) (so_far : Option Mode) → b.transparent ≡ true → IsSome (reading b so_far) → IsSome (card_reading b.text.items)
cards_read b so_far n e = rw n at e

module _ (b : Block) (so_far : Option Mode) where
  lack_unread : (p : ℕ) → IsTextFault b so_far (BadCount p) → IsSome (reading b so_far) → ⊥
  lack_unread p h e = lacked_whole (reads_normal so_far) (normal_front so_far) b.text.items p h.1 (normal_reads b so_far h.0 e)

  limit_unread : (p : ℕ) → IsTextFault b so_far (RecordTooLong p) → IsSome (reading b so_far) → ⊥
  limit_unread p h e = passed_whole (reads_normal so_far) (normal_front so_far) b.text.items p h.1 (normal_reads b so_far h.0 e)

  cards_unread : IsTextFault b so_far CardsNot80 → IsSome (reading b so_far) → ⊥
  cards_unread h e = true≢false (sym (cards_read b so_far h.0 e) ∙ h.1)

  normal_or_cards : b.transparent ≡ false → b.transparent ≡ true → ⊥
  normal_or_cards n t = true≢false (sym t ∙ n)

  pub one_told : (f g : TextFault) → IsTextFault b so_far f → IsTextFault b so_far g → f ≡ g
  one_told (BadCount p) (BadCount q) h k = ap BadCount (same_lack (reads_normal so_far) (normal_front so_far) b.text.items p q h.1 k.1)
  one_told (BadCount p) (RecordTooLong q) h k = absurd (lack_or_limit (reads_normal so_far) (normal_front so_far) b.text.items p q h.1 k.1)
  one_told (BadCount p) CardsNot80 h k = absurd (normal_or_cards h.0 k.0)
  one_told (BadCount p) MixedModes h k = absurd (lack_unread p h k.0)
  one_told (BadCount p) OutOfMemory h k = absurd (lack_unread p h k.0)
  one_told (RecordTooLong p) (BadCount q) h k = absurd (lack_or_limit (reads_normal so_far) (normal_front so_far) b.text.items q p k.1 h.1)
  one_told (RecordTooLong p) (RecordTooLong q) h k = ap RecordTooLong (same_limit (reads_normal so_far) (normal_front so_far) b.text.items p q h.1 k.1)
  one_told (RecordTooLong p) CardsNot80 h k = absurd (normal_or_cards h.0 k.0)
  one_told (RecordTooLong p) MixedModes h k = absurd (limit_unread p h k.0)
  one_told (RecordTooLong p) OutOfMemory h k = absurd (limit_unread p h k.0)
  one_told CardsNot80 (BadCount q) h k = absurd (normal_or_cards k.0 h.0)
  one_told CardsNot80 (RecordTooLong q) h k = absurd (normal_or_cards k.0 h.0)
  one_told CardsNot80 CardsNot80 h k = refl
  one_told CardsNot80 MixedModes h k = absurd (cards_unread h k.0)
  one_told CardsNot80 OutOfMemory h k = absurd (cards_unread h k.0)
  one_told MixedModes (BadCount q) h k = absurd (lack_unread q k h.0)
  one_told MixedModes (RecordTooLong q) h k = absurd (limit_unread q k h.0)
  one_told MixedModes CardsNot80 h k = absurd (cards_unread k h.0)
  one_told MixedModes MixedModes h k = refl
  one_told MixedModes OutOfMemory h k = absurd (h.1 k.1)
  one_told OutOfMemory (BadCount q) h k = absurd (lack_unread q k h.0)
  one_told OutOfMemory (RecordTooLong q) h k = absurd (limit_unread q k h.0)
  one_told OutOfMemory CardsNot80 h k = absurd (cards_unread k h.0)
  one_told OutOfMemory MixedModes h k = absurd (k.1 h.1)
  one_told OutOfMemory OutOfMemory h k = refl
