-- How a text begins, and what follows for its faults: the selection of a normal text, the cards of a transparent one.
use Rattle.std.proofs.Common.{◌≡◌, ◌≢◌, ◌⊎◌, inl, inr, ℕ, zero, suc, ◌+◌, ◌-◌, ◌/◌, ◌%◌, ◌<◌, ◌≤◌, true, false, cond, eqb, leb, ◌||◌, List, [], ◌∷◌, length, take, drop, get_or, Option, Some, None, refl, ap, ap₂, sym, ◌∙◌, subst, arith, IsSome, IsNone, is_some}
use Rattle.std.specs.Option.{option_map}
use Rattle.std.proofs.lemmas.List.{take_all, length-drop}
use Rattle.std.proofs.lemmas.Bool.Decides.{nat_tests}
use Rattle.bsc_codes.specs.Bytes.{DC1, DC2, DC3}
use Rattle.rje_text.specs.declared.mode.Mode.{Mode}
use Rattle.rje_text.specs.declared.mode.Mode.TheVariants.{Transparent}
use Rattle.rje_text.specs.declared.select.Select.{Select}
use Rattle.rje_text.specs.declared.select.Select.TheVariants.{Unset, Printer, Punch}
use Rattle.rje_text.specs.declared.action.Action.TheVariants.{Plain}
use Rattle.rje_text.specs.declared.record.Record.{Record}
use Rattle.rje_text.specs.declared.text_fault.TextFault.{TextFault}
use Rattle.rje_text.specs.declared.text_fault.TextFault.TheVariants.{OutOfMemory, BadCount, RecordTooLong, CardsNot80, MixedModes}
use Rattle.rje_text.specs.Reading.{records_in, selection_in, normal_reading, cards, card_reading}
use Rattle.rje_text.specs.TextFault.{LacksCount, PassesLimit, reads_normal}
use Rattle.rje_text.specs.Inside.RecordText.{HasFront, unpacked, reads_records, IsFaultFrom, IsNormalFault}
use Rattle.rje_text.proofs.Expanding.{not_equal}
use Rattle.rje_text.proofs.Lifting.{IsPart, rest_is_part, lift_fault}
use Rattle.std.proofs.lemmas.Option.{none-some}
use Rattle.std.proofs.lemmas.Bool.{false≢true}
use Rattle.rje_text.proofs.Prefixes.{is_some-map}

unselected : (so_far : Option Mode) (text : List ℕ) → selection_in so_far text ≡ None → normal_reading so_far text ≡ option_map (unpacked Unset) (records_in text)
unfolding normal_reading
unselected so_far text h = rw h refl

pub no_front : (so_far : Option Mode) (text : List ℕ) → selection_in so_far text ≡ None → HasFront so_far text 0 Unset
no_front so_far text h = record { within = omega arith; reads = λ k l. unselected so_far (take k text) (shorter so_far text k h) }
  where
    shorter : (so_far : Option Mode) (text : List ℕ) (k : ℕ) → selection_in so_far text ≡ None → selection_in so_far (take k text) ≡ None
    shorter (Some mode) text k h = refl
    shorter None text zero h = refl
    shorter None [] (suc k) h = refl
    shorter None (x ∷ xs) (suc k) h = h

selected_first : (x : ℕ) (xs : List ℕ) (select : Select) → selection_in None (x ∷ xs) ≡ Some select → normal_reading None (x ∷ xs) ≡ option_map (unpacked select) (records_in xs)
unfolding normal_reading
selected_first x xs select h = rw h refl

pub one_front : (so_far : Option Mode) (text : List ℕ) (select : Select) → selection_in so_far text ≡ Some select → HasFront so_far text 1 select
one_front (Some mode) text select h = absurd (none-some select h)
one_front None [] select h = absurd (none-some select h)
one_front None (x ∷ xs) select h = record { within = omega arith; reads = longer }
  where
    longer : (k : ℕ) → 1 ≤ k → normal_reading None (take k (x ∷ xs)) ≡ option_map (unpacked select) (records_in (drop 1 (take k (x ∷ xs))))
    longer zero l = absurd (omega (arith, l))
    longer (suc k) l = selected_first x (take k xs) select h

-- the selection that a byte makes
abbrev pub select_byte : ℕ → Option Select
select_byte x = cond (eqb x DC1) (Some Printer) (cond (eqb x DC2 || eqb x DC3) (Some Punch) None)

pub later_block : (so_far : Option Mode) (text : List ℕ) → is_some so_far ≡ true → selection_in so_far text ≡ None
later_block None text h = absurd (false≢true h)
later_block (Some mode) text h = refl

pub empty_text : (so_far : Option Mode) (text : List ℕ) → eqb (length text) 0 ≡ true → selection_in so_far text ≡ None
empty_text (Some mode) text h = refl
empty_text None [] h = refl
empty_text None (x ∷ xs) h = absurd (omega (arith, no (suc (length xs)) h))
  where
    no : (n : ℕ) → eqb n 0 ≡ true → n ≡ 0
    no n h = grind (arith, nat_tests)

pub first_byte : (so_far : Option Mode) (text : List ℕ) → is_some so_far ≡ false → eqb (length text) 0 ≡ false → selection_in so_far text ≡ select_byte (get_or text 0 0)
first_byte (Some mode) text h l = absurd (false≢true (sym h))
first_byte None [] h l = absurd (false≢true (sym l))
first_byte None (x ∷ xs) h l = refl

pub prints : (x : ℕ) → x ≡ DC1 → select_byte x ≡ Some Printer
prints x e = rw e refl

pub punches : (x : ℕ) → x ≢ DC1 → (x ≡ DC2) ⊎ (x ≡ DC3) → select_byte x ≡ Some Punch
punches x n (inl e) = rw e refl
punches x n (inr e) = rw e refl

pub selects_nothing : (x : ℕ) → x ≢ DC1 → x ≢ DC2 → x ≢ DC3 → select_byte x ≡ None
selects_nothing x n m k = rw (not_equal x DC1 n, not_equal x DC2 m, not_equal x DC3 k) refl

-- below, the normal text has a front of n bytes, and rest stands after it
module _ (so_far : Option Mode) (text rest : List ℕ) (n : ℕ) (select : Select) (front : HasFront so_far text n select) (rest_is : rest ≡ drop n text) where
  pub whole_reading : normal_reading so_far text ≡ option_map (unpacked select) (records_in rest)
  whole_reading =
      let all = take_all (length text) text (omega arith) in
      ap (normal_reading so_far) (sym all) ∙ front.reads (length text) front.within ∙ ap (λ xs. option_map (unpacked select) (records_in xs)) (ap (drop n) all ∙ sym rest_is)

  pub whole_reads : IsSome (records_in rest) → IsSome (normal_reading so_far text)
  whole_reads h = ap is_some whole_reading ∙ is_some-map (unpacked select) (records_in rest) ∙ h

  rest_part : IsPart (reads_normal so_far) reads_records text (drop n text) n
  rest_part = rest_is_part (reads_normal so_far) reads_records text n front.within
      (λ k l. ap is_some (front.reads k l) ∙ is_some-map (unpacked select) (records_in (drop n (take k text))))

  at_zero : (f : TextFault) → IsFaultFrom (reads_normal so_far) 0 text f → IsNormalFault so_far text f
  at_zero OutOfMemory h = absurd h
  at_zero (BadCount p) h = let e : h.0 ≡ p = omega (arith, h.1) in subst (λ k. LacksCount (reads_normal so_far) text k) e h.2
  at_zero (RecordTooLong p) h = let e : h.0 ≡ p = omega (arith, h.1) in subst (λ k. PassesLimit (reads_normal so_far) text k) e h.2
  at_zero CardsNot80 h = absurd h
  at_zero MixedModes h = absurd h

  pub rest_fault : (f : TextFault) → IsFaultFrom reads_records n rest f → IsNormalFault so_far text f
  rest_fault f h =
      let moved : IsFaultFrom reads_records (0 + n) (drop n text) f =
      subst (λ k. IsFaultFrom reads_records k (drop n text) f) (omega arith) (subst (λ xs. IsFaultFrom reads_records n xs f) rest_is h) in
      at_zero f (lift_fault (reads_normal so_far) reads_records text (drop n text) n rest_part 0 f moved)

pub no_cards : (text : List ℕ) → length text % 80 ≢ 0 → IsNone (card_reading text)
unfolding card_reading
no_cards text h = rw (not_equal (length text % 80) 0 h) refl

pub whole_cards : (text : List ℕ) → length text ≤ 512 → length text % 80 ≡ 0
    → card_reading text ≡ Some (record { select = Punch; mode = Transparent; records = cards (length text / 80) text })
unfolding card_reading
whole_cards text l h = rw (equal (length text % 80) h, below (length text) (omega arith)) refl
  where
    equal : (n : ℕ) → n ≡ 0 → eqb n 0 ≡ true
    equal n h = grind (arith, nat_tests)

    below : (n : ℕ) → n ≤ 480 → leb n 480 ≡ true
    below n h = grind (arith, nat_tests)

-- the first n cards are n
pub card_count : (n : ℕ) (text : List ℕ) → length (cards n text) ≡ n
card_count zero text = refl
card_count (suc n) text = ap suc (card_count n (drop 80 text))

-- below, rest is what is left of a text of cards
module _ (rest card others : List ℕ) (r : Record) (some : eqb (length rest) 0 ≡ false) (whole : length rest % 80 ≡ 0)
    (card_is : card ≡ take 80 rest) (others_are : others ≡ drop 80 rest) (plain : r.action ≡ Plain) (bytes : r.bytes.items ≡ card) where
  pub card_within : 80 ≤ length rest
  card_within = let l = positive (length rest) some in omega arith
    where
      positive : (n : ℕ) → eqb n 0 ≡ false → 0 < n
      positive n h = grind (arith, nat_tests)

  others_length : length others ≡ length rest - 80
  others_length = ap length others_are ∙ length-drop 80 rest

  pub others_whole : length others % 80 ≡ 0
  others_whole = let l = card_within in let n = others_length in omega arith

  record_is : r ≡ record { action = Plain; bytes = record { items = take 80 rest } }
  record_is = let same = bytes ∙ card_is in λ i. record { action = plain i; bytes = record { items = same i } }

  -- the cards of the rest are its first and those of the others
  pub cards_more : cards (length rest / 80) rest ≡ r ∷ cards (length others / 80) others
  cards_more =
      let l = card_within in
      let n = others_length in
      let count : length rest / 80 ≡ suc (length others / 80) = omega arith in
      ap (λ k. cards k rest) count ∙ ap₂ (λ (x : Record) (xs : List Record). x ∷ xs) (sym record_is) (ap (cards (length others / 80)) (sym others_are))
