-- The canonical cut of a job: what it is, and that there is no other.
use Rattle.std.proofs.Common.{◌≡◌, ◌≢◌, ◌⊎◌, inl, inr, ℕ, ◌<◌, ◌≤◌, Bool, true, false, cond, leb, List, [], ◌∷◌, ◌++◌, length, take, refl, ap, sym, ◌∙◌, subst, arith}
use Rattle.std.specs.List.{flat_map, AllByRecursion}
use Rattle.std.proofs.lemmas.List.{append_assoc, append-nil, length-append}
use Rattle.std.proofs.lemmas.Bool.Decides.{nat_tests}
use Rattle.std.proofs.lemmas.Bool.{le-leb, lt-leb}
use Rattle.bsc_codes.specs.declared.block.Block.{Block}
use Rattle.bsc_codes.specs.declared.block.Closing.TheVariants.{Etb, Etx}
use Rattle.rje_text.specs.declared.mode.Mode.{Mode}
use Rattle.rje_text.specs.declared.mode.Mode.TheVariants.{Normal, Transparent}
use Rattle.rje_text.specs.declared.select.Select.{Select}
use Rattle.rje_text.specs.declared.select.Select.TheVariants.{Unset, Printer, Punch}
use Rattle.rje_text.specs.declared.record.Record.{Record}
use Rattle.rje_text.specs.Spelling.{spelling, selection}
use Rattle.rje_text.specs.Cut.{block, text_of, texts_of, AreFilled, blocks_of, IsCut, cut_behind, cut}
use Rattle.rje_text.proofs.ShortSpelling.{spelling_short}

abbrev joined : List (List Record) → List Record
joined runs = flat_map (λ run. run) runs

-- within and filled of the cut, run by run
abbrev AreLongest : Mode → List ℕ → List (List Record) → Type 0
AreLongest mode front [] = ⊥
AreLongest mode front (run ∷ []) = length (text_of mode front run) ≤ 510
AreLongest mode front (run ∷ next ∷ runs) =
    (length (text_of mode front run) ≤ 510) × (510 < length (text_of mode front (run ++ take 1 next))) × AreLongest mode [] (next ∷ runs)

-- the blocks of the runs, run by run
abbrev run_blocks : Mode → List ℕ → List (List Record) → List Block
run_blocks mode front [] = []
run_blocks mode front (run ∷ []) = block mode Etx (text_of mode front run) ∷ []
run_blocks mode front (run ∷ next ∷ runs) = block mode Etb (text_of mode front run) ∷ run_blocks mode [] (next ∷ runs)

abbrev AreWithin : Mode → List ℕ → List (List Record) → Type 0
AreWithin mode front runs = AllByRecursion (λ text. length text ≤ 510) (texts_of mode front runs)

not_nil : {X : Type 0} (x : X) (xs : List X) → (x ∷ xs) ≢ []
not_nil x xs e = cc

module _ (mode : Mode) where
  run_blocks_is : (front : List ℕ) (runs : List (List Record)) → run_blocks mode front runs ≡ blocks_of mode (texts_of mode front runs)
  run_blocks_is front [] = refl
  run_blocks_is front (run ∷ []) = refl
  run_blocks_is front (run ∷ next ∷ runs) = ap (λ bs. block mode Etb (text_of mode front run) ∷ bs) (run_blocks_is [] (next ∷ runs))

  longest_from : (front : List ℕ) (runs : List (List Record)) → runs ≢ [] → AreWithin mode front runs → AreFilled mode front runs → AreLongest mode front runs
  longest_from front [] n w f = n refl
  longest_from front (run ∷ []) n w f = w.0
  longest_from front (run ∷ next ∷ runs) n w f = (w.0, f.0, longest_from [] (next ∷ runs) (not_nil next runs) w.1 f.1)

  within_from : (front : List ℕ) (runs : List (List Record)) → AreLongest mode front runs → AreWithin mode front runs
  within_from front [] h = tt
  within_from front (run ∷ []) h = (h, tt)
  within_from front (run ∷ next ∷ runs) h = (h.0, within_from [] (next ∷ runs) h.2)

  filled_from : (front : List ℕ) (runs : List (List Record)) → AreLongest mode front runs → AreFilled mode front runs
  filled_from front [] h = tt
  filled_from front (run ∷ []) h = tt
  filled_from front (run ∷ next ∷ runs) h = (h.1, filled_from [] (next ∷ runs) h.2)

  text_shift : (front : List ℕ) (r : Record) (run : List Record) → text_of mode front (r ∷ run) ≡ text_of mode (front ++ spelling mode r) run
  text_shift front r run = sym (append_assoc front (spelling mode r) (flat_map (spelling mode) run))

  longest_shift : (front : List ℕ) (r : Record) (run : List Record) (runs : List (List Record)) → AreLongest mode front ((r ∷ run) ∷ runs) → AreLongest mode (front ++ spelling mode r) (run ∷ runs)
  longest_shift front r run [] h = subst (λ t. length t ≤ 510) (text_shift front r run) h
  longest_shift front r run (next ∷ runs) h =
      (subst (λ t. length t ≤ 510) (text_shift front r run) h.0, subst (λ t. 510 < length t) (text_shift front r (run ++ take 1 next)) h.1, h.2)

  longest_unshift : (front : List ℕ) (r : Record) (run : List Record) (runs : List (List Record)) → AreLongest mode (front ++ spelling mode r) (run ∷ runs) → AreLongest mode front ((r ∷ run) ∷ runs)
  longest_unshift front r run [] h = subst (λ t. length t ≤ 510) (sym (text_shift front r run)) h
  longest_unshift front r run (next ∷ runs) h =
      (subst (λ t. length t ≤ 510) (sym (text_shift front r run)) h.0, subst (λ t. 510 < length t) (sym (text_shift front r (run ++ take 1 next))) h.1, h.2)

  blocks_shift : (front : List ℕ) (r : Record) (run : List Record) (runs : List (List Record)) → run_blocks mode front ((r ∷ run) ∷ runs) ≡ run_blocks mode (front ++ spelling mode r) (run ∷ runs)
  blocks_shift front r run [] = ap (λ t. block mode Etx t ∷ []) (text_shift front r run)
  blocks_shift front r run (next ∷ runs) = ap (λ t. block mode Etb t ∷ run_blocks mode [] (next ∷ runs)) (text_shift front r run)

  first_fits : (front : List ℕ) (r : Record) (run : List Record) (runs : List (List Record)) → AreLongest mode front ((r ∷ run) ∷ runs) → length (front ++ spelling mode r) ≤ 510
  first_fits front r run [] h = omega (arith, h, ap length (text_shift front r run), length-append (front ++ spelling mode r) (flat_map (spelling mode) run))
  first_fits front r run (next ∷ runs) h = omega (arith, h.0, ap length (text_shift front r run), length-append (front ++ spelling mode r) (flat_map (spelling mode) run))

  abbrev Claim : List (List Record) → Type 0
  Claim runs = (front : List ℕ) (run : List Record) → AreLongest mode front (run ∷ runs) → run_blocks mode front (run ∷ runs) ≡ cut_behind mode front (run ++ joined runs)

  by_run : (runs : List (List Record)) → ((front : List ℕ) → AreLongest mode front ([] ∷ runs) → run_blocks mode front ([] ∷ runs) ≡ cut_behind mode front (joined runs)) → Claim runs
  by_run runs base front [] h = base front h
  by_run runs base front (r ∷ run) h =
      let t = le-leb (length (front ++ spelling mode r)) 510 (first_fits front r run runs h) in
      rw t (blocks_shift front r run runs ∙ by_run runs base (front ++ spelling mode r) run (longest_shift front r run runs h))

  claim : (runs : List (List Record)) → Claim runs
  claim [] = by_run [] (λ front h. ap (λ t. block mode Etx t ∷ []) (append-nil front))
  claim ([] ∷ runs) = by_run ([] ∷ runs) (λ front h. absurd (omega (arith, h.0, h.1)))
  claim ((r ∷ next) ∷ runs) =
      by_run ((r ∷ next) ∷ runs) (λ front h.
      let over : 510 < length (front ++ spelling mode r) = subst (λ t. 510 < length (front ++ t)) (append-nil (spelling mode r)) h.1 in
      let t = lt-leb (length (front ++ spelling mode r)) 510 over in
      let rest = claim runs (spelling mode r) next (longest_shift [] r next runs h.2) in
      rw t (ap (λ x. block mode Etb x ∷ run_blocks mode [] ((r ∷ next) ∷ runs)) (append-nil front) ∙ ap (λ bs. block mode Etb front ∷ bs) (blocks_shift [] r next runs ∙ rest)))

  -- the blocks of what follows, with the runs that they are made of; none is empty but perhaps the first
  record IsCutBehind (front : List ℕ) (rs : List Record) (bs : List Block) : Type 0 where
    run : List Record
    runs : List (List Record)
    whole : run ++ joined runs ≡ rs
    later : AllByRecursion (λ next. next ≢ []) runs
    longest : AreLongest mode front (run ∷ runs)
    same : bs ≡ run_blocks mode front (run ∷ runs)

  -- each record fits into a text by itself
  abbrev Fit : List Record → Type 0
  Fit rs = AllByRecursion (λ r. length (spelling mode r) ≤ 510) rs

  -- a record more in front of the first run
  run_more : (front : List ℕ) (r : Record) (rs : List Record) (bs : List Block) → IsCutBehind (front ++ spelling mode r) rs bs → IsCutBehind front (r ∷ rs) bs
  run_more front r rs bs c =
      record { run = r ∷ c.run; runs = c.runs; whole = ap (λ xs. r ∷ xs) c.whole; later = c.later; longest = longest_unshift front r c.run c.runs c.longest; same = c.same ∙ sym (blocks_shift front r c.run c.runs) }

  cut_step : (front : List ℕ) (r : Record) (rs : List Record) (b : Bool) → leb (length (front ++ spelling mode r)) 510 ≡ b → length front ≤ 510
      → (length (front ++ spelling mode r) ≤ 510 → IsCutBehind (front ++ spelling mode r) rs (cut_behind mode (front ++ spelling mode r) rs))
      → IsCutBehind (spelling mode r) rs (cut_behind mode (spelling mode r) rs)
      → IsCutBehind front (r ∷ rs) (cond b (cut_behind mode (front ++ spelling mode r) rs) (block mode Etb front ∷ cut_behind mode (spelling mode r) rs))
  cut_step front r rs true e l here next = run_more front r rs _ (here (grind (arith, nat_tests)))
  cut_step front r rs false e l here c =
      let over : 510 < length (front ++ spelling mode r) = grind (arith, nat_tests) in
      record {
        run = [];
        runs = (r ∷ c.run) ∷ c.runs;
        whole = ap (λ xs. r ∷ xs) c.whole;
        later = (not_nil r c.run, c.later);
        longest = (rw (append-nil front) l, subst (λ t. 510 < length (front ++ t)) (sym (append-nil (spelling mode r))) over, longest_unshift [] r c.run c.runs c.longest);
        same = ap (λ bs. block mode Etb front ∷ bs) (c.same ∙ sym (blocks_shift [] r c.run c.runs)) ∙ ap (λ t. block mode Etb t ∷ run_blocks mode [] ((r ∷ c.run) ∷ c.runs)) (sym (append-nil front));
      }

  is_cut_behind : (front : List ℕ) (rs : List Record) → length front ≤ 510 → Fit rs → IsCutBehind front rs (cut_behind mode front rs)
  is_cut_behind front [] l h =
      record { run = []; runs = []; whole = refl; later = tt; longest = rw (append-nil front) l; same = ap (λ t. block mode Etx t ∷ []) (sym (append-nil front)) }
  is_cut_behind front (r ∷ rs) l h =
      cut_step front r rs (leb (length (front ++ spelling mode r)) 510) refl l (λ m. is_cut_behind (front ++ spelling mode r) rs m h.1) (is_cut_behind (spelling mode r) rs h.0 h.1)

  is_cut_from : (select : Select) (records : List Record) (bs : List Block) (c : IsCutBehind (selection select mode) records bs)
      → ((c.run ∷ c.runs) ≡ [] ∷ []) ⊎ (((c.run ∷ c.runs) ≢ []) × AllByRecursion (λ run. run ≢ []) (c.run ∷ c.runs)) → IsCut select mode records bs
  is_cut_from select records bs c l = record {
    runs = c.run ∷ c.runs;
    whole = c.whole;
    lone = l;
    within = within_from (selection select mode) (c.run ∷ c.runs) c.longest;
    filled = filled_from (selection select mode) (c.run ∷ c.runs) c.longest;
    same = c.same ∙ run_blocks_is (selection select mode) (c.run ∷ c.runs);
  }

lone_some : (runs : List (List Record)) → (runs ≡ [] ∷ []) ⊎ ((runs ≢ []) × AllByRecursion (λ run. run ≢ []) runs) → runs ≢ []
lone_some runs (inl e) = subst (λ xs. xs ≢ []) (sym e) (not_nil [] [])
lone_some runs (inr h) = h.0

pub cut_only : (select : Select) (mode : Mode) (records : List Record) (blocks : List Block) → IsCut select mode records blocks → blocks ≡ cut select mode records
unfolding cut
cut_only select mode records blocks h =
    from h.runs h.whole (longest_from mode (selection select mode) h.runs (lone_some h.runs h.lone) h.within h.filled) (h.same ∙ sym (run_blocks_is mode (selection select mode) h.runs))
  where
    from : (runs : List (List Record)) → joined runs ≡ records → AreLongest mode (selection select mode) runs → blocks ≡ run_blocks mode (selection select mode) runs → blocks ≡ cut_behind mode (selection select mode) records
    from [] w l s = absurd l
    from (run ∷ runs) w l s = s ∙ claim mode runs (selection select mode) run l ∙ ap (cut_behind mode (selection select mode)) w

all_fit : (mode : Mode) (rs : List Record) → AllByRecursion (λ r. length r.bytes.items ≤ 144) rs → Fit mode rs
all_fit mode [] h = tt
all_fit mode (r ∷ rs) h = (omega (arith, spelling_short mode r h.0), all_fit mode rs h.1)

selection_short : (select : Select) (mode : Mode) → length (selection select mode) ≤ 1
selection_short Unset Normal = omega arith
selection_short Printer Normal = omega arith
selection_short Punch Normal = omega arith
selection_short select Transparent = omega arith

-- the first record goes into the first block
first_room : (select : Select) (mode : Mode) (r : Record) → length r.bytes.items ≤ 144 → length (selection select mode ++ spelling mode r) ≤ 510
first_room select mode r h = omega (arith, length-append (selection select mode) (spelling mode r), selection_short select mode, spelling_short mode r h)

pub cut_is : (select : Select) (mode : Mode) (records : List Record) → AllByRecursion (λ r. length r.bytes.items ≤ 144) records → IsCut select mode records (cut select mode records)
unfolding cut is_cut_behind run_more
cut_is select mode [] h =
    is_cut_from mode select [] _ (is_cut_behind mode (selection select mode) [] (omega (arith, selection_short select mode)) tt) (inl refl)
cut_is select mode (r ∷ rs) h =
    let room = first_room select mode r h.0 in
    let c = is_cut_behind mode (selection select mode ++ spelling mode r) rs room (all_fit mode rs h.1) in
    rw (le-leb (length (selection select mode ++ spelling mode r)) 510 room)
    (is_cut_from mode select (r ∷ rs) _ (run_more mode (selection select mode) r rs _ c) (inr (not_nil (r ∷ c.run) c.runs, (not_nil r c.run, c.later))))
