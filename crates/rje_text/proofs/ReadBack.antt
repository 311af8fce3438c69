-- The blocks of a job's canonical cut read back: what compressed data, records, texts and cards stand for.
use Rattle.std.proofs.Common.{◌≡◌, ◌≢◌, ◌⊎◌, inl, inr, ℕ, zero, suc, ◌+◌, ◌*◌, ◌-◌, ◌/◌, ◌%◌, ◌<◌, ◌≤◌, Bool, true, false, cond, eqb, leb, ltb, List, [], ◌∷◌, ◌++◌, length, take, drop, replicate, get_or, Option, Some, None, refl, ap, sym, ◌∙◌, subst, arith, ⊎_elim}
use Rattle.std.specs.Option.{option_map, option_or}
use Rattle.std.specs.List.{flat_map, AllByRecursion, position, prefix_len}
use Rattle.std.proofs.lemmas.Bool.{cases_eq, cases_lt, lt-ltb}
use Rattle.std.specs.Prelude.{not}
use Rattle.std.proofs.lemmas.Bool.Decides.{nat_tests}
use Rattle.std.proofs.lemmas.Grind.{flat_map-append}
use Rattle.std.proofs.lemmas.List.{append_assoc, append-nil, length-append, replicate-append-replicate, replicate_more, take_all}
use Rattle.std.proofs.Math.Seq.{take-append_seam, drop-append_seam}
use Rattle.std.proofs.lemmas.Option.{none-some}
use Rattle.bsc_codes.specs.Bytes.{BLANK, IGS, IRS, ESC, DC1, DC2, DC3}
use Rattle.bsc_codes.specs.declared.block.Block.{Block}
use Rattle.bsc_codes.specs.declared.block.Closing.{Closing}
use Rattle.bsc_codes.specs.declared.block.Closing.TheVariants.{Etb, Etx}
use Rattle.rje_text.specs.declared.mode.Mode.{Mode}
use Rattle.rje_text.specs.declared.mode.Mode.TheVariants.{Normal, Transparent}
use Rattle.rje_text.specs.declared.select.Select.{Select}
use Rattle.rje_text.specs.declared.select.Select.TheVariants.{Unset, Printer, Punch}
use Rattle.rje_text.specs.declared.action.Action.{Action}
use Rattle.rje_text.specs.declared.action.Action.TheVariants.{Plain}
use Rattle.rje_text.specs.declared.record.Record.{Record}
use Rattle.rje_text.specs.declared.unpacked.Unpacked.{Unpacked}
use Rattle.rje_text.specs.declared.pack_fault.PackFault.{PackFault}
use Rattle.rje_text.specs.declared.pack_fault.PackFault.TheVariants.{BadByte, CardLength, ActionHere}
use Rattle.rje_text.specs.Action.{code_of, action_of}
use Rattle.rje_text.specs.PackFault.{RecordsFit, is_no_data_byte, card_length, action_here, pack_fault}
use Rattle.rje_text.specs.Spelling.{spelling, selection, compressed, full_counts, rest_of_blanks, written_run, action_escape}
use Rattle.rje_text.specs.Spelling.Run.{Blanks}
use Rattle.rje_text.specs.Reading.{is_count, record_of, records_in, selection_in, normal_reading, is_cards, cards, card_reading, IsRead}
use Rattle.rje_text.specs.Cut.{block, text_of, cut_behind, cut}
use Rattle.rje_text.specs.Laws.{AreRead, IsJobRead}
use Rattle.rje_text.proofs.Blanks.{behind, behind_blank, behind_byte, behind_end}
use Rattle.rje_text.proofs.Expanding.{not_equal, Stands, nothing, byte, count, Stands-append, no_escape, escape_head, whole_record}
use Rattle.rje_text.proofs.Fronts.{LacksIrs, one_first, records_in-more, records_in-nil}
use Rattle.rje_text.proofs.ActionCodes.{action_of-code}
use Rattle.rje_text.proofs.ShortSpelling.{rest_is, spelling_short}

-- how full counts and the rest stand for blanks
full_counts_stand : (n : ℕ) → Stands (full_counts n) (replicate (63 * n) BLANK)
full_counts_stand zero = nothing
full_counts_stand (suc n) =
    subst (λ k. Stands (full_counts (suc n)) (replicate k BLANK)) (omega arith)
    (subst (λ ys. Stands (full_counts (suc n)) ys) (replicate-append-replicate 63 (63 * n) BLANK) (count refl (full_counts_stand n)))

count_is : (n : ℕ) → 0 < n → n < 63 → is_count (BLANK + n) ≡ true
count_is n a b = grind (arith, nat_tests)

rest_stands : (r : ℕ) → r < 63 → Stands (rest_of_blanks r) (replicate r BLANK)
rest_stands zero h = nothing
rest_stands (suc zero) h = byte (λ e. absurd (omega (arith, e))) nothing
rest_stands (suc (suc r)) h =
    let n = suc (suc r) in
    let number : (BLANK + n) - BLANK ≡ n = omega arith in
    let same : replicate ((BLANK + n) - BLANK) BLANK ++ [] ≡ replicate n BLANK = append-nil (replicate ((BLANK + n) - BLANK) BLANK) ∙ ap (λ k. replicate k BLANK) number in
    rw (rest_is n (omega arith)) (subst (λ ys. Stands (IGS ∷ (BLANK + n) ∷ []) ys) same (count (count_is n (omega arith) h) nothing))

blanks_stand : (m : ℕ) → Stands (written_run (Blanks m)) (replicate m BLANK)
blanks_stand m =
    subst (λ ys. Stands (written_run (Blanks m)) ys) (replicate-append-replicate (63 * (m / 63)) (m % 63) BLANK ∙ ap (λ k. replicate k BLANK) (omega arith))
    (Stands-append (full_counts_stand (m / 63)) (rest_stands (m % 63) (omega arith)))

-- data bytes that a normal text can carry
abbrev pub AreData : List ℕ → Type 0
AreData xs = AllByRecursion (λ x. 0x40 ≤ x) xs

behind_stands : (m : ℕ) (xs : List ℕ) → AreData xs → Stands (behind m xs) (replicate m BLANK ++ xs)
behind_stands m [] h = rw (append-nil (replicate m BLANK), behind_end m) (blanks_stand m)
behind_stands m (x ∷ xs) h =
    ⊎_elim
    (λ (e : x ≡ BLANK).
    let same : replicate (m + 1) BLANK ++ xs ≡ replicate m BLANK ++ x ∷ xs =
    ap (λ ys. ys ++ xs) (sym (replicate_more m BLANK)) ∙ append_assoc (replicate m BLANK) (BLANK ∷ []) xs ∙ ap (λ b. replicate m BLANK ++ b ∷ xs) (sym e) in
    rw (behind_blank m x xs e) (subst (λ ys. Stands (behind (m + 1) xs) ys) same (behind_stands (m + 1) xs h.1)))
    (λ (n : x ≢ BLANK).
    rw (behind_byte m x xs n) (Stands-append (blanks_stand m) (byte (λ e. absurd (omega (arith, e, h.0))) (behind_stands 0 xs h.1))))
    (cases_eq x BLANK)

-- a byte of compressed data: an IGS, or one that ends no record, selects nothing and begins no action
abbrev pub IsQuiet : ℕ → Type 0
IsQuiet x = (x ≡ IGS) ⊎ (0x40 ≤ x)

abbrev pub AreQuiet : List ℕ → Type 0
AreQuiet xs = AllByRecursion IsQuiet xs

quiet-append : (xs ys : List ℕ) → AreQuiet xs → AreQuiet ys → AreQuiet (xs ++ ys)
quiet-append [] ys h g = g
quiet-append (x ∷ xs) ys h g = (h.0, quiet-append xs ys h.1 g)

full_counts_quiet : (n : ℕ) → AreQuiet (full_counts n)
full_counts_quiet zero = tt
full_counts_quiet (suc n) = (inl refl, (inr (omega arith), full_counts_quiet n))

rest_quiet : (r : ℕ) → AreQuiet (rest_of_blanks r)
rest_quiet zero = tt
rest_quiet (suc zero) = (inr (omega arith), tt)
rest_quiet (suc (suc r)) = rw (rest_is (suc (suc r)) (omega arith)) (inl refl, (inr (omega arith), tt))

blanks_quiet : (m : ℕ) → AreQuiet (written_run (Blanks m))
blanks_quiet m = quiet-append (full_counts (m / 63)) (rest_of_blanks (m % 63)) (full_counts_quiet (m / 63)) (rest_quiet (m % 63))

behind_quiet : (m : ℕ) (xs : List ℕ) → AreData xs → AreQuiet (behind m xs)
behind_quiet m [] h = rw (behind_end m) (blanks_quiet m)
behind_quiet m (x ∷ xs) h =
    ⊎_elim
    (λ (e : x ≡ BLANK). rw (behind_blank m x xs e) (behind_quiet (m + 1) xs h.1))
    (λ (n : x ≢ BLANK). rw (behind_byte m x xs n) (quiet-append (written_run (Blanks m)) (x ∷ behind 0 xs) (blanks_quiet m) (inr h.0, behind_quiet 0 xs h.1)))
    (cases_eq x BLANK)

pub compressed_quiet : (xs : List ℕ) → AreData xs → AreQuiet (compressed xs)
unfolding compressed
compressed_quiet xs h = behind_quiet 0 xs h

compressed_stands : (xs : List ℕ) → AreData xs → Stands (compressed xs) xs
unfolding compressed
compressed_stands xs h = behind_stands 0 xs h

quiet_apart : (x k : ℕ) → k ≢ IGS → k < 0x40 → IsQuiet x → x ≢ k
quiet_apart x k n l (inl e) q = n (sym q ∙ e)
quiet_apart x k n l (inr h) q = omega (arith, h, l, q)

quiet_lacks : (xs : List ℕ) → AreQuiet xs → LacksIrs xs
quiet_lacks [] h = tt
quiet_lacks (x ∷ xs) h = (quiet_apart x IRS (λ e. absurd (omega (arith, e))) (omega arith) h.0, quiet_lacks xs h.1)

-- what a job can send

or_parts : (a b : Option PackFault) → option_or a b ≡ None → (a ≡ None) × (b ≡ None)
or_parts None b e = (refl, e)
or_parts (Some x) b e = absurd (none-some x (sym e))

abbrev IsSent : Select → Mode → Record → Type 0
IsSent job mode r = (length r.bytes.items ≤ 144) × (pack_fault job mode r ≡ None)

abbrev AreSent : Select → Mode → List Record → Type 0
AreSent job mode rs = AllByRecursion (IsSent job mode) rs

-- no byte is one that a normal text can't carry
data_from : (xs : List ℕ) → length xs ≤ prefix_len (λ x. not (is_no_data_byte x)) xs → AreData xs
data_from [] h = tt
data_from (x ∷ xs) h =
    ⊎_elim
    (λ (l : x < 0x40). let bad : is_no_data_byte x ≡ true = grind (arith, nat_tests) in absurd (omega (arith, rw bad at h)))
    (λ (l : 0x40 ≤ x).
    ⊎_elim
    (λ (m : 0xFE < x). let bad : is_no_data_byte x ≡ true = grind (arith, nat_tests) in absurd (omega (arith, rw bad at h)))
    (λ (m : x ≤ 0xFE). let good : is_no_data_byte x ≡ false = grind (arith, nat_tests) in (l, data_from xs (omega (arith, rw good at h))))
    (cases_lt 0xFE x))
    (cases_lt x 0x40)

none_past : (a b : ℕ) → cond (ltb a b) (Some a) None ≡ None → b ≤ a
none_past a b h =
    ⊎_elim (λ (l : a < b). let t = lt-ltb a b l in absurd (none-some a (sym (rw t at h)))) (λ (l : b ≤ a). l) (cases_lt a b)

no_place : (o : Option ℕ) → option_map BadByte o ≡ None → o ≡ None
no_place None h = refl
no_place (Some p) h = absurd (none-some (BadByte p) (sym h))

pub data_of : (job : Select) (r : Record) → pack_fault job Normal r ≡ None → AreData r.bytes.items
unfolding pack_fault
data_of job r h = data_from r.bytes.items (none_past _ _ (no_place (position is_no_data_byte r.bytes.items) (or_parts _ _ h).0))

sent_data : (job : Select) (r : Record) → IsSent job Normal r → AreData r.bytes.items
sent_data job r h = data_of job r h.1

record_is : (r : Record) (a : Action) → r.action ≡ a → record { action = a; bytes = record { items = r.bytes.items } } ≡ r
record_is r a e = let f = sym e in λ i. record { action = f i; bytes = r.bytes }

-- the records of a normal text

plain_only : (a : Action) → code_of a ≡ None → a ≡ Plain
plain_only Plain e = refl
plain_only a e = absurd (none-some _ (sym e))

irs_acts_not : action_of IRS ≡ None
unfolding action_of
irs_acts_not = refl

no_irs_code : (a : Action) (c : ℕ) → code_of a ≡ Some c → c ≢ IRS
no_irs_code a c h e = none-some a (sym (sym (action_of-code a c h) ∙ ap action_of e ∙ irs_acts_not))

-- a record's text, without its IRS
abbrev piece_of : Record → List ℕ
piece_of r = action_escape (code_of r.action) ++ compressed r.bytes.items

escape_lacks : (a : Action) (o : Option ℕ) → code_of a ≡ o → (xs : List ℕ) → LacksIrs xs → LacksIrs (action_escape o ++ xs)
escape_lacks a None h xs l = l
escape_lacks a (Some c) h xs l = (λ e. absurd (omega (arith, e)), (no_irs_code a c h, l))

piece_lacks : (job : Select) (r : Record) → IsSent job Normal r → LacksIrs (piece_of r)
piece_lacks job r h = escape_lacks r.action (code_of r.action) refl (compressed r.bytes.items) (quiet_lacks _ (compressed_quiet r.bytes.items (sent_data job r h)))

quiet_front : (xs : List ℕ) → AreQuiet xs → get_or xs 0 0 ≢ ESC
quiet_front [] h = λ e. absurd (omega (arith, e))
quiet_front (x ∷ xs) h = quiet_apart x ESC (λ e. absurd (omega (arith, e))) (omega arith) h.0

piece_with : (a : Action) (o : Option ℕ) → code_of a ≡ o → (text ys : List ℕ) → AreQuiet text → length ys ≤ 144 → Stands text ys
    → record_of (action_escape o ++ text) ≡ Some (record { action = a; bytes = record { items = ys } })
piece_with a None h text ys q l s =
    let all : Stands (take (length text) text) ys = subst (λ xs. Stands xs ys) (sym (take_all (length text) text (omega arith))) s in
    whole_record text ys 0 (length text) Plain (no_escape text (inr (quiet_front text q))) (omega arith) (omega arith) l all
    ∙ ap (λ b. Some (record { action = b; bytes = record { items = ys } })) (sym (plain_only a h))
piece_with a (Some c) h text ys q l s =
    let all : Stands (take (length text) text) ys = subst (λ xs. Stands xs ys) (sym (take_all (length text) text (omega arith))) s in
    whole_record (ESC ∷ c ∷ text) ys 2 (length (ESC ∷ c ∷ text)) a (escape_head c text a (action_of-code a c h)) (omega arith) (omega arith) l all

piece_reads : (job : Select) (r : Record) → IsSent job Normal r → record_of (piece_of r) ≡ Some r
piece_reads job r h =
    let bytes = sent_data job r h in
    piece_with r.action (code_of r.action) refl (compressed r.bytes.items) r.bytes.items (compressed_quiet r.bytes.items bytes) h.0 (compressed_stands r.bytes.items bytes)
    ∙ ap Some (record_is r r.action refl)

spelled_then : (r : Record) (ys : List ℕ) → spelling Normal r ++ ys ≡ piece_of r ++ IRS ∷ ys
spelled_then r ys = simp append_assoc

body_reads : (job : Select) (rs : List Record) → AreSent job Normal rs → records_in (flat_map (spelling Normal) rs) ≡ Some rs
body_reads job [] h = records_in-nil
body_reads job (r ∷ rs) h =
    ap records_in (spelled_then r (flat_map (spelling Normal) rs)) ∙ records_in-more (piece_of r) (flat_map (spelling Normal) rs) (piece_lacks job r h.0)
    ∙ ap (λ o. one_first o (records_in (flat_map (spelling Normal) rs))) (piece_reads job r h.0) ∙ ap (λ o. one_first (Some r) o) (body_reads job rs h.1)

no_select : (x : ℕ) (xs : List ℕ) → IsQuiet x → selection_in None (x ∷ xs) ≡ None
no_select x xs q =
    rw (
      not_equal x DC1 (quiet_apart x DC1 (λ e. absurd (omega (arith, e))) (omega arith) q),
      not_equal x DC2 (quiet_apart x DC2 (λ e. absurd (omega (arith, e))) (omega arith) q),
      not_equal x DC3 (quiet_apart x DC3 (λ e. absurd (omega (arith, e))) (omega arith) q),
    ) refl

starts : (o : Option ℕ) (xs ys : List ℕ) → AreQuiet xs → selection_in None ((action_escape o ++ (xs ++ IRS ∷ [])) ++ ys) ≡ None
starts (Some c) xs ys q = refl
starts None [] ys q = refl
starts None (x ∷ xs) ys q = no_select x ((xs ++ IRS ∷ []) ++ ys) q.0

-- the text of records selects nothing
body_selects_not : (job : Select) (rs : List Record) → AreSent job Normal rs → selection_in None (flat_map (spelling Normal) rs) ≡ None
body_selects_not job [] h = refl
body_selects_not job (r ∷ rs) h =
    starts (code_of r.action) (compressed r.bytes.items) (flat_map (spelling Normal) rs) (compressed_quiet r.bytes.items (sent_data job r h.0))

-- blocks of one job

-- after this front a block's text of whole records is read, and gives this selection
abbrev Reads : Select → Mode → Option Mode → List ℕ → Select → Type 0
Reads job mode so_far front select = (rs : List Record) (closing : Closing) → AreSent job mode rs → length (text_of mode front rs) ≤ 510
    → IsRead (block mode closing (text_of mode front rs)) so_far (record { select = select; mode = mode; records = rs })

first_reads : (job select : Select) → Reads job Normal None (selection select Normal) select
unfolding normal_reading
first_reads job Unset rs closing h l = (rw (body_selects_not job rs h, body_reads job rs h) refl, tt)
first_reads job Printer rs closing h l = (rw (body_reads job rs h) refl, tt)
first_reads job Punch rs closing h l = (rw (body_reads job rs h) refl, tt)

later_reads : (job : Select) → Reads job Normal (Some Normal) [] Unset
unfolding normal_reading
later_reads job rs closing h l = (rw (body_reads job rs h) refl, refl)

-- a card has 80 bytes and no carriage control
abbrev IsCard : Record → Type 0
IsCard r = (length r.bytes.items ≡ 80) × (r.action ≡ Plain)

eighty : (n : ℕ) → card_length Punch Transparent n ≡ None → n ≡ 80
eighty n h = ⊎_elim (λ (e : n ≡ 80). e) (λ (e : n ≢ 80). absurd (none-some (CardLength n) (sym (rw (not_equal n 80 e) at h)))) (cases_eq n 80)

no_action_here : (a : Action) → action_here true a ≡ None → a ≡ Plain
no_action_here Plain h = refl
no_action_here a h = absurd (none-some ActionHere (sym h))

sent_card : (r : Record) → IsSent Punch Transparent r → IsCard r
unfolding pack_fault
sent_card r h =
    let parts = or_parts (card_length Punch Transparent (length r.bytes.items)) (action_here true r.action) h.1 in
    (eighty (length r.bytes.items) parts.0, no_action_here r.action parts.1)

cards_length : (rs : List Record) → AreSent Punch Transparent rs → length (flat_map (spelling Transparent) rs) ≡ 80 * length rs
cards_length [] h = refl
cards_length (r ∷ rs) h =
    omega (arith, length-append r.bytes.items (flat_map (spelling Transparent) rs), (sent_card r h.0).0, cards_length rs h.1)

card_parts : (xs ys : List ℕ) → length xs ≡ 80 → (take 80 (xs ++ ys) ≡ xs) × (drop 80 (xs ++ ys) ≡ ys)
card_parts xs ys h =
    (subst (λ n. take n (xs ++ ys) ≡ xs) h (take-append_seam xs ys), subst (λ n. drop n (xs ++ ys) ≡ ys) h (drop-append_seam xs ys))

cards_back : (rs : List Record) → AreSent Punch Transparent rs → cards (length rs) (flat_map (spelling Transparent) rs) ≡ rs
cards_back [] h = refl
cards_back (r ∷ rs) h =
    let card = sent_card r h.0 in
    let parts = card_parts r.bytes.items (flat_map (spelling Transparent) rs) card.0 in
    ap (λ xs. record { action = Plain; bytes = record { items = xs } } ∷ cards (length rs) (drop 80 (r.bytes.items ++ flat_map (spelling Transparent) rs))) parts.0
    ∙ ap (λ xs. record { action = Plain; bytes = record { items = r.bytes.items } } ∷ cards (length rs) xs) parts.1
    ∙ ap (λ x. x ∷ cards (length rs) (flat_map (spelling Transparent) rs)) (record_is r Plain card.1)
    ∙ ap (λ xs. r ∷ xs) (cards_back rs h.1)

cards_fit : (text : List ℕ) (n : ℕ) → length text ≡ 80 * n → length text ≤ 510 → is_cards text ≡ true
cards_fit text n e l =
    let whole : eqb (length text % 80) 0 ≡ true = grind (arith, nat_tests) in
    let few : leb (length text) 480 ≡ true = grind (arith, nat_tests) in
    rw (whole, few) refl

cards_read : (rs : List Record) → AreSent Punch Transparent rs → length (flat_map (spelling Transparent) rs) ≤ 510
    → card_reading (flat_map (spelling Transparent) rs) ≡ Some (record { select = Punch; mode = Transparent; records = rs })
unfolding card_reading
cards_read rs h l =
    let long = cards_length rs h in
    let number : length (flat_map (spelling Transparent) rs) / 80 ≡ length rs = omega arith in
    rw (cards_fit (flat_map (spelling Transparent) rs) (length rs) long l, number, cards_back rs h) refl

first_cards : Reads Punch Transparent None [] Punch
first_cards rs closing h l = (cards_read rs h l, tt)

later_cards : Reads Punch Transparent (Some Transparent) [] Punch
later_cards rs closing h l = (cards_read rs h l, refl)

-- these blocks are read, and give this selection, this mode and these records
record AreReadAs (so_far : Option Mode) (select : Select) (mode : Mode) (rs : List Record) (bs : List Block) : Type 0 where
  us : List Unpacked
  are : AreRead so_far bs us
  job : IsJobRead select mode rs us

text_more : (mode : Mode) (front : List ℕ) (rs : List Record) (r : Record) → text_of mode front (rs ++ r ∷ []) ≡ text_of mode front rs ++ spelling mode r
text_more mode front rs r =
    ap (λ xs. front ++ xs) (flat_map-append (spelling mode) rs (r ∷ []) ∙ ap (λ xs. flat_map (spelling mode) rs ++ xs) (append-nil (spelling mode r)))
    ∙ sym (append_assoc front (flat_map (spelling mode) rs) (spelling mode r))

sent-append : (job : Select) (mode : Mode) (rs : List Record) (r : Record) → AreSent job mode rs → IsSent job mode r → AreSent job mode (rs ++ r ∷ [])
sent-append job mode [] r h g = (g, tt)
sent-append job mode (x ∷ xs) r h g = (h.0, sent-append job mode xs r h.1 g)

-- below, later is the selection that the job's later blocks give
module _ (job : Select) (mode : Mode) (later : Select) (reads : Reads job mode (Some mode) [] later) where
  last_block : (so_far : Option Mode) (front : List ℕ) (select : Select) → Reads job mode so_far front select
      → (rs : List Record) → AreSent job mode rs → length (text_of mode front rs) ≤ 510 → AreReadAs so_far select mode rs (block mode Etx (text_of mode front rs) ∷ [])
  last_block so_far front select here rs h l = record {
    us = record { select = select; mode = mode; records = rs } ∷ [];
    are = (here rs Etx h l, tt);
    job = record { selected = refl; moded = (refl, tt); all = append-nil rs };
  }

  next_block : (so_far : Option Mode) (front : List ℕ) (select : Select) → Reads job mode so_far front select
      → (rs rest : List Record) (bs : List Block) → AreSent job mode rs → length (text_of mode front rs) ≤ 510 → AreReadAs (Some mode) later mode rest bs
      → AreReadAs so_far select mode (rs ++ rest) (block mode Etb (text_of mode front rs) ∷ bs)
  next_block so_far front select here rs rest bs h l c = record {
    us = record { select = select; mode = mode; records = rs } ∷ c.us;
    are = (here rs Etb h l, c.are);
    job = record { selected = refl; moded = (refl, c.job.moded); all = ap (λ xs. rs ++ xs) c.job.all };
  }

  by_room : (so_far : Option Mode) (select : Select) (rs : List Record) (text : List ℕ) (xs ys : List Block) (b : Bool) → leb (length text) 510 ≡ b
      → (length text ≤ 510 → AreReadAs so_far select mode rs xs) → AreReadAs so_far select mode rs ys → AreReadAs so_far select mode rs (cond b xs ys)
  by_room so_far select rs text xs ys true e p q = p (grind (arith, nat_tests))
  by_room so_far select rs text xs ys false e p q = q

  behind_reads : (so_far : Option Mode) (front : List ℕ) (select : Select) → Reads job mode so_far front select
      → (rs rest : List Record) → AreSent job mode rs → AreSent job mode rest → length (text_of mode front rs) ≤ 510
      → AreReadAs so_far select mode (rs ++ rest) (cut_behind mode (text_of mode front rs) rest)
  behind_reads so_far front select here rs [] h g l =
      subst (λ xs. AreReadAs so_far select mode xs (block mode Etx (text_of mode front rs) ∷ [])) (sym (append-nil rs)) (last_block so_far front select here rs h l)
  behind_reads so_far front select here rs (r ∷ rest) h g l =
      let more = text_more mode front rs r in
      let one : length (spelling mode r) ≤ 147 = spelling_short mode r g.0.0 in
      let alone : text_of mode [] (r ∷ []) ≡ spelling mode r = append-nil (spelling mode r) in
      by_room so_far select (rs ++ r ∷ rest) (text_of mode front rs ++ spelling mode r)
      (cut_behind mode (text_of mode front rs ++ spelling mode r) rest) (block mode Etb (text_of mode front rs) ∷ cut_behind mode (spelling mode r) rest)
      (leb (length (text_of mode front rs ++ spelling mode r)) 510) refl
      (λ fits.
      subst (λ xs. AreReadAs so_far select mode xs (cut_behind mode (text_of mode front rs ++ spelling mode r) rest)) (append_assoc rs (r ∷ []) rest)
      (subst (λ t. AreReadAs so_far select mode ((rs ++ r ∷ []) ++ rest) (cut_behind mode t rest)) more
      (behind_reads so_far front select here (rs ++ r ∷ []) rest (sent-append job mode rs r h g.0) g.1 (subst (λ t. length t ≤ 510) (sym more) fits))))
      (next_block so_far front select here rs (r ∷ rest) (cut_behind mode (spelling mode r) rest) h l
      (subst (λ t. AreReadAs (Some mode) later mode (r ∷ rest) (cut_behind mode t rest)) alone
      (behind_reads (Some mode) [] later reads (r ∷ []) rest (g.0, tt) g.1 (subst (λ t. length t ≤ 510) (sym alone) (omega arith)))))

  job_reads : (front : List ℕ) (select : Select) → Reads job mode None front select → (rs : List Record) → AreSent job mode rs → length front ≤ 510
      → AreReadAs None select mode rs (cut_behind mode front rs)
  job_reads front select here rs h l =
      subst (λ t. AreReadAs None select mode rs (cut_behind mode t rs)) (append-nil front)
      (behind_reads None front select here [] rs tt h (subst (λ t. length t ≤ 510) (sym (append-nil front)) l))

all_sent : (job : Select) (mode : Mode) (rs : List Record) → AllByRecursion (λ r. length r.bytes.items ≤ 144) rs → AllByRecursion (λ r. pack_fault job mode r ≡ None) rs → AreSent job mode rs
all_sent job mode [] h g = tt
all_sent job mode (r ∷ rs) h g = ((h.0, g.0), all_sent job mode rs h.1 g.1)

normal_reads : (job select : Select) (rs : List Record) → AreSent job Normal rs → AreReadAs None select Normal rs (cut select Normal rs)
unfolding cut
normal_reads job Unset rs h = job_reads job Normal Unset (later_reads job) [] Unset (first_reads job Unset) rs h (omega arith)
normal_reads job Printer rs h = job_reads job Normal Unset (later_reads job) (DC1 ∷ []) Printer (first_reads job Printer) rs h (omega arith)
normal_reads job Punch rs h = job_reads job Normal Unset (later_reads job) (DC2 ∷ []) Punch (first_reads job Punch) rs h (omega arith)

transparent_reads : (rs : List Record) → AreSent Punch Transparent rs → AreReadAs None Punch Transparent rs (cut Punch Transparent rs)
unfolding cut
transparent_reads rs h = job_reads Punch Transparent Punch later_cards [] Punch first_cards rs h (omega arith)

cut_reads : (select : Select) (mode : Mode) (rs : List Record) → RecordsFit select mode rs → AreReadAs None select mode rs (cut select mode rs)
cut_reads select Normal rs h = normal_reads select select rs (all_sent select Normal rs h.room h.sent)
cut_reads select Transparent rs h =
    let punch = h.punched refl in
    subst (λ s. AreReadAs None s Transparent rs (cut s Transparent rs)) (sym punch)
    (transparent_reads rs (subst (λ s. AreSent s Transparent rs) punch (all_sent select Transparent rs h.room h.sent)))

pub reads_back : (select : Select) (mode : Mode) (rs : List Record) → RecordsFit select mode rs → (us : List Unpacked) × AreRead None (cut select mode rs) us × IsJobRead select mode rs us
reads_back select mode rs h = let c = cut_reads select mode rs h in (c.us, c.are, c.job)
