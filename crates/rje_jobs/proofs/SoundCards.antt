-- The cards of a deck without a fault can be sent.
use Rattle.std.proofs.Common.{◌≡◌, ℕ, ◌+◌, ◌<◌, ◌≤◌, Bool, true, false, cond, List, [], ◌∷◌, length, map, Option, Some, None, refl, ap, arith, not, ⊎_elim, ◌&&◌}
use Rattle.std.specs.Prelude.{nat_le}
use Rattle.std.specs.List.{prefix_len, list_all, filter_map, cons_option, AllByRecursion}
use Rattle.std.specs.Option.{option_or}
use Rattle.std.specs.Str.Lines.{lines}
use Rattle.std.proofs.lemmas.Bool.{cases_lt, lt-ltb, le-ltb, not-true}
use Rattle.std.proofs.lemmas.Bool.Decides.{nat_tests}
use Rattle.std.proofs.lemmas.List.{length-append, length-replicate}
use Rattle.bsc_codes.specs.CodePage.{Entry, ebcdic_of, page_037}
use Rattle.bsc_codes.proofs.Tables.{code_passes}
use Rattle.rje_text.specs.declared.mode.Mode.{Mode}
use Rattle.rje_text.specs.declared.mode.Mode.TheVariants.{Normal, Transparent}
use Rattle.rje_text.specs.declared.select.Select.{Select}
use Rattle.rje_text.specs.declared.select.Select.TheVariants.{Unset, Printer, Punch}
use Rattle.rje_text.specs.declared.pack_fault.PackFault.TheVariants.{CardLength}
use Rattle.rje_text.specs.PackFault.{is_no_data_byte, bad_byte, card_length, pack_fault, RecordsFit}
use Rattle.rje_jobs.specs.declared.deck_fault.DeckFault.{DeckFault}
use Rattle.rje_jobs.specs.Deck.{line_fault, first_fault, deck_fault, filled, card_of, deck_select, job_of}

-- no byte is refused
abbrev are_data : List ℕ → Bool
are_data [] = true
are_data (b ∷ bs) = not (is_no_data_byte b) && are_data bs

-- each code of the page is a data byte
page_is_data : list_all (λ (e : Entry). not (is_no_data_byte e.code)) page_037 ≡ true
unfolding page_037
page_is_data = refl

-- a character's code is a data byte
code_is_data : (character code : ℕ) → ebcdic_of character ≡ Some code → is_no_data_byte code ≡ false
code_is_data x code h = not-true _ (code_passes (λ b. not (is_no_data_byte b)) page_is_data x code h)

with_code : (code : Option ℕ) (rest : List ℕ) → ((c : ℕ) → code ≡ Some c → is_no_data_byte c ≡ false) → are_data rest ≡ true → are_data (cons_option code rest) ≡ true
with_code None rest h e = e
with_code (Some c) rest h e = rw (h c refl) e

codes_are_data : (line : List ℕ) → are_data (filter_map ebcdic_of line) ≡ true
codes_are_data [] = refl
codes_are_data (x ∷ xs) = with_code (ebcdic_of x) (filter_map ebcdic_of xs) (code_is_data x) (codes_are_data xs)

at_most_one : (code : Option ℕ) (rest : List ℕ) → length (cons_option code rest) ≤ length rest + 1
at_most_one None rest = omega arith
at_most_one (Some c) rest = omega arith

length-codes : (line : List ℕ) → length (filter_map ebcdic_of line) ≤ length line
length-codes [] = omega arith
length-codes (x ∷ xs) = omega (arith, at_most_one (ebcdic_of x) (filter_map ebcdic_of xs), length-codes xs)

both : (a b : Bool) → (not a && b) ≡ true → (a ≡ false) × (b ≡ true)
both true b h = cc
both false b h = (refl, h)

data_from_front : (bytes : List ℕ) → are_data bytes ≡ true → prefix_len (λ b. not (is_no_data_byte b)) bytes ≡ length bytes
data_from_front [] h = refl
data_from_front (b ∷ bs) h = let fits = both (is_no_data_byte b) (are_data bs) h in rw fits.0 (omega (arith, data_from_front bs fits.1))

no_bad_byte : (bytes : List ℕ) → are_data bytes ≡ true → bad_byte Normal bytes ≡ None
no_bad_byte bytes h = rw (data_from_front bytes h, le-ltb (length bytes) (length bytes) (omega arith)) refl

-- the line is no longer than a card
length-line : (number : ℕ) (line : List ℕ) → line_fault number line ≡ None → length line ≤ 80
length-line number line h =
    ⊎_elim (λ (l : 80 < length line). let long = rw (lt-ltb 80 (length line) l) at h in cc) (λ (l : length line ≤ 80). l) (cases_lt 80 (length line))

length-filled : (mode : Mode) (codes : List ℕ) → length codes ≤ 80 → length (filled mode codes) ≤ 80
length-filled Normal codes h = h
length-filled Transparent codes h = simp (length-append, length-replicate) (omega arith)

fills_card : (codes : List ℕ) → length codes ≤ 80 → length (filled Transparent codes) ≡ 80
fills_card codes h = simp (length-append, length-replicate) (omega arith)

punch_card : (n : ℕ) → n ≤ 80 → card_length Punch Normal n ≡ None
punch_card n h = let fits : nat_le n 80 ≡ true = grind (arith, nat_tests) in ap (λ b. cond b None (Some (CardLength n))) fits

-- a sound line's card is sent
card_sent : (select : Select) (mode : Mode) (line : List ℕ) → length line ≤ 80 → pack_fault (deck_select select mode) mode (card_of mode line) ≡ None
unfolding pack_fault
card_sent select Transparent line h = rw (fills_card (filter_map ebcdic_of line) (omega (arith, length-codes line))) refl
card_sent Unset Normal line h = rw (no_bad_byte (filter_map ebcdic_of line) (codes_are_data line)) refl
card_sent Printer Normal line h = rw (no_bad_byte (filter_map ebcdic_of line) (codes_are_data line)) refl
card_sent Punch Normal line h =
    let short : length (filter_map ebcdic_of line) ≤ 80 = omega (arith, length-codes line) in
    rw (no_bad_byte (filter_map ebcdic_of line) (codes_are_data line), punch_card (length (filter_map ebcdic_of line)) short) refl

none_or : (first rest : Option DeckFault) → option_or first rest ≡ None → (first ≡ None) × (rest ≡ None)
none_or None rest h = (refl, h)
none_or (Some fault) rest h = cc

module _ (select : Select) (mode : Mode) where
  room : (number : ℕ) (deck : List (List ℕ)) → first_fault number deck ≡ None → AllByRecursion (λ r. length r.bytes.items ≤ 144) (map (card_of mode) deck)
  room number [] h = tt
  room number (line ∷ rest) h =
      let sound = none_or (line_fault number line) (first_fault (number + 1) rest) h in
      (omega (arith, length-filled mode (filter_map ebcdic_of line) (omega (arith, length-codes line, length-line number line sound.0))), room (number + 1) rest sound.1)

  sent : (number : ℕ) (deck : List (List ℕ)) → first_fault number deck ≡ None → AllByRecursion (λ r. pack_fault (deck_select select mode) mode r ≡ None) (map (card_of mode) deck)
  sent number [] h = tt
  sent number (line ∷ rest) h =
      let sound = none_or (line_fault number line) (first_fault (number + 1) rest) h in
      (card_sent select mode line (length-line number line sound.0), sent (number + 1) rest sound.1)

punched : (select : Select) (mode : Mode) → mode ≡ Transparent → deck_select select mode ≡ Punch
punched select Normal h = cc
punched select Transparent h = refl

pub deck_job_fits : (deck : List ℕ) (select : Select) (mode : Mode) → deck_fault deck ≡ None
    → RecordsFit (job_of select mode deck).select (job_of select mode deck).mode (job_of select mode deck).records
deck_job_fits deck select mode h = record {
  room = room select mode 1 (lines deck) h;
  sent = sent select mode 1 (lines deck) h;
  punched = punched select mode;
}
