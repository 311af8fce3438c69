-- The records of a text that is read from the front, record by record.
use Rattle.std.proofs.Common.{◌≡◌, ◌≢◌, ℕ, zero, suc, ◌+◌, ◌-◌, ◌<◌, ◌≤◌, true, List, [], ◌∷◌, ◌++◌, length, take, drop, get_or, Option, Some, None, refl, ap, sym, ◌∙◌, subst, arith, IsSome, is_some, ⊎_elim}
use Rattle.std.proofs.lemmas.Bool.{cases_lt, cases_eq, false≢true}
use Rattle.std.specs.Option.{option_map, option_and_then}
use Rattle.std.proofs.lemmas.List.{append_assoc, append-nil, take_more, get_or-take, get_or-drop, take_all, drop_all, length-take-le, length-drop, take-append-drop, take-take, drop-take, drop-drop}
use Rattle.bsc_codes.specs.Bytes.{IRS}
use Rattle.rje_text.specs.declared.record.Record.{Record}
use Rattle.rje_text.specs.Reading.{is_count, record_of, record_texts, onto_first, records_in}
use Rattle.rje_text.specs.Inside.RecordText.{reads_record, reads_records}
use Rattle.rje_text.specs.TextFault.{HasNoCount}
use Rattle.rje_text.proofs.Expanding.{not_equal, no_count_past, no_count_at}
use Rattle.rje_text.proofs.Lifting.{IsPart}
use Rattle.std.proofs.lemmas.Option.{none-some}

-- no byte of the text is an IRS
abbrev pub LacksIrs : List ℕ → Type 0
LacksIrs [] = Unit {0}
LacksIrs (x ∷ xs) = (x ≢ IRS) × LacksIrs xs

pub LacksIrs-take : (n : ℕ) (xs : List ℕ) → ((k : ℕ) → k < n → get_or xs k 0 ≢ IRS) → LacksIrs (take n xs)
LacksIrs-take zero xs h = tt
LacksIrs-take (suc n) [] h = tt
LacksIrs-take (suc n) (x ∷ xs) h = (h 0 (omega arith), LacksIrs-take n xs (λ k l. h (suc k) (omega arith)))

pub LacksIrs-part : (k : ℕ) (xs : List ℕ) → LacksIrs xs → LacksIrs (take k xs)
LacksIrs-part zero xs h = tt
LacksIrs-part (suc k) [] h = tt
LacksIrs-part (suc k) (x ∷ xs) h = (h.0, LacksIrs-part k xs h.1)

record_texts-more : (piece ys : List ℕ) → LacksIrs piece → record_texts (piece ++ IRS ∷ ys) ≡ piece ∷ record_texts ys
record_texts-more [] ys h = refl
record_texts-more (x ∷ xs) ys h = rw (not_equal x IRS h.0) (ap (onto_first x) (record_texts-more xs ys h.1))

record_texts-last : (x : ℕ) (xs : List ℕ) → LacksIrs (x ∷ xs) → record_texts (x ∷ xs) ≡ (x ∷ xs) ∷ []
record_texts-last x [] h = rw (not_equal x IRS h.0) refl
record_texts-last x (y ∷ ys) h = rw (not_equal x IRS h.0) (ap (onto_first x) (record_texts-last y ys h.1))

-- the record in front of others
abbrev pub one_first : Option Record → Option (List Record) → Option (List Record)
one_first o rest = option_and_then (λ r. option_map (λ rs. r ∷ rs) rest) o

pub records_in-more : (piece ys : List ℕ) → LacksIrs piece → records_in (piece ++ IRS ∷ ys) ≡ one_first (record_of piece) (records_in ys)
unfolding records_in
records_in-more piece ys h = rw (record_texts-more piece ys h) refl

records_in-last : (x : ℕ) (xs : List ℕ) → LacksIrs (x ∷ xs) → records_in (x ∷ xs) ≡ one_first (record_of (x ∷ xs)) (Some [])
unfolding records_in
records_in-last x xs h = rw (record_texts-last x xs h) refl

pub records_in-piece : (piece : List ℕ) → 0 < length piece → LacksIrs piece → records_in piece ≡ one_first (record_of piece) (Some [])
records_in-piece [] l h = absurd (omega (arith, l))
records_in-piece (x ∷ xs) l h = records_in-last x xs h

pub records_in-nil : records_in [] ≡ Some []
unfolding records_in
records_in-nil = refl

-- whatever follows, the records of the front come first
abbrev pub IsFront : List ℕ → List Record → Type 0
IsFront front rs = (ys : List ℕ) → records_in (front ++ ys) ≡ option_map (λ zs. rs ++ zs) (records_in ys)

two_maps : (rs : List Record) (r : Record) (o : Option (List Record)) → option_map (λ zs. rs ++ zs) (option_map (λ zs. r ∷ zs) o) ≡ option_map (λ zs. (rs ++ r ∷ []) ++ zs) o
two_maps rs r None = refl
two_maps rs r (Some zs) = ap Some (sym (append_assoc rs (r ∷ []) zs))

pub front_more : (front piece : List ℕ) (rs : List Record) (r : Record) → IsFront front rs → LacksIrs piece → record_of piece ≡ Some r → IsFront (front ++ (piece ++ IRS ∷ [])) (rs ++ r ∷ [])
front_more front piece rs r f h e ys =
    let regroup : (front ++ (piece ++ IRS ∷ [])) ++ ys ≡ front ++ (piece ++ IRS ∷ ys) = simp append_assoc in
    let more : records_in (piece ++ IRS ∷ ys) ≡ option_map (λ zs. r ∷ zs) (records_in ys) = records_in-more piece ys h ∙ ap (λ o. one_first o (records_in ys)) e in
    ap records_in regroup ∙ f (piece ++ IRS ∷ ys) ∙ ap (option_map (λ zs. rs ++ zs)) more ∙ two_maps rs r (records_in ys)

pub front_all : (front : List ℕ) (rs : List Record) → IsFront front rs → records_in front ≡ Some rs
front_all front rs f =
    ap records_in (sym (append-nil front)) ∙ f [] ∙ ap (option_map (λ zs. rs ++ zs)) records_in-nil ∙ ap Some (append-nil rs)

record_of-nil : is_some (record_of []) ≡ true
unfolding record_of
record_of-nil = refl

is_some-last : (rs : List Record) (o : Option Record) → is_some (option_map (λ zs. rs ++ zs) (one_first o (Some []))) ≡ is_some o
is_some-last rs None = refl
is_some-last rs (Some r) = refl

-- a text of whole records and a part of the next reads where that part does
front_reads : (front : List ℕ) (rs : List Record) (part : List ℕ) → IsFront front rs → LacksIrs part → reads_records (front ++ part) ≡ reads_record part
front_reads front rs [] f h = ap is_some (ap records_in (append-nil front) ∙ front_all front rs f) ∙ sym record_of-nil
front_reads front rs (x ∷ xs) f h = ap is_some (f (x ∷ xs) ∙ ap (option_map (λ zs. rs ++ zs)) (records_in-last x xs h)) ∙ is_some-last rs (record_of (x ∷ xs))

pub take_split : (n m : ℕ) (xs : List ℕ) → take (n + m) xs ≡ take n xs ++ take m (drop n xs)
take_split n m xs =
    sym (take-append-drop n (take (n + m) xs)) ∙ ap (λ ys. ys ++ drop n (take (n + m) xs)) (take-take n (n + m) xs (omega arith)) ∙ ap (λ ys. take n xs ++ ys) (drop-take n m xs)

pub some_of : {X : Type 0} (o : Option X) → IsSome o → (x : X) × (o ≡ Some x)
some_of None h = absurd (false≢true h)
some_of (Some x) h = (x, refl)

pub front_whole : (text : List ℕ) (start : ℕ) (rs : List Record) → length text ≤ start → IsFront (take start text) rs → records_in text ≡ Some rs
front_whole text start rs h f = ap records_in (sym (take_all start text h)) ∙ front_all (take start text) rs f

-- nothing is left after the end
pub none_left : (text : List ℕ) (start : ℕ) (more : List Record) → length text ≤ start → records_in (drop start text) ≡ Some more → more ≡ []
none_left text start more h e = same (sym e ∙ ap records_in (drop_all start text h) ∙ records_in-nil)
  where
    same : ◌≡◌ {A = Option (List Record)} (Some more) (Some []) → more ≡ []
    same q = cc

first_some : (o : Option Record) (rest : Option (List Record)) (more : List Record) → one_first o rest ≡ Some more → IsSome o
first_some None rest more h = absurd (none-some more h)
first_some (Some r) rest more h = refl

parts : (r : Record) (rest : Option (List Record)) (more : List Record) → one_first (Some r) rest ≡ Some more → (later : List Record) × (rest ≡ Some later) × (more ≡ r ∷ later)
parts r None more h = absurd (none-some more h)
parts r (Some later) more h = let e : more ≡ r ∷ later = cc in (later, refl, e)

-- below, start is where a record's text begins in the text, and end is how long it is
module _ (text rest piece : List ℕ) (start end : ℕ) (rest_is : rest ≡ drop start text) (piece_is : piece ≡ take end rest)
    (start_in : start < length text) (end_in : end ≤ length rest) (lacks : (k : ℕ) → k < end → get_or rest k 0 ≢ IRS)
    (irs : end < length rest → get_or rest end 0 ≡ IRS) where
  pub piece_lacks : LacksIrs piece
  piece_lacks = subst LacksIrs (sym piece_is) (LacksIrs-take end rest lacks)

  piece_length : length piece ≡ end
  piece_length = ap length piece_is ∙ length-take-le end rest end_in

  rest_length : length rest ≡ length text - start
  rest_length = ap length rest_is ∙ length-drop start text

  byte_of_rest : (k : ℕ) → get_or rest k 0 ≡ get_or text (start + k) 0
  byte_of_rest k = ap (λ (xs : List ℕ). get_or xs k 0) rest_is ∙ get_or-drop start text k 0

  -- the record's text is a part of the text
  pub piece_is_part : (rs : List Record) → IsFront (take start text) rs → IsPart reads_records reads_record text piece start
  piece_is_part rs f =
      let len = piece_length in
      let all = rest_length in
      record {
        within = omega arith;
        bytes = λ k h. let l : k < end = omega (arith, h) in ap (λ (xs : List ℕ). get_or xs k 0) piece_is ∙ get_or-take end rest k 0 l ∙ byte_of_rest k;
        reads = λ k h.
            let l : k ≤ end = omega (arith, h) in
            let same : take k piece ≡ take k (drop start text) = ap (take k) piece_is ∙ take-take k end rest l ∙ ap (take k) rest_is in
            ap reads_records (take_split start k text ∙ ap (λ ys. take start text ++ ys) (sym same)) ∙ front_reads (take start text) rs (take k piece) f (LacksIrs-part k piece piece_lacks);
        ends = subst (λ n. HasNoCount text (start + n)) (sym len)
            (⊎_elim
            (λ (l : end < length rest). no_count_at text (start + end) (omega arith) (ap is_count (sym (byte_of_rest end) ∙ irs l)))
            (λ (l : length rest ≤ end). no_count_past text (start + end) (omega arith))
            (cases_lt end (length rest)));
      }

  -- the text up to the next record
  next_is : end < length rest → take (start + (end + 1)) text ≡ take start text ++ (piece ++ IRS ∷ [])
  next_is l =
      let more : take (end + 1) rest ≡ piece ++ IRS ∷ [] = take_more rest end 0 l ∙ ap (λ b. take end rest ++ b ∷ []) (irs l) ∙ ap (λ ys. ys ++ IRS ∷ []) (sym piece_is) in
      take_split start (end + 1) text ∙ ap (λ ys. take start text ++ ys) (ap (take (end + 1)) (sym rest_is) ∙ more)

  -- the record's text, its IRS and what follows
  rest_splits : end < length rest → rest ≡ piece ++ IRS ∷ drop (start + (end + 1)) text
  rest_splits l =
      let behind : drop (end + 1) rest ≡ drop (start + (end + 1)) text = ap (drop (end + 1)) rest_is ∙ drop-drop (end + 1) start text ∙ ap (λ n. drop n text) (omega arith) in
      sym (take-append-drop (end + 1) rest) ∙ ap (λ ys. ys ++ drop (end + 1) rest) (take_more rest end 0 l ∙ ap (λ b. take end rest ++ b ∷ []) (irs l) ∙ ap (λ ys. ys ++ IRS ∷ []) (sym piece_is))
      ∙ append_assoc piece (IRS ∷ []) (drop (end + 1) rest) ∙ ap (λ ys. piece ++ IRS ∷ ys) behind

  pub checked_step : (rs : List Record) (r : Record) → IsFront (take start text) rs → end ≢ length rest → record_of piece ≡ Some r
      → (start + (end + 1) ≤ length text) × IsFront (take (start + (end + 1)) text) (rs ++ r ∷ [])
  checked_step rs r f more e =
      let all = rest_length in
      let l : end < length rest = omega arith in
      (omega arith, subst (λ ys. IsFront ys (rs ++ r ∷ [])) (sym (next_is l)) (front_more (take start text) piece rs r f piece_lacks e))

  pub checked_end : (rs : List Record) (r : Record) → IsFront (take start text) rs → end ≡ length rest → record_of piece ≡ Some r → records_in text ≡ Some (rs ++ r ∷ [])
  checked_end rs r f all e =
      let len = piece_length in
      let count = rest_length in
      let last : rest ≡ piece = sym (piece_is ∙ take_all end rest (omega arith)) in
      let whole : text ≡ take start text ++ piece = sym (take-append-drop start text) ∙ ap (λ ys. take start text ++ ys) (sym rest_is ∙ last) in
      ap records_in whole ∙ f piece ∙ ap (option_map (λ zs. rs ++ zs)) (records_in-piece piece (omega arith) piece_lacks ∙ ap (λ o. one_first o (Some [])) e)

  rest_parts : end ≢ length rest → records_in rest ≡ one_first (record_of piece) (records_in (drop (start + (end + 1)) text))
  rest_parts more = let l : end < length rest = omega arith in ap records_in (rest_splits l) ∙ records_in-more piece (drop (start + (end + 1)) text) piece_lacks

  rest_one : end ≡ length rest → records_in rest ≡ one_first (record_of piece) (Some [])
  rest_one all =
      let len = piece_length in
      let count = rest_length in
      ap records_in (sym (piece_is ∙ take_all end rest (omega arith))) ∙ records_in-piece piece (omega arith) piece_lacks

  -- the piece is a record where the rest reads
  pub piece_reads : (more : List Record) → records_in rest ≡ Some more → IsSome (record_of piece)
  piece_reads more h =
      ⊎_elim (λ (e : end ≡ length rest). first_some (record_of piece) (Some []) more (sym (rest_one e) ∙ h))
      (λ (n : end ≢ length rest). first_some (record_of piece) (records_in (drop (start + (end + 1)) text)) more (sym (rest_parts n) ∙ h))
      (cases_eq end (length rest))

  pub collected_step : (more : List Record) (r : Record) → records_in rest ≡ Some more → end ≢ length rest → record_of piece ≡ Some r
      → (start + (end + 1) ≤ length text) × (later : List Record) × (records_in (drop (start + (end + 1)) text) ≡ Some later) × (more ≡ r ∷ later)
  collected_step more r h n e =
      let all = rest_length in
      let (later, reads, is) = parts r (records_in (drop (start + (end + 1)) text)) more (sym (rest_parts n ∙ ap (λ o. one_first o (records_in (drop (start + (end + 1)) text))) e) ∙ h) in
      (omega arith, later, reads, is)

  pub collected_end : (more : List Record) (r : Record) → records_in rest ≡ Some more → end ≡ length rest → record_of piece ≡ Some r → more ≡ r ∷ []
  collected_end more r h all e = same (sym (rest_one all ∙ ap (λ o. one_first o (Some [])) e) ∙ h)
    where
      same : ◌≡◌ {A = Option (List Record)} (Some (r ∷ [])) (Some more) → more ≡ r ∷ []
      same q = cc
