-- Beginnings of texts that read: a beginning reads too, unless it ends in an IGS, whose count then stands after it.
use Rattle.std.proofs.Common.{◌≡◌, ◌≢◌, ◌⊎◌, inl, inr, ℕ, ◌+◌, ◌-◌, ◌<◌, ◌≤◌, Bool, true, false, cond, eqb, List, [], ◌∷◌, ◌++◌, length, replicate, get_or, Option, Some, None, refl, ap, sym, ◌∙◌, subst, arith, ⊎_elim, is_some}
use Rattle.std.specs.Option.{option_map, option_and_then, option_map_or}
use Rattle.std.proofs.lemmas.List.{append_assoc, length-append, length-replicate}
use Rattle.std.proofs.lemmas.Bool.{cases_eq, cases_lt, le-leb, lt-leb, false≢true}
use Rattle.bsc_codes.specs.Bytes.{BLANK, IGS, IRS, ESC}
use Rattle.rje_text.specs.declared.mode.Mode.{Mode}
use Rattle.rje_text.specs.declared.select.Select.{Select}
use Rattle.rje_text.specs.declared.action.Action.{Action}
use Rattle.rje_text.specs.declared.action.Action.TheVariants.{Plain}
use Rattle.rje_text.specs.declared.record.Record.{Record}
use Rattle.rje_text.specs.Action.{action_of}
use Rattle.rje_text.specs.Reading.{is_count, expanded, record_with, record_of, records_in, selection_in, selected, normal_reading}
use Rattle.rje_text.specs.TextFault.{reads_normal}
use Rattle.rje_text.proofs.Expanding.{not_equal, expanded-igs, expanded-byte}
use Rattle.rje_text.proofs.Fronts.{LacksIrs, one_first, records_in-more, records_in-piece, records_in-nil}
use Rattle.std.proofs.lemmas.Option.{none-some}
use Rattle.bsc_codes.proofs.Tables.{mapped}

-- the last byte, or 0 if there is no byte
abbrev pub last_of : List ℕ → ℕ
last_of [] = 0
last_of (x ∷ []) = x
last_of (x ∷ y ∷ ys) = last_of (y ∷ ys)

last_igs : (x : ℕ) (xs : List ℕ) → last_of xs ≡ IGS → last_of (x ∷ xs) ≡ IGS
last_igs x [] e = absurd (omega (arith, e))
last_igs x (y ∷ ys) e = e

last_other : (x : ℕ) (xs : List ℕ) → x ≢ IGS → last_of xs ≢ IGS → last_of (x ∷ xs) ≢ IGS
last_other x [] h n = h
last_other x (y ∷ ys) h n = n

pub last-append : (xs : List ℕ) (y : ℕ) (ys : List ℕ) → last_of (xs ++ y ∷ ys) ≡ last_of (y ∷ ys)
last-append [] y ys = refl
last-append (x ∷ []) y ys = refl
last-append (x ∷ z ∷ zs) y ys = last-append (z ∷ zs) y ys

pub count_other : (c : ℕ) → is_count c ≡ true → c ≢ IGS
count_other c t e = false≢true (subst (λ d. is_count d ≡ true) e t)

-- u ends in an IGS, and v begins with its count
abbrev pub IsOpen : List ℕ → List ℕ → Type 0
IsOpen u v = (last_of u ≡ IGS) × (is_count (get_or v 0 0) ≡ true)

-- u reads, and doesn't end in an IGS
abbrev pub EndsWell : (List ℕ → Bool) → List ℕ → Type 0
EndsWell reads u = (reads u ≡ true) × (last_of u ≢ IGS)

-- where a text reads, its beginning does too, or the cut parts an IGS from its count
abbrev pub CutsWell : (List ℕ → Bool) → Type 0
CutsWell reads = (u v : List ℕ) → reads (u ++ v) ≡ true → EndsWell reads u ⊎ IsOpen u v

-- u stands for n bytes of data at most
record ExpandsWithin (u : List ℕ) (n : ℕ) : Type 0 where
  data_of : List ℕ
  is : expanded u ≡ Some data_of
  within : length data_of ≤ n
  ends : last_of u ≢ IGS

within_byte : (x : ℕ) (u : List ℕ) (n : ℕ) → x ≢ IGS → ExpandsWithin u n → ExpandsWithin (x ∷ u) (n + 1)
within_byte x u n h w =
    record { data_of = x ∷ w.data_of; is = expanded-byte x u h ∙ ap (option_map (λ ys. x ∷ ys)) w.is; within = omega (arith, w.within); ends = last_other x u h w.ends }

within_count : (c : ℕ) (u : List ℕ) (n : ℕ) → is_count c ≡ true → ExpandsWithin u n → ExpandsWithin (IGS ∷ c ∷ u) ((c - BLANK) + n)
within_count c u n h w = record {
  data_of = replicate (c - BLANK) BLANK ++ w.data_of;
  is = expanded-igs c u h ∙ ap (option_map (λ ys. replicate (c - BLANK) BLANK ++ ys)) w.is;
  within = omega (arith, w.within, length-append (replicate (c - BLANK) BLANK) w.data_of, length-replicate (c - BLANK) BLANK);
  ends = last_other c u (count_other c h) w.ends;
}

-- what a text that begins with a byte or with an IGS stands for
byte_parts : (x : ℕ) (xs ys : List ℕ) → x ≢ IGS → expanded (x ∷ xs) ≡ Some ys → (zs : List ℕ) × (expanded xs ≡ Some zs) × (length ys ≡ length zs + 1)
byte_parts x xs ys h e =
    let p = mapped (λ zs. x ∷ zs) (expanded xs) ys (sym (expanded-byte x xs h) ∙ e) in
    (p.0, p.1, omega (arith, ap length p.2))

no_count : (c : ℕ) (xs : List ℕ) → is_count c ≡ false → expanded (IGS ∷ c ∷ xs) ≡ None
no_count c xs h = rw h refl

count_parts : (c : ℕ) (xs ys : List ℕ) → expanded (IGS ∷ c ∷ xs) ≡ Some ys → (is_count c ≡ true) × ((zs : List ℕ) × (expanded xs ≡ Some zs) × (length ys ≡ (c - BLANK) + length zs))
count_parts c xs ys e = by (is_count c) refl
  where
    by : (b : Bool) → is_count c ≡ b → (is_count c ≡ true) × ((zs : List ℕ) × (expanded xs ≡ Some zs) × (length ys ≡ (c - BLANK) + length zs))
    by true t =
        let p = mapped (λ zs. replicate (c - BLANK) BLANK ++ zs) (expanded xs) ys (sym (expanded-igs c xs t) ∙ e) in
        (t, (p.0, p.1, omega (arith, ap length p.2, length-append (replicate (c - BLANK) BLANK) p.0, length-replicate (c - BLANK) BLANK)))
    by false t = absurd (none-some ys (sym (no_count c xs t) ∙ e))

wider : (u : List ℕ) (m n : ℕ) → m ≤ n → ExpandsWithin u m → ExpandsWithin u n
wider u m n l w = record { data_of = w.data_of; is = w.is; within = omega (arith, w.within); ends = w.ends }

byte_step : (x : ℕ) (u v ys zs : List ℕ) → x ≢ IGS → length ys ≡ length zs + 1 → ExpandsWithin u (length zs) ⊎ IsOpen u v → ExpandsWithin (x ∷ u) (length ys) ⊎ IsOpen (x ∷ u) v
byte_step x u v ys zs h l (inl w) = inl (wider (x ∷ u) (length zs + 1) (length ys) (omega arith) (within_byte x u (length zs) h w))
byte_step x u v ys zs h l (inr o) = inr (last_igs x u o.0, o.1)

count_step : (c : ℕ) (u v ys zs : List ℕ) → is_count c ≡ true → length ys ≡ (c - BLANK) + length zs → ExpandsWithin u (length zs) ⊎ IsOpen u v
    → ExpandsWithin (IGS ∷ c ∷ u) (length ys) ⊎ IsOpen (IGS ∷ c ∷ u) v
count_step c u v ys zs h l (inl w) = inl (wider (IGS ∷ c ∷ u) ((c - BLANK) + length zs) (length ys) (omega arith) (within_count c u (length zs) h w))
count_step c u v ys zs h l (inr o) = inr (last_igs c u o.0, o.1)

igs_end : (v ys : List ℕ) → expanded (IGS ∷ v) ≡ Some ys → IsOpen (IGS ∷ []) v
igs_end [] ys e = absurd (none-some ys e)
igs_end (c ∷ v) ys e = (refl, (count_parts c v ys e).0)

expanded_front : (u v ys : List ℕ) → expanded (u ++ v) ≡ Some ys → ExpandsWithin u (length ys) ⊎ IsOpen u v
expanded_front [] v ys e = inl (record { data_of = []; is = refl; within = omega arith; ends = λ q. absurd (omega (arith, q)) })
expanded_front (x ∷ []) v ys e =
    ⊎_elim
    (λ (q : x ≡ IGS). inr (subst (λ z. IsOpen (z ∷ []) v) (sym q) (igs_end v ys (subst (λ z. expanded (z ∷ v) ≡ Some ys) q e))))
    (λ (n : x ≢ IGS). let p = byte_parts x v ys n e in byte_step x [] v ys p.0 n p.2 (expanded_front [] v p.0 p.1))
    (cases_eq x IGS)
expanded_front (x ∷ c ∷ u) v ys e =
    ⊎_elim
    (λ (q : x ≡ IGS).
    let p = count_parts c (u ++ v) ys (subst (λ z. expanded (z ∷ c ∷ u ++ v) ≡ Some ys) q e) in
    subst (λ z. ExpandsWithin (z ∷ c ∷ u) (length ys) ⊎ IsOpen (z ∷ c ∷ u) v) (sym q) (count_step c u v ys p.1.0 p.0 p.1.2 (expanded_front u v p.1.0 p.1.1)))
    (λ (n : x ≢ IGS). let p = byte_parts x (c ∷ u ++ v) ys n e in byte_step x (c ∷ u) v ys p.0 n p.2 (expanded_front (c ∷ u) v p.0 p.1))
    (cases_eq x IGS)

abbrev reads_record : List ℕ → Bool
reads_record t = is_some (record_of t)

abbrev reads_as : Action → List ℕ → Bool
reads_as a t = is_some (option_and_then (record_with a) (expanded t))

room_from : (a : Action) (ys : List ℕ) → is_some (record_with a ys) ≡ true → length ys ≤ 144
room_from a ys e =
    ⊎_elim (λ (l : 144 < length ys). absurd (false≢true (rw (lt-leb (length ys) 144 l) at e))) (λ (l : length ys ≤ 144). l) (cases_lt 144 (length ys))

as_parts : (a : Action) (o : Option (List ℕ)) → is_some (option_and_then (record_with a) o) ≡ true → (ys : List ℕ) × (o ≡ Some ys) × (length ys ≤ 144)
as_parts a None e = absurd (false≢true e)
as_parts a (Some ys) e = (ys, refl, room_from a ys e)

as_from : (a : Action) (o : Option (List ℕ)) (ys : List ℕ) → o ≡ Some ys → length ys ≤ 144 → is_some (option_and_then (record_with a) o) ≡ true
as_from a o ys e l = rw (e, le-leb (length ys) 144 l) refl

as_front : (a : Action) → CutsWell (reads_as a)
as_front a u v e = from (as_parts a (expanded (u ++ v)) e)
  where
    from : ((ys : List ℕ) × (expanded (u ++ v) ≡ Some ys) × (length ys ≤ 144)) → EndsWell (reads_as a) u ⊎ IsOpen u v
    from p =
        ⊎_elim
        (λ (w : ExpandsWithin u (length p.0)). inl (as_from a (expanded u) w.data_of w.is (omega (arith, w.within, p.2)), w.ends))
        (λ (o : IsOpen u v). inr o)
        (expanded_front u v p.0 p.1)

-- the action of these two bytes, if they are an ESC and a known code
abbrev head_action : ℕ → ℕ → Option Action
head_action x c = cond (eqb x ESC) (action_of c) None

with_head : (x c : ℕ) (t : List ℕ) (o : Option Action) → head_action x c ≡ o → reads_record (x ∷ c ∷ t) ≡ option_map_or (λ a. reads_as a t) o (reads_as Plain (x ∷ c ∷ t))
unfolding record_of
with_head x c t None h = rw h refl
with_head x c t (Some a) h = rw h refl

one_byte : (x : ℕ) → reads_record (x ∷ []) ≡ reads_as Plain (x ∷ [])
unfolding record_of
one_byte x = refl

head_is : (x c : ℕ) (a : Action) → head_action x c ≡ Some a → (x ≡ ESC) × (action_of c ≡ Some a)
head_is x c a h =
    ⊎_elim
    (λ (e : x ≡ ESC). (e, subst (λ z. head_action z c ≡ Some a) e h))
    (λ (n : x ≢ ESC). absurd (none-some a (rw (not_equal x ESC n) at h)))
    (cases_eq x ESC)

igs_acts_not : action_of IGS ≡ None
unfolding action_of
igs_acts_not = refl

code_other : (c : ℕ) (a : Action) → action_of c ≡ Some a → c ≢ IGS
code_other c a h e = none-some a (sym igs_acts_not ∙ subst (λ z. action_of z ≡ Some a) e h)

esc_reads : reads_record (ESC ∷ []) ≡ true
unfolding record_of
esc_reads = refl

nil_reads : reads_record [] ≡ true
unfolding record_of
nil_reads = refl

one_front : (x : ℕ) (v : List ℕ) → reads_as Plain (x ∷ v) ≡ true → EndsWell reads_record (x ∷ []) ⊎ IsOpen (x ∷ []) v
one_front x v e = rw (one_byte x) (as_front Plain (x ∷ []) v e)

behind_head : (x c : ℕ) (u v : List ℕ) (o : Option Action) → head_action x c ≡ o → reads_record (x ∷ c ∷ u ++ v) ≡ true
    → EndsWell reads_record (x ∷ c ∷ u) ⊎ IsOpen (x ∷ c ∷ u) v
behind_head x c u v None h e = rw (with_head x c u None h) (as_front Plain (x ∷ c ∷ u) v (sym (with_head x c (u ++ v) None h) ∙ e))
behind_head x c u v (Some a) h e =
    ⊎_elim
    (λ (w : EndsWell (reads_as a) u). inl (with_head x c u (Some a) h ∙ w.0, last_other c u (code_other c a (head_is x c a h).1) w.1))
    (λ (o : IsOpen u v). inr (last_igs c u o.0, o.1))
    (as_front a u v (sym (with_head x c (u ++ v) (Some a) h) ∙ e))

first_of_two : (x c : ℕ) (v : List ℕ) (o : Option Action) → head_action x c ≡ o → reads_record (x ∷ c ∷ v) ≡ true
    → EndsWell reads_record (x ∷ []) ⊎ IsOpen (x ∷ []) (c ∷ v)
first_of_two x c v None h e = one_front x (c ∷ v) (sym (with_head x c v None h) ∙ e)
first_of_two x c v (Some a) h e =
    subst (λ z. EndsWell reads_record (z ∷ []) ⊎ IsOpen (z ∷ []) (c ∷ v)) (sym (head_is x c a h).0) (inl (esc_reads, λ q. absurd (omega (arith, q))))

record_front : CutsWell reads_record
record_front [] v e = inl (nil_reads, λ q. absurd (omega (arith, q)))
record_front (x ∷ []) [] e = one_front x [] (sym (one_byte x) ∙ e)
record_front (x ∷ []) (c ∷ v) e = first_of_two x c v (head_action x c) refl e
record_front (x ∷ c ∷ u) v e = behind_head x c u v (head_action x c) refl e

LacksIrs-append : (xs ys : List ℕ) → LacksIrs xs → LacksIrs ys → LacksIrs (xs ++ ys)
LacksIrs-append [] ys h g = g
LacksIrs-append (x ∷ xs) ys h g = (h.0, LacksIrs-append xs ys h.1 g)

-- the text, cut at its IRSs
data Pieces : List ℕ → Type 0 where
  last : (u : List ℕ) → LacksIrs u → Pieces u
  more : (p rest : List ℕ) → LacksIrs p → Pieces rest → Pieces (p ++ IRS ∷ rest)

one_byte_more : {u : List ℕ} (x : ℕ) → x ≢ IRS → Pieces u → Pieces (x ∷ u)
one_byte_more x h (last u n) = last (x ∷ u) (h, n)
one_byte_more x h (more p rest n ps) = more (x ∷ p) rest (h, n) ps

pieces : (u : List ℕ) → Pieces u
pieces [] = last [] tt
pieces (x ∷ u) =
    ⊎_elim (λ (e : x ≡ IRS). subst (λ z. Pieces (z ∷ u)) (sym e) (more [] u tt (pieces u))) (λ (n : x ≢ IRS). one_byte_more x n (pieces u)) (cases_eq x IRS)

abbrev reads_records : List ℕ → Bool
reads_records t = is_some (records_in t)

both_parts : (o : Option Record) (os : Option (List Record)) → is_some (one_first o os) ≡ true → (is_some o ≡ true) × (is_some os ≡ true)
both_parts None os e = absurd (false≢true e)
both_parts (Some r) None e = absurd (false≢true e)
both_parts (Some r) (Some rs) e = (refl, refl)

both_from : (o : Option Record) (os : Option (List Record)) → is_some o ≡ true → is_some os ≡ true → is_some (one_first o os) ≡ true
both_from None os e d = absurd (false≢true e)
both_from (Some r) None e d = absurd (false≢true d)
both_from (Some r) (Some rs) e d = refl

piece_parts : (p t : List ℕ) → LacksIrs p → reads_records (p ++ IRS ∷ t) ≡ true → (reads_record p ≡ true) × (reads_records t ≡ true)
piece_parts p t h e = both_parts (record_of p) (records_in t) (sym (ap is_some (records_in-more p t h)) ∙ e)

piece_from : (p t : List ℕ) → LacksIrs p → reads_record p ≡ true → reads_records t ≡ true → reads_records (p ++ IRS ∷ t) ≡ true
piece_from p t h e d = ap is_some (records_in-more p t h) ∙ both_from (record_of p) (records_in t) e d

one_record : (o : Option Record) → is_some (one_first o (Some [])) ≡ is_some o
one_record None = refl
one_record (Some r) = refl

end_reads : (u : List ℕ) → LacksIrs u → reads_records u ≡ reads_record u
end_reads [] h = ap is_some records_in-nil ∙ sym nil_reads
end_reads (x ∷ xs) h = ap is_some (records_in-piece (x ∷ xs) (omega arith) h) ∙ one_record (record_of (x ∷ xs))

counts_first : (p : List ℕ) (y : ℕ) (t : List ℕ) → is_count (get_or p 0 0) ≡ true → is_count (get_or (p ++ y ∷ t) 0 0) ≡ true
counts_first [] y t e = absurd (false≢true e)
counts_first (x ∷ p) y t e = e

end_front : {v : List ℕ} (u : List ℕ) → LacksIrs u → Pieces v → reads_records (u ++ v) ≡ true → EndsWell reads_records u ⊎ IsOpen u v
end_front u n (last v m) e = rw (end_reads u n) (record_front u v (sym (end_reads (u ++ v) (LacksIrs-append u v n m)) ∙ e))
end_front u n (more p t m ps) e =
    ⊎_elim
    (λ (w : EndsWell reads_record u). inl (end_reads u n ∙ w.0, w.1))
    (λ (o : IsOpen u p). inr (o.0, counts_first p IRS t o.1))
    (record_front u p (piece_parts (u ++ p) t (LacksIrs-append u p n m) (rw append_assoc e)).0)

pieces_front : {u : List ℕ} → Pieces u → (v : List ℕ) → reads_records (u ++ v) ≡ true → EndsWell reads_records u ⊎ IsOpen u v
pieces_front (last u n) v e = end_front u n (pieces v) e
pieces_front (more p t n ps) v e =
    let parts = piece_parts p (t ++ v) n (rw append_assoc at e) in
    ⊎_elim
    (λ (w : EndsWell reads_records t). inl (piece_from p t n parts.0 w.0, subst (λ k. k ≢ IGS) (sym (last-append p IRS t)) (last_other IRS t (λ q. absurd (omega (arith, q))) w.1)))
    (λ (o : IsOpen t v). inr (last-append p IRS t ∙ last_igs IRS t o.0, o.1))
    (pieces_front ps v parts.1)

records_front : CutsWell reads_records
records_front u v e = pieces_front (pieces u) v e

pub is_some-map : {X Y : Type 0} (f : X → Y) (o : Option X) → is_some (option_map f o) ≡ is_some o
is_some-map f None = refl
is_some-map f (Some x) = refl

-- the text after the selection is read
selected_reads : (o : Option Select) (x : ℕ) (t : List ℕ) → is_some (selected o (x ∷ t)) ≡ option_map_or (λ s. reads_records t) o (reads_records (x ∷ t))
selected_reads None x t = is_some-map _ (records_in (x ∷ t))
selected_reads (Some s) x t = is_some-map _ (records_in t)

selected_front : (o : Option Select) (x : ℕ) (u v : List ℕ) → (option_map_or (λ s. true) o false ≡ true → x ≢ IGS) → is_some (selected o (x ∷ u ++ v)) ≡ true
    → EndsWell (λ t. is_some (selected o t)) (x ∷ u) ⊎ IsOpen (x ∷ u) v
selected_front None x u v h e = rw (selected_reads None x u) (records_front (x ∷ u) v (sym (selected_reads None x (u ++ v)) ∙ e))
selected_front (Some s) x u v h e =
    ⊎_elim
    (λ (w : EndsWell reads_records u). inl (selected_reads (Some s) x u ∙ w.0, last_other x u (h refl) w.1))
    (λ (o : IsOpen u v). inr (last_igs x u o.0, o.1))
    (records_front u v (sym (selected_reads (Some s) x (u ++ v)) ∙ e))

igs_selects_not : (so_far : Option Mode) (x : ℕ) (t : List ℕ) → option_map_or (λ s. true) (selection_in so_far (x ∷ t)) false ≡ true → x ≢ IGS
igs_selects_not None x t e q = false≢true (subst (λ z. option_map_or (λ s. true) (selection_in None (z ∷ t)) false ≡ true) q e)
igs_selects_not (Some mode) x t e q = false≢true e

nothing_reads : (so_far : Option Mode) → reads_normal so_far [] ≡ true
unfolding normal_reading records_in
nothing_reads None = refl
nothing_reads (Some mode) = refl

same_selection : (so_far : Option Mode) (x : ℕ) (t w : List ℕ) → selection_in so_far (x ∷ t) ≡ selection_in so_far (x ∷ w)
same_selection None x t w = refl
same_selection (Some mode) x t w = refl

pub normal_front : (so_far : Option Mode) → CutsWell (reads_normal so_far)
unfolding normal_reading
normal_front so_far [] v e = inl (nothing_reads so_far, λ q. absurd (omega (arith, q)))
normal_front so_far (x ∷ u) v e =
    selected_front (selection_in so_far (x ∷ u)) x u v (igs_selects_not so_far x u)
    (ap (λ o. is_some (selected o (x ∷ u ++ v))) (same_selection so_far x u (u ++ v)) ∙ e)
