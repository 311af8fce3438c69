-- What the texts of records stand for, byte by byte.
use Rattle.std.proofs.Common.{◌≡◌, ◌≢◌, ℕ, zero, suc, ◌+◌, ◌-◌, ◌<◌, ◌≤◌, Bool, true, false, eqb, List, [], ◌∷◌, ◌++◌, length, take, drop, replicate, get_or, Option, Some, None, refl, ap, sym, ◌∙◌, subst, arith, IsSome, is_some, cond, ap₂, ⊎_elim, inl, inr, ◌⊎◌}
use Rattle.std.specs.Option.{option_map, option_and_then}
use Rattle.std.proofs.lemmas.List.{append_assoc, length-append, append-nil, take_more, length-replicate, drop-append-le, length-take-le, take_all, drop_all, drop_more, get_or-drop, drop-drop, length-drop}
use Rattle.std.proofs.lemmas.Option.{slice_get-get_or, slice_get_past, none-some}
use Rattle.std.proofs.lemmas.Bool.{cases_lt, le-leb, lt-leb, false≢true}
use Rattle.std.proofs.lemmas.Bool.Decides.{nat_tests}
use Rattle.bsc_codes.specs.Bytes.{BLANK, IGS, ESC}
use Rattle.rje_text.specs.declared.action.Action.{Action}
use Rattle.rje_text.specs.declared.action.Action.TheVariants.{Plain}
use Rattle.rje_text.specs.Action.{action_of}
use Rattle.rje_text.specs.Reading.{is_count, expanded, record_with, action_in, record_of}
use Rattle.rje_text.specs.Inside.RecordText.{HasHead, reads_record}
use Rattle.rje_text.specs.TextFault.{width_at, HasNoCount, LacksCount, PassesLimit}

pub not_equal : (x y : ℕ) → x ≢ y → eqb x y ≡ false
not_equal x y e = grind (arith, nat_tests)

pub expanded-igs : (c : ℕ) (xs : List ℕ) → is_count c ≡ true → expanded (IGS ∷ c ∷ xs) ≡ option_map (λ ys. replicate (c - BLANK) BLANK ++ ys) (expanded xs)
expanded-igs c xs h = rw h refl

pub expanded-byte : (x : ℕ) (xs : List ℕ) → x ≢ IGS → expanded (x ∷ xs) ≡ option_map (λ ys. x ∷ ys) (expanded xs)
expanded-byte x [] h = rw (not_equal x IGS h) refl
expanded-byte x (c ∷ xs) h = rw (not_equal x IGS h) refl

-- these bytes stand for this data
pub data Stands : List ℕ → List ℕ → Type 0 where
  nothing : Stands [] []
  byte : {x : ℕ} {xs ys : List ℕ} → x ≢ IGS → Stands xs ys → Stands (x ∷ xs) (x ∷ ys)
  count : {c : ℕ} {xs ys : List ℕ} → is_count c ≡ true → Stands xs ys → Stands (IGS ∷ c ∷ xs) (replicate (c - BLANK) BLANK ++ ys)

pub expanded_is : {xs ys : List ℕ} → Stands xs ys → expanded xs ≡ Some ys
expanded_is nothing = refl
expanded_is (byte {x} {xs} h s) = expanded-byte x xs h ∙ ap (option_map (λ zs. x ∷ zs)) (expanded_is s)
expanded_is (count {c} {xs} h s) = expanded-igs c xs h ∙ ap (option_map (λ zs. replicate (c - BLANK) BLANK ++ zs)) (expanded_is s)

pub Stands-append : {xs ys us vs : List ℕ} → Stands xs ys → Stands us vs → Stands (xs ++ us) (ys ++ vs)
Stands-append nothing t = t
Stands-append (byte h s) t = byte h (Stands-append s t)
Stands-append {us} {vs} (count {c} {xs} {ys} h s) t =
    subst (λ zs. Stands (IGS ∷ c ∷ xs ++ us) zs) (sym (append_assoc (replicate (c - BLANK) BLANK) ys vs)) (count h (Stands-append s t))

one_count : (c : ℕ) → is_count c ≡ true → Stands (IGS ∷ c ∷ []) (replicate (c - BLANK) BLANK)
one_count c t = subst (λ zs. Stands (IGS ∷ c ∷ []) zs) (append-nil (replicate (c - BLANK) BLANK)) (count t nothing)

-- the data after the first n bytes
drop-take_more : (text : List ℕ) (n i : ℕ) → n ≤ i → i < length text → drop n (take (i + 1) text) ≡ drop n (take i text) ++ get_or text i 0 ∷ []
drop-take_more text n i m h =
    ap (drop n) (take_more text i 0 h) ∙ drop-append-le n (take i text) (get_or text i 0 ∷ []) (omega (arith, length-take-le i text (omega arith)))

pub stands_byte : (text ys : List ℕ) (n i : ℕ) → n ≤ i → i < length text → get_or text i 0 ≢ IGS → Stands (drop n (take i text)) ys
    → Stands (drop n (take (i + 1) text)) (ys ++ get_or text i 0 ∷ [])
stands_byte text ys n i m h e s = subst (λ xs. Stands xs (ys ++ get_or text i 0 ∷ [])) (sym (drop-take_more text n i m h)) (Stands-append s (byte e nothing))

-- what is known of the rest of a text after its first i bytes, of which the first IGS stands after n
module _ (text rest : List ℕ) (i n : ℕ) (is : rest ≡ drop i text) (before : (k : ℕ) → k < n → get_or rest k 0 ≢ IGS) where
  no_igs : (k : ℕ) → k < n → get_or (drop i text) k 0 ≢ IGS
  no_igs k l q = before k l (ap (λ (xs : List ℕ). get_or xs k 0) is ∙ q)

  pub no_igs_at : (k : ℕ) → k < n → get_or text (i + k) 0 ≢ IGS
  no_igs_at k l q = no_igs k l (get_or-drop i text k 0 ∙ q)

  rest_length : i ≤ length text → length text ≡ i + length rest
  rest_length h = omega (arith, h, ap (λ (xs : List ℕ). length xs) is, length-drop i text)

  pub igs_at : (n < length rest → get_or rest n 0 ≡ IGS) → i + n < length text → get_or text (i + n) 0 ≡ IGS
  igs_at at h =
      let inside : n < length rest = omega (arith, h, rest_length (omega (arith, h))) in
      sym (get_or-drop i text n 0) ∙ sym (ap (λ (xs : List ℕ). get_or xs n 0) is) ∙ at inside

-- so many bytes after the first i, of which none is an IGS
pub stands_bytes : (text ys : List ℕ) (n i m : ℕ) → n ≤ i → i + m ≤ length text → ((k : ℕ) → k < m → get_or (drop i text) k 0 ≢ IGS) → Stands (drop n (take i text)) ys
    → Stands (drop n (take (i + m) text)) (ys ++ take m (drop i text))
stands_bytes text ys n i zero l h e s =
    let same : i ≡ i + 0 = omega arith in
    subst (λ k. Stands (drop n (take k text)) (ys ++ [])) same (subst (λ zs. Stands (drop n (take i text)) zs) (sym (append-nil ys)) s)
stands_bytes text ys n i (suc m) l h e s =
    let before = stands_bytes text ys n i m l (omega (arith, h)) (λ k q. e k (omega (arith, q))) s in
    let one : m + 1 ≡ suc m = omega arith in
    let behind : i + m + 1 ≡ i + suc m = omega arith in
    let at : get_or (drop i text) m 0 ≡ get_or text (i + m) 0 = get_or-drop i text m 0 in
    let last : take (suc m) (drop i text) ≡ take m (drop i text) ++ get_or text (i + m) 0 ∷ [] =
    ap (λ k. take k (drop i text)) (sym one) ∙ take_more (drop i text) m 0 (omega (arith, h, length-drop i text)) ∙ ap (λ x. take m (drop i text) ++ x ∷ []) at in
    let next = stands_byte text (ys ++ take m (drop i text)) n (i + m) (omega (arith, l)) (omega (arith, h)) (λ q. e m (omega arith) (at ∙ q)) before in
    subst (λ k. Stands (drop n (take k text)) (ys ++ take (suc m) (drop i text))) behind
    (subst (λ zs. Stands (drop n (take (i + m + 1) text)) zs) (append_assoc ys (take m (drop i text)) (get_or text (i + m) 0 ∷ []) ∙ ap (λ zs. ys ++ zs) (sym last)) next)

-- the same of the bytes in front of the first IGS
pub stands_front : (text rest ys : List ℕ) (head i n m : ℕ) → head ≤ i → i ≤ length text → rest ≡ drop i text → n ≤ length rest
    → ((k : ℕ) → k < n → get_or rest k 0 ≢ IGS) → m ≤ n → Stands (drop head (take i text)) ys
    → (i + m ≤ length text) × (zs : List ℕ) × (length zs ≡ length ys + m) × Stands (drop head (take (i + m) text)) zs
stands_front text rest ys head i n m behind l is within before some s =
    let all = rest_length text rest i n is before l in
    let inside : i + m ≤ length text = omega (arith, all, within, some) in
    let none : (k : ℕ) → k < m → get_or (drop i text) k 0 ≢ IGS = λ k q. no_igs text rest i n is before k (omega (arith, q, some)) in (
      inside,
      ys ++ take m (drop i text),
      omega (arith, length-append ys (take m (drop i text)), length-take-le m (drop i text) (omega (arith, inside, length-drop i text))),
      stands_bytes text ys head i m behind inside none s,
    )

pub stands_count : (text ys : List ℕ) (n i : ℕ) → n ≤ i → i + 1 < length text → get_or text i 0 ≡ IGS → is_count (get_or text (i + 1) 0) ≡ true
    → Stands (drop n (take i text)) ys → Stands (drop n (take (i + 2) text)) (ys ++ replicate (get_or text (i + 1) 0 - BLANK) BLANK)
stands_count text ys n i m h e t s =
    let c = get_or text (i + 1) 0 in
    let two : drop n (take (i + 2) text) ≡ drop n (take i text) ++ IGS ∷ c ∷ [] =
    ap (λ k. drop n (take k text)) (omega arith) ∙ drop-take_more text n (i + 1) (omega arith) h ∙ ap (λ xs. xs ++ c ∷ []) (drop-take_more text n i m (omega arith))
    ∙ append_assoc (drop n (take i text)) (get_or text i 0 ∷ []) (c ∷ []) ∙ ap (λ b. drop n (take i text) ++ b ∷ c ∷ []) e in
    subst (λ xs. Stands xs (ys ++ replicate (c - BLANK) BLANK)) (sym two) (Stands-append s (one_count c t))

plain_of : (text : List ℕ) → action_in text ≡ None → record_of text ≡ option_and_then (record_with Plain) (expanded text)
unfolding record_of
plain_of text h = rw h refl

pub no_head : (text : List ℕ) → action_in text ≡ None → HasHead text 0 Plain
no_head text h = record { within = omega arith; reads = λ k l. plain_of (take k text) (shorter text k h) }
  where
    shorter : (text : List ℕ) (k : ℕ) → action_in text ≡ None → action_in (take k text) ≡ None
    shorter text zero h = refl
    shorter [] (suc k) h = refl
    shorter (x ∷ []) (suc zero) h = refl
    shorter (x ∷ []) (suc (suc k)) h = refl
    shorter (x ∷ c ∷ xs) (suc zero) h = refl
    shorter (x ∷ c ∷ xs) (suc (suc k)) h = h

acts_of : (code : ℕ) (action : Action) (xs : List ℕ) → action_of code ≡ Some action → record_of (ESC ∷ code ∷ xs) ≡ option_and_then (record_with action) (expanded xs)
unfolding record_of
acts_of code action xs h = rw h refl

pub escape_head : (code : ℕ) (xs : List ℕ) (action : Action) → action_of code ≡ Some action → HasHead (ESC ∷ code ∷ xs) 2 action
escape_head code xs action h = record { within = omega arith; reads = two }
  where
    two : (k : ℕ) → 2 ≤ k → record_of (take k (ESC ∷ code ∷ xs)) ≡ option_and_then (record_with action) (expanded (drop 2 (take k (ESC ∷ code ∷ xs))))
    two zero l = absurd (omega (arith, l))
    two (suc zero) l = absurd (omega (arith, l))
    two (suc (suc k)) l = acts_of code action (take k xs) h

pub no_escape : (text : List ℕ) → (length text < 2) ⊎ (get_or text 0 0 ≢ ESC) → HasHead text 0 Plain
no_escape text h = no_head text (none text h)
  where
    none : (text : List ℕ) → (length text < 2) ⊎ (get_or text 0 0 ≢ ESC) → action_in text ≡ None
    none [] h = refl
    none (x ∷ []) h = refl
    none (x ∷ c ∷ xs) (inl h) = absurd (omega (arith, h))
    none (x ∷ c ∷ xs) (inr h) = rw (not_equal x ESC h) refl

pub no_code : (text : List ℕ) → 2 ≤ length text → None ≡ action_of (get_or text 1 0) → HasHead text 0 Plain
no_code text l h = no_head text (none text l h)
  where
    either_none : (b : Bool) (o : Option Action) → None ≡ o → cond b o None ≡ None
    either_none true o h = sym h
    either_none false o h = refl

    none : (text : List ℕ) → 2 ≤ length text → None ≡ action_of (get_or text 1 0) → action_in text ≡ None
    none [] l h = refl
    none (x ∷ []) l h = refl
    none (x ∷ c ∷ xs) l h = either_none (eqb x ESC) (action_of c) h

pub code_at : (text : List ℕ) (action : Action) → 2 ≤ length text → get_or text 0 0 ≡ ESC → Some action ≡ action_of (get_or text 1 0) → HasHead text 2 action
code_at [] action l e h = absurd (omega (arith, l))
code_at (x ∷ []) action l e h = absurd (omega (arith, l))
code_at (x ∷ c ∷ xs) action l e h = subst (λ b. HasHead (b ∷ c ∷ xs) 2 action) (sym e) (escape_head c xs action (sym h))

pub record_with_room : (action : Action) (ys : List ℕ) → length ys ≤ 144 → record_with action ys ≡ Some (record { action = action; bytes = record { items = ys } })
record_with_room action ys h = rw (le-leb (length ys) 144 h) refl

no_record_with : (action : Action) (ys : List ℕ) → 144 < length ys → record_with action ys ≡ None
no_record_with action ys h = rw (lt-leb (length ys) 144 h) refl

-- below, the record's text has a head, and its first i bytes stand for ys after that
module _ (text ys : List ℕ) (n i : ℕ) (action : Action) (head : HasHead text n action) (behind : n ≤ i) where
  by_head : (k : ℕ) (zs : List ℕ) → n ≤ k → Stands (drop n (take k text)) zs → record_of (take k text) ≡ record_with action zs
  by_head k zs l s = head.reads k l ∙ ap (option_and_then (record_with action)) (expanded_is s)

  pub whole_record : length text ≤ i → length ys ≤ 144 → Stands (drop n (take i text)) ys → record_of text ≡ Some (record { action = action; bytes = record { items = ys } })
  whole_record all l s = ap record_of (sym (take_all i text all)) ∙ by_head i ys behind s ∙ record_with_room action ys l

  prefix_reads : length ys ≤ 144 → Stands (drop n (take i text)) ys → reads_record (take i text) ≡ true
  prefix_reads l s = ap is_some (by_head i ys behind s ∙ record_with_room action ys l)

  prefix_passes : (k : ℕ) (zs : List ℕ) → n ≤ k → 144 < length zs → Stands (drop n (take k text)) zs → reads_record (take k text) ≡ false
  prefix_passes k zs m l s = ap is_some (by_head k zs m s ∙ no_record_with action zs l)

  pub lacks_count : i < length text → get_or text i 0 ≡ IGS → HasNoCount text (i + 1) → length ys ≤ 144 → Stands (drop n (take i text)) ys
      → LacksCount reads_record text (i + 1)
  lacks_count h e t l s = record { at = i; behind = refl; within = h; igs = e; lacks = t; before = prefix_reads l s }

  pub passes_count : i + 1 < length text → get_or text i 0 ≡ IGS → is_count (get_or text (i + 1) 0) ≡ true
      → length ys ≤ 144 → 144 < length ys + (get_or text (i + 1) 0 - BLANK) → Stands (drop n (take i text)) ys → PassesLimit reads_record text i
  passes_count h e t l m s =
      let c = get_or text (i + 1) 0 in
      let long : 144 < length (ys ++ replicate (c - BLANK) BLANK) = omega (arith, length-append ys (replicate (c - BLANK) BLANK), length-replicate (c - BLANK) BLANK) in
      let width : width_at text i ≡ 2 = rw e refl in
      record {
        within = rw width (omega arith);
        counted = λ _. t;
        before = prefix_reads l s;
        passes = rw width (prefix_passes (i + 2) _ (omega arith) long (stands_count text ys n i behind h e t s));
      }

  pub passes_byte : i < length text → get_or text i 0 ≢ IGS → length ys ≡ 144 → Stands (drop n (take i text)) ys → PassesLimit reads_record text i
  passes_byte h e l s =
      let long : 144 < length (ys ++ get_or text i 0 ∷ []) = omega (arith, length-append ys (get_or text i 0 ∷ [])) in
      let width : width_at text i ≡ 1 = rw (not_equal (get_or text i 0) IGS e) refl in
      record {
        within = rw width (omega arith);
        counted = λ q. absurd (e q);
        before = prefix_reads (omega arith) s;
        passes = rw width (prefix_passes (i + 1) _ (omega arith) long (stands_byte text ys n i behind h e s));
      }

-- nothing stands after the head
pub nothing_behind : (text : List ℕ) (n : ℕ) → n ≤ length text → Stands (drop n (take n text)) []
nothing_behind text n h = subst (λ xs. Stands xs []) (sym (drop_all n (take n text) (omega (arith, length-take-le n text h)))) nothing

pub no_count_past : (text : List ℕ) (p : ℕ) → length text ≤ p → HasNoCount text p
no_count_past text p h = rw (slice_get_past text p h) tt

pub no_count_at : (text : List ℕ) (p : ℕ) → p < length text → is_count (get_or text p 0) ≡ false → HasNoCount text p
no_count_at text p l h = rw (slice_get-get_or text p 0 l) h

-- the record of a text, where the bytes are the data of its first i bytes
pub record IsBuilt (text : List ℕ) (i : ℕ) (action : Action) (bytes : List ℕ) : Type 0 where
  pub more : List ℕ
  pub rest : expanded (drop i text) ≡ Some more
  pub room : length (bytes ++ more) ≤ 144
  pub read : record_of text ≡ Some (record { action = action; bytes = record { items = bytes ++ more } })

with_room : (action : Action) (o : Option (List ℕ)) → IsSome (option_and_then (record_with action) o)
    → (more : List ℕ) × (o ≡ Some more) × (length more ≤ 144) × (option_and_then (record_with action) o ≡ Some (record { action = action; bytes = record { items = more } }))
with_room action None h = absurd (false≢true h)
with_room action (Some more) h =
    ⊎_elim (λ (l : 144 < length more). absurd (false≢true (sym (ap is_some (no_record_with action more l)) ∙ h)))
    (λ (l : length more ≤ 144). (more, refl, l, record_with_room action more l)) (cases_lt 144 (length more))

pub nothing_built : (text : List ℕ) (n : ℕ) (action : Action) → HasHead text n action → IsSome (record_of text) → IsBuilt text n action []
nothing_built text n action head h =
    let all = take_all (length text) text (omega arith) in
    let is : record_of text ≡ option_and_then (record_with action) (expanded (drop n text)) =
    ap record_of (sym all) ∙ head.reads (length text) head.within ∙ ap (λ xs. option_and_then (record_with action) (expanded (drop n xs))) all in
    let (more, rest, room, read) = with_room action (expanded (drop n text)) (subst (λ o. IsSome o) is h) in
    record { more = more; rest = rest; room = room; read = is ∙ read }

onto_some : (x : ℕ) (o : Option (List ℕ)) (more : List ℕ) → option_map (λ ys. x ∷ ys) o ≡ Some more → (ys : List ℕ) × (o ≡ Some ys) × (more ≡ x ∷ ys)
onto_some x None more h = absurd (none-some more h)
onto_some x (Some ys) more h = let e : more ≡ x ∷ ys = cc in (ys, refl, e)

blanks_some : (bs : List ℕ) (o : Option (List ℕ)) (more : List ℕ) → option_map (λ ys. bs ++ ys) o ≡ Some more → (ys : List ℕ) × (o ≡ Some ys) × (more ≡ bs ++ ys)
blanks_some bs None more h = absurd (none-some more h)
blanks_some bs (Some ys) more h = let e : more ≡ bs ++ ys = cc in (ys, refl, e)

regrouped : (text : List ℕ) (i : ℕ) (action : Action) (bytes part ys : List ℕ) → expanded (drop i text) ≡ Some ys → length (bytes ++ (part ++ ys)) ≤ 144
    → record_of text ≡ Some (record { action = action; bytes = record { items = bytes ++ (part ++ ys) } }) → IsBuilt text i action (bytes ++ part)
regrouped text i action bytes part ys rest room read =
    let same = append_assoc bytes part ys in
    record { more = ys; rest = rest; room = rw same room; read = read ∙ ap (λ zs. Some (record { action = action; bytes = record { items = zs } })) (sym same) }

pub built_byte : (text : List ℕ) (i : ℕ) (action : Action) (bytes : List ℕ) → IsBuilt text i action bytes → i < length text → get_or text i 0 ≢ IGS
    → (length bytes < 144) × IsBuilt text (i + 1) action (bytes ++ get_or text i 0 ∷ [])
built_byte text i action bytes b h e =
    let x = get_or text i 0 in
    let (ys, rest, more) = onto_some x (expanded (drop (i + 1) text)) b.more (sym (ap expanded (drop_more text i 0 h) ∙ expanded-byte x (drop (i + 1) text) e) ∙ b.rest) in
    let room : length (bytes ++ ((x ∷ []) ++ ys)) ≤ 144 = subst (λ zs. length (bytes ++ zs) ≤ 144) more b.room in (
      omega (arith, room, length-append bytes ((x ∷ []) ++ ys)),
      regrouped text (i + 1) action bytes (x ∷ []) ys rest room (b.read ∙ ap (λ zs. Some (record { action = action; bytes = record { items = bytes ++ zs } })) more),
    )

-- so many bytes after the first i, of which none is an IGS
pub built_bytes : (text : List ℕ) (i m : ℕ) (action : Action) (bytes : List ℕ) → IsBuilt text i action bytes → i + m ≤ length text
    → ((k : ℕ) → k < m → get_or (drop i text) k 0 ≢ IGS) → (length bytes + m ≤ 144) × IsBuilt text (i + m) action (bytes ++ take m (drop i text))
built_bytes text i zero action bytes b h e = (
  omega (arith, b.room, length-append bytes b.more),
  let same : i ≡ i + 0 = omega arith in
      subst (λ k. IsBuilt text k action (bytes ++ [])) same (subst (λ zs. IsBuilt text i action zs) (sym (append-nil bytes)) b),
)
built_bytes text i (suc m) action bytes b h e =
    let (_, before) = built_bytes text i m action bytes b (omega (arith, h)) (λ k q. e k (omega (arith, q))) in
    let one : m + 1 ≡ suc m = omega arith in
    let behind : i + m + 1 ≡ i + suc m = omega arith in
    let at : get_or (drop i text) m 0 ≡ get_or text (i + m) 0 = get_or-drop i text m 0 in
    let last : take (suc m) (drop i text) ≡ take m (drop i text) ++ get_or text (i + m) 0 ∷ [] =
    ap (λ k. take k (drop i text)) (sym one) ∙ take_more (drop i text) m 0 (omega (arith, h, length-drop i text)) ∙ ap (λ x. take m (drop i text) ++ x ∷ []) at in
    let (room, next) = built_byte text (i + m) action (bytes ++ take m (drop i text)) before (omega (arith, h)) (λ q. e m (omega arith) (at ∙ q)) in (
      omega (arith, room, length-append bytes (take m (drop i text)), length-take-le m (drop i text) (omega (arith, h, length-drop i text))),
      subst (λ k. IsBuilt text k action (bytes ++ take (suc m) (drop i text))) behind
          (subst (λ zs. IsBuilt text (i + m + 1) action zs) (append_assoc bytes (take m (drop i text)) (get_or text (i + m) 0 ∷ []) ∙ ap (λ zs. bytes ++ zs) (sym last)) next),
    )

-- the same of the bytes in front of the first IGS
pub built_front : (text rest piece : List ℕ) (i n : ℕ) (action : Action) (bytes : List ℕ) → IsBuilt text i action bytes → i ≤ length text → rest ≡ drop i text
    → piece ≡ take n rest → n ≤ length rest → ((k : ℕ) → k < n → get_or rest k 0 ≢ IGS) → (n < length rest → get_or rest n 0 ≡ IGS)
    → (length bytes + length piece ≤ 144) × IsBuilt text (i + length piece) action (bytes ++ piece)
    × (i + length piece < length text → get_or text (i + length piece) 0 ≡ IGS)
built_front text rest piece i n action bytes b l is front within before at =
    let len : length piece ≡ n = ap (λ (xs : List ℕ). length xs) front ∙ length-take-le n rest within in
    let all = rest_length text rest i n is before l in
    let (room, next) = built_bytes text i n action bytes b (omega (arith, all, within)) (no_igs text rest i n is before) in
    let same : take n (drop i text) ≡ piece = ap (take n) (sym is) ∙ sym front in (
      omega (arith, room, len),
      subst (λ k. IsBuilt text (i + k) action (bytes ++ piece)) (sym len) (subst (λ zs. IsBuilt text (i + n) action (bytes ++ zs)) same next),
      λ h. ap (λ k. get_or text (i + k) 0) len ∙ igs_at text rest i n is before at (omega (arith, h, len)),
    )

-- an IGS has its count
counted : (xs : List ℕ) (more : List ℕ) → expanded (IGS ∷ xs) ≡ Some more
    → (0 < length xs) × (is_count (get_or xs 0 0) ≡ true) × (expanded (IGS ∷ xs) ≡ option_map (λ ys. replicate (get_or xs 0 0 - BLANK) BLANK ++ ys) (expanded (drop 1 xs)))
counted [] more h = absurd (none-some more h)
counted (c ∷ xs) more h = either (is_count c) refl
  where
    either : (b : Bool) → is_count c ≡ b → (0 < length (c ∷ xs)) × (is_count c ≡ true) × (expanded (IGS ∷ c ∷ xs) ≡ option_map (λ ys. replicate (c - BLANK) BLANK ++ ys) (expanded xs))
    either true e = (omega arith, e, expanded-igs c xs e)
    either false e = absurd (none-some more (rw e at h))

pub built_count : (text : List ℕ) (i : ℕ) (action : Action) (bytes : List ℕ) → IsBuilt text i action bytes → i < length text → get_or text i 0 ≡ IGS
    → (i + 1 < length text) × (BLANK < get_or text (i + 1) 0) × (length bytes + (get_or text (i + 1) 0 - BLANK) ≤ 144)
    × IsBuilt text (i + 2) action (bytes ++ replicate (get_or text (i + 1) 0 - BLANK) BLANK)
built_count text i action bytes b h e =
    let here : drop i text ≡ IGS ∷ drop (i + 1) text = drop_more text i 0 h ∙ ap (λ x. x ∷ drop (i + 1) text) e in
    let (some, good, is) = counted (drop (i + 1) text) b.more (sym (ap expanded here) ∙ b.rest) in
    let at : get_or (drop (i + 1) text) 0 0 ≡ get_or text (i + 1) 0 = get_or-drop (i + 1) text 0 0 ∙ ap (λ k. get_or text k 0) (omega arith) in
    let c = get_or text (i + 1) 0 in
    let behind : drop 1 (drop (i + 1) text) ≡ drop (i + 2) text = drop-drop 1 (i + 1) text ∙ ap (λ k. drop k text) (omega arith) in
    let blanks = replicate (c - BLANK) BLANK in
    let next : option_map (λ ys. blanks ++ ys) (expanded (drop (i + 2) text)) ≡ Some b.more =
    ap₂ (λ n zs. option_map (λ ys. replicate (n - BLANK) BLANK ++ ys) (expanded zs)) (sym at) (sym behind) ∙ sym is ∙ sym (ap expanded here) ∙ b.rest in
    let (ys, rest, more) = blanks_some blanks (expanded (drop (i + 2) text)) b.more next in
    let room : length (bytes ++ (blanks ++ ys)) ≤ 144 = subst (λ zs. length (bytes ++ zs) ≤ 144) more b.room in
    let is_good : is_count c ≡ true = subst (λ n. is_count n ≡ true) at good in (
      omega (arith, some, length-drop (i + 1) text),
      above c is_good,
      omega (arith, room, length-append bytes (blanks ++ ys), length-append blanks ys, length-replicate {A = ℕ} (c - BLANK) BLANK),
      regrouped text (i + 2) action bytes blanks ys rest room (b.read ∙ ap (λ zs. Some (record { action = action; bytes = record { items = bytes ++ zs } })) more),
    )
  where
    above : (c : ℕ) → is_count c ≡ true → BLANK < c
    above c h = grind (arith, nat_tests)
