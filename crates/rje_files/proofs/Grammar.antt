-- The grammar read from the front is that of the files of lists of entries.
use Rattle.std.proofs.Common.{◌≡◌, ℕ, zero, suc, ◌^◌, ◌<◌, Bool, true, false, eqb, cond, ◌==◌, Option, Some, None, List, [], ◌∷◌, ◌++◌, length, refl, ap, sym, ◌∙◌, subst, arith}
use Rattle.std.proofs.lemmas.List.{append_assoc}
use Rattle.std.specs.List.{flat_map, AllByRecursion}
use Rattle.std.specs.Int.{bytes_high_first}
use Rattle.std.proofs.lemmas.Bool.{eqb-true}
use Rattle.rje_text.specs.declared.mode.Mode.{Mode}
use Rattle.rje_text.specs.declared.mode.Mode.TheVariants.{Normal, Transparent}
use Rattle.rje_text.specs.declared.select.Select.{Select}
use Rattle.rje_text.specs.declared.select.Select.TheVariants.{Unset, Printer, Punch}
use Rattle.rje_text.specs.declared.record.Record.{Record}
use Rattle.rje_files.specs.declared.entry.State.{State}
use Rattle.rje_files.specs.declared.entry.State.TheVariants.{Waiting, Sent, Whole, Cut}
use Rattle.rje_files.specs.declared.entry.Entry.{Entry}
use Rattle.rje_files.specs.declared.job_file.version.FileVersion.{FileVersion}
use Rattle.rje_files.specs.declared.job_file.version.FileVersion.TheVariants.{First, Second}
use Rattle.rje_files.specs.Entry.{may_stand, is_name_from, whole_of, agrees, entry_of}
use Rattle.rje_files.specs.JobFile.{record_bytes, records_bytes, select_byte, mode_byte, whole_byte, state_byte, version_byte, fields, entry_bytes, file_of, HasRoom, IsOfVersion, FitsFields, AreForFile, IsEntryFileOf, IsFileUpTo}
use Rattle.rje_files.specs.Inside.Reading.Grammar.{Number, AnyBytes, Records, Name, FromState, Fields, Counted, Entries, AfterVersion, version_read, File}
use Rattle.rje_files.proofs.ActionBytes.{action_good, action_back}
use Rattle.rje_files.proofs.Numbers.{number_there, number_back, below_all, none_above}
use Rattle.rje_text.proofs.Both.{both, together}

select_good : (s : Select) → select_byte s < 3
select_good Unset = omega arith
select_good Printer = omega arith
select_good Punch = omega arith

mode_good : (m : Mode) → mode_byte m < 2
mode_good Normal = omega arith
mode_good Transparent = omega arith

whole_good : (w : Bool) → whole_byte w < 2
whole_good true = omega arith
whole_good false = omega arith

bytes_there : (ds zs : List ℕ) (Rest : List ℕ → Type 0) → Rest zs → AnyBytes (length ds) Rest (ds ++ zs)
bytes_there [] zs Rest h = h
bytes_there (d ∷ ds) zs Rest h = bytes_there ds zs Rest h

records_there : (rs : List Record) (zs : List ℕ) (Rest : List ℕ → Type 0) → AllByRecursion HasRoom rs → Rest zs → Records (length rs) Rest (flat_map record_bytes rs ++ zs)
records_there [] zs Rest fits h = h
records_there (r ∷ rs) zs Rest fits h =
    let regroup : (r.bytes.items ++ flat_map record_bytes rs) ++ zs ≡ r.bytes.items ++ (flat_map record_bytes rs ++ zs) = append_assoc r.bytes.items (flat_map record_bytes rs) zs in
    (action_good r.action, (fits.0, subst (λ (ys : List ℕ). AnyBytes (length r.bytes.items) (Records (length rs) Rest) ys) (sym regroup) (bytes_there r.bytes.items _ _ (records_there rs zs Rest fits.1 h))))

state_good : (t : State) → state_byte t < 4
state_good Waiting = omega arith
state_good Sent = omega arith
state_good Whole = omega arith
state_good Cut = omega arith

name_there : (cs zs : List ℕ) (ended : Bool) (Rest : List ℕ → Type 0) → is_name_from ended cs ≡ true → Rest zs → Name (length cs) ended Rest (cs ++ zs)
name_there [] zs ended Rest n h = h
name_there (c ∷ cs) zs ended Rest n h =
    let good = both (may_stand ended c) (is_name_from (c == 0x20) cs) n in
    (good.0, name_there cs zs (c == 0x20) Rest good.1 h)

fields_there : (v : FileVersion) (e : Entry) (zs : List ℕ) (Rest : List ℕ → Type 0) → IsOfVersion v e → Rest zs → Fields v Rest (fields v e ++ zs)
fields_there First e zs Rest f h = (select_good e.job.select, (mode_good e.job.mode, (whole_good e.job.whole, h)))
fields_there Second e zs Rest f h =
    let behind = state_byte e.state ∷ select_byte e.job.select ∷ mode_byte e.job.mode ∷ [] in
    let regroup : (e.name ++ behind) ++ zs ≡ e.name ++ (behind ++ zs) = append_assoc e.name behind zs in
    let named = name_there e.name (behind ++ zs) false (FromState Second Rest) (both (is_name_from false e.name) (agrees e.state e.job.whole) f.1).0
    (state_good e.state, (select_good e.job.select, (mode_good e.job.mode, h))) in
    subst (λ (ys : List ℕ). Name 8 false (FromState Second Rest) ys) (sym regroup)
    (subst (λ (n : ℕ). Name n false (FromState Second Rest) (e.name ++ (behind ++ zs))) f.0 named)

entries_there : (v : FileVersion) (es : List Entry) → AllByRecursion (FitsFields v) es → Entries v (length es) (flat_map (entry_bytes v) es)
entries_there v [] fits = refl
entries_there v (e ∷ es) fits =
    let rs = e.job.records in
    let n = length rs in
    let tail = flat_map (entry_bytes v) es in
    let Rest : ℕ → List ℕ → Type 0 = λ r. Records r (Entries v (length es)) in
    let regroup : (fields v e ++ (bytes_high_first 8 n ++ flat_map record_bytes rs)) ++ tail ≡ fields v e ++ (bytes_high_first 8 n ++ (flat_map record_bytes rs ++ tail)) =
    append_assoc (fields v e) (bytes_high_first 8 n ++ flat_map record_bytes rs) tail
    ∙ ap (λ (ys : List ℕ). fields v e ++ ys) (append_assoc (bytes_high_first 8 n) (flat_map record_bytes rs) tail) in
    let rest = records_there rs tail (Entries v (length es)) fits.0.1 (entries_there v es fits.1) in
    let number = number_there 8 n Rest _ rest in
    let zero_first = subst (λ (c : ℕ). Number 8 c Rest (bytes_high_first 8 n ++ (flat_map record_bytes rs ++ tail))) (none_above n fits.0.0) number in
    subst (λ (ys : List ℕ). Fields v (Counted Rest) ys) (sym regroup) (fields_there v e _ (Counted Rest) fits.0.2 zero_first)

of_version : (newest v : FileVersion) (es : List Entry) → version_read newest (version_byte v) ≡ Some v → AreForFile v es → File newest (file_of v es)
of_version newest v es known fits =
    let tail = flat_map (entry_bytes v) es in
    let number = number_there 8 (length es) (Entries v) tail (entries_there v es fits.1) in
    let counted = subst (λ (c : ℕ). Number 8 c (Entries v) (bytes_high_first 8 (length es) ++ tail)) (none_above (length es) fits.0) number in
    (refl, (refl, (refl, (refl, (refl, subst (λ (o : Option FileVersion). AfterVersion o (bytes_high_first 8 (length es) ++ tail)) (sym known) counted)))))

known_second : (v : FileVersion) → version_read Second (version_byte v) ≡ Some v
known_second First = refl
known_second Second = refl

pub file_there : (newest : FileVersion) (xs : List ℕ) → IsFileUpTo newest xs → File newest xs
file_there First xs h = subst (File First) h.1.1 (of_version First First h.0 refl h.1.0)
file_there Second xs h = subst (File Second) h.2.1 (of_version Second h.0 h.1 (known_second h.0) h.2.0)

-- Back: what the grammar takes is spelled by jobs.
pub record IsAny (n : ℕ) (Rest : List ℕ → Type 0) (xs : List ℕ) : Type 0 where
  pub taken : List ℕ
  pub rest : List ℕ
  pub many : length taken ≡ n
  pub bytes : xs ≡ taken ++ rest
  pub then : Rest rest

bytes_back : (n : ℕ) (Rest : List ℕ → Type 0) (xs : List ℕ) → AnyBytes n Rest xs → IsAny n Rest xs
bytes_back zero Rest xs h = record { taken = []; rest = xs; many = refl; bytes = refl; then = h }
bytes_back (suc n) Rest [] h = absurd h
bytes_back (suc n) Rest (x ∷ xs) h =
    let more = bytes_back n Rest xs h in
    record { taken = x ∷ more.taken; rest = more.rest; many = omega (arith, more.many); bytes = ap (λ (ys : List ℕ). x ∷ ys) more.bytes; then = more.then }

select_back : (b : ℕ) → b < 3 → (s : Select) × (select_byte s ≡ b)
select_back zero l = (Unset, refl)
select_back (suc zero) l = (Printer, refl)
select_back (suc (suc zero)) l = (Punch, refl)
select_back (suc (suc (suc b))) l = absurd (omega (arith, l))

mode_back : (b : ℕ) → b < 2 → (m : Mode) × (mode_byte m ≡ b)
mode_back zero l = (Normal, refl)
mode_back (suc zero) l = (Transparent, refl)
mode_back (suc (suc b)) l = absurd (omega (arith, l))

whole_back : (b : ℕ) → b < 2 → (w : Bool) × (whole_byte w ≡ b)
whole_back zero l = (false, refl)
whole_back (suc zero) l = (true, refl)
whole_back (suc (suc b)) l = absurd (omega (arith, l))

state_back : (b : ℕ) → b < 4 → (t : State) × (state_byte t ≡ b)
state_back zero l = (Waiting, refl)
state_back (suc zero) l = (Sent, refl)
state_back (suc (suc zero)) l = (Whole, refl)
state_back (suc (suc (suc zero))) l = (Cut, refl)
state_back (suc (suc (suc (suc b)))) l = absurd (omega (arith, l))

pub record AreRecords (n : ℕ) (Rest : List ℕ → Type 0) (xs : List ℕ) : Type 0 where
  pub records : List Record
  pub rest : List ℕ
  pub many : length records ≡ n
  pub fit : AllByRecursion HasRoom records
  pub bytes : xs ≡ flat_map record_bytes records ++ rest
  pub then : Rest rest

pub records_back : (n : ℕ) (Rest : List ℕ → Type 0) (xs : List ℕ) → Records n Rest xs → AreRecords n Rest xs
records_back zero Rest xs h = record { records = []; rest = xs; many = refl; fit = tt; bytes = refl; then = h }
records_back (suc n) Rest [] h = absurd h
records_back (suc n) Rest (a ∷ []) h = absurd h.1
records_back (suc n) Rest (a ∷ k ∷ xs) h =
    let code = action_back a h.0 in
    let part = bytes_back k (Records n Rest) xs h.1.1 in
    let more = records_back n Rest part.rest part.then in
    let r : Record = record { action = code.0; bytes = record { items = part.taken } } in
    let bytes : xs ≡ (part.taken ++ flat_map record_bytes more.records) ++ more.rest =
    part.bytes ∙ ap (λ (ys : List ℕ). part.taken ++ ys) more.bytes ∙ sym (append_assoc part.taken (flat_map record_bytes more.records) more.rest) in
    record {
      records = r ∷ more.records;
      rest = more.rest;
      many = omega (arith, more.many);
      fit = (omega (arith, part.many, h.1.0), more.fit);
      bytes = rw (code.1, part.many) (ap (λ (ys : List ℕ). a ∷ k ∷ ys) bytes);
      then = more.then;
    }

pub record IsNamed (n : ℕ) (ended : Bool) (Rest : List ℕ → Type 0) (xs : List ℕ) : Type 0 where
  pub taken : List ℕ
  pub rest : List ℕ
  pub many : length taken ≡ n
  pub good : is_name_from ended taken ≡ true
  pub bytes : xs ≡ taken ++ rest
  pub then : Rest rest

pub name_back : (n : ℕ) (ended : Bool) (Rest : List ℕ → Type 0) (xs : List ℕ) → Name n ended Rest xs → IsNamed n ended Rest xs
name_back zero ended Rest xs h = record { taken = []; rest = xs; many = refl; good = refl; bytes = refl; then = h }
name_back (suc n) ended Rest [] h = absurd h
name_back (suc n) ended Rest (x ∷ xs) h =
    let more = name_back n (x == 0x20) Rest xs h.1 in
    record {
      taken = x ∷ more.taken;
      rest = more.rest;
      many = omega (arith, more.many);
      good = together (may_stand ended x) (is_name_from (x == 0x20) more.taken) h.0 more.good;
      bytes = ap (λ (ys : List ℕ). x ∷ ys) more.bytes;
      then = more.then;
    }

-- fields with any records after them
pub record AreFieldsOf (v : FileVersion) (Rest : List ℕ → Type 0) (xs : List ℕ) : Type 0 where
  pub entry : List Record → Entry
  pub rest : List ℕ
  pub kept : (rs : List Record) → (entry rs).job.records ≡ rs
  pub fit : (rs : List Record) → IsOfVersion v (entry rs)
  pub bytes : (rs : List Record) → xs ≡ fields v (entry rs) ++ rest
  pub then : Rest rest

agreed : (t : State) → agrees t (whole_of t) ≡ true
agreed Waiting = refl
agreed Sent = refl
agreed Whole = refl
agreed Cut = refl

behind_name : (Rest : List ℕ → Type 0) (xs : List ℕ) (name : IsNamed 8 false (FromState Second Rest) xs) (ys : List ℕ) → name.rest ≡ ys → FromState Second Rest ys → AreFieldsOf Second Rest xs
behind_name Rest xs name [] e h = absurd h
behind_name Rest xs name (t ∷ []) e h = absurd h.1
behind_name Rest xs name (t ∷ s ∷ []) e h = absurd h.1.1
behind_name Rest xs name (t ∷ s ∷ m ∷ ys) e h =
    let state = state_back t h.0 in
    let select = select_back s h.1.0 in
    let mode = mode_back m h.1.1.0 in
    let entry : List Record → Entry = λ rs. record { name = name.taken; state = state.0; job = record { select = select.0; mode = mode.0; records = rs; whole = whole_of state.0 } } in
    record {
      entry = entry;
      rest = ys;
      kept = λ rs. refl;
      fit = λ rs. (name.many, together (is_name_from false name.taken) (agrees state.0 (whole_of state.0)) name.good (agreed state.0));
      bytes = λ rs.
          rw (state.1, select.1, mode.1) (name.bytes ∙ ap (λ (zs : List ℕ). name.taken ++ zs) e ∙ sym (append_assoc name.taken (t ∷ s ∷ m ∷ []) ys));
      then = h.1.1.1;
    }

fields_back : (v : FileVersion) (Rest : List ℕ → Type 0) (xs : List ℕ) → Fields v Rest xs → AreFieldsOf v Rest xs
fields_back First Rest [] h = absurd h
fields_back First Rest (s ∷ []) h = absurd h.1
fields_back First Rest (s ∷ m ∷ []) h = absurd h.1.1
fields_back First Rest (s ∷ m ∷ w ∷ xs) h =
    let select = select_back s h.0 in
    let mode = mode_back m h.1.0 in
    let whole = whole_back w h.1.1.0 in
    record {
      entry = λ rs. entry_of (record { select = select.0; mode = mode.0; records = rs; whole = whole.0 });
      rest = xs;
      kept = λ rs. refl;
      fit = λ rs. refl;
      bytes = λ rs. rw (select.1, mode.1, whole.1) refl;
      then = h.1.1.1;
    }
fields_back Second Rest xs h = let name = name_back 8 false (FromState Second Rest) xs h in behind_name Rest xs name name.rest refl name.then

pub record AreEntries (v : FileVersion) (n : ℕ) (xs : List ℕ) : Type 0 where
  pub entries : List Entry
  pub many : length entries ≡ n
  pub fit : AllByRecursion (FitsFields v) entries
  pub bytes : xs ≡ flat_map (entry_bytes v) entries

pub entries_back : (v : FileVersion) (n : ℕ) (xs : List ℕ) → Entries v n xs → AreEntries v n xs
entries_back v zero xs h = record { entries = []; many = refl; fit = tt; bytes = h }
entries_back v (suc n) xs h =
    let Rest : ℕ → List ℕ → Type 0 = λ r. Records r (Entries v n) in
    let front = fields_back v (Counted Rest) xs h in
    let count = number_back 8 0 Rest front.rest front.then in
    let records = records_back count.number (Entries v n) count.rest count.then in
    let more = entries_back v n records.rest records.then in
    let rs = records.records in
    let e : Entry = front.entry rs in
    let tail = flat_map (entry_bytes v) more.entries in
    let spelled : front.rest ≡ (bytes_high_first 8 count.number ++ flat_map record_bytes rs) ++ tail =
    count.bytes ∙ ap (λ (ys : List ℕ). bytes_high_first 8 count.number ++ ys) (records.bytes ∙ ap (λ (ys : List ℕ). flat_map record_bytes rs ++ ys) more.bytes)
    ∙ sym (append_assoc (bytes_high_first 8 count.number) (flat_map record_bytes rs) tail) in
    let counted : front.rest ≡ records_bytes rs ++ tail =
    spelled ∙ ap (λ (k : ℕ). (bytes_high_first 8 k ++ flat_map record_bytes rs) ++ tail) (sym records.many) in
    let body : front.rest ≡ records_bytes e.job.records ++ tail = counted ∙ ap (λ (qs : List Record). records_bytes qs ++ tail) (sym (front.kept rs)) in
    let small : length rs < 2 ^ 64 = rw records.many (below_all count.number count.first) in
    record {
      entries = e ∷ more.entries;
      many = omega (arith, more.many);
      fit = ((subst (λ (qs : List Record). length qs < 2 ^ 64) (sym (front.kept rs)) small, subst (AllByRecursion HasRoom) (sym (front.kept rs)) records.fit, front.fit rs), more.fit);
      bytes = front.bytes rs ∙ ap (λ (ys : List ℕ). fields v e ++ ys) body ∙ sym (append_assoc (fields v e) (records_bytes e.job.records) tail);
    }

first_back : (p : Bool) (v : FileVersion) → cond p (Some First) None ≡ Some v → (v ≡ First) × (p ≡ true)
first_back true First e = (refl, refl)
first_back true Second e = cc
first_back false v e = cc

second_back : (b : ℕ) (p q : Bool) (v : FileVersion) → eqb b 1 ≡ p → eqb b 2 ≡ q → cond p (Some First) (cond q (Some Second) None) ≡ Some v → b ≡ version_byte v
second_back b true q First f g e = eqb-true b 1 f
second_back b true q Second f g e = cc
second_back b false true First f g e = cc
second_back b false true Second f g e = eqb-true b 2 g
second_back b false false v f g e = cc

pub version_back : (newest v : FileVersion) (b : ℕ) → version_read newest b ≡ Some v → b ≡ version_byte v
version_back First v b e = let first = first_back (eqb b 1) v e in rw first.0 (eqb-true b 1 first.1)
version_back Second v b e = second_back b (eqb b 1) (eqb b 2) v refl refl e

pub only_first : (v : FileVersion) (b : ℕ) → version_read First b ≡ Some v → v ≡ First
only_first v b e = (first_back (eqb b 1) v e).0

pub record IsVersioned (newest : FileVersion) (byte : ℕ) (xs : List ℕ) : Type 0 where
  pub version : FileVersion
  pub known : version_read newest byte ≡ Some version
  pub counted : Counted (Entries version) xs

pub versioned : (newest : FileVersion) (byte : ℕ) (xs : List ℕ) (o : Option FileVersion) → version_read newest byte ≡ o → AfterVersion o xs → IsVersioned newest byte xs
versioned newest byte xs None e h = absurd h
versioned newest byte xs (Some v) e h = record { version = v; known = e; counted = h }

up_to : (newest v : FileVersion) (b : ℕ) (es : List Entry) (xs : List ℕ) → version_read newest b ≡ Some v → IsEntryFileOf v es xs → IsFileUpTo newest xs
up_to First v b es xs e h = (es, subst (λ (w : FileVersion). IsEntryFileOf w es xs) (only_first v b e) h)
up_to Second v b es xs e h = (v, es, h)

pub file_back : (newest : FileVersion) (xs : List ℕ) → File newest xs → IsFileUpTo newest xs
file_back newest [] h = absurd h
file_back newest (a ∷ []) h = absurd h.1
file_back newest (a ∷ b ∷ []) h = absurd h.1.1
file_back newest (a ∷ b ∷ c ∷ []) h = absurd h.1.1.1
file_back newest (a ∷ b ∷ c ∷ d ∷ []) h = absurd h.1.1.1.1
file_back newest (a ∷ b ∷ c ∷ d ∷ e ∷ []) h = absurd h.1.1.1.1.1
file_back newest (a ∷ b ∷ c ∷ d ∷ e ∷ f ∷ xs) h =
    let behind = versioned newest f xs (version_read newest f) refl h.1.1.1.1.1 in
    let v = behind.version in
    let count = number_back 8 0 (Entries v) xs behind.counted in
    let items = entries_back v count.number count.rest count.then in
    let tail = flat_map (entry_bytes v) items.entries in
    let bytes : xs ≡ bytes_high_first 8 (length items.entries) ++ tail =
    count.bytes ∙ ap (λ (ys : List ℕ). bytes_high_first 8 count.number ++ ys) items.bytes ∙ ap (λ (n : ℕ). bytes_high_first 8 n ++ tail) (sym items.many) in
    let byte : f ≡ version_byte v = version_back newest v f behind.known in
    let whole : file_of v items.entries ≡ a ∷ b ∷ c ∷ d ∷ e ∷ f ∷ xs =
    rw (h.0, h.1.0, h.1.1.0, h.1.1.1.0, h.1.1.1.1.0)
    (ap (λ (ys : List ℕ). 0x52 ∷ 0x4A ∷ 0x33 ∷ 0x37 ∷ 0x00 ∷ version_byte v ∷ ys) (sym bytes) ∙ ap (λ (z : ℕ). 0x52 ∷ 0x4A ∷ 0x33 ∷ 0x37 ∷ 0x00 ∷ z ∷ xs) (sym byte)) in
    up_to newest v f items.entries _ behind.known ((rw items.many (below_all count.number count.first), items.fit), whole)
