-- A file is that of one list of entries, in one version.
use Rattle.std.proofs.Common.{◌≡◌, ℕ, zero, suc, ◌<◌, ◌^◌, Bool, true, false, List, [], ◌∷◌, ◌++◌, length, map, drop, refl, ap, sym, ◌∙◌, subst, arith}
use Rattle.std.proofs.lemmas.List.{append_assoc, length-append}
use Rattle.std.specs.List.{flat_map, AllByRecursion}
use Rattle.std.specs.Int.{bytes_high_first}
use Rattle.byteorder.specs.Endian.{big_from}
use Rattle.byteorder.specs.Numbers.{big_number-reads_back}
use Rattle.rje_text.specs.declared.mode.Mode.{Mode}
use Rattle.rje_text.specs.declared.mode.Mode.TheVariants.{Normal, Transparent}
use Rattle.rje_text.specs.declared.select.Select.{Select}
use Rattle.rje_text.specs.declared.select.Select.TheVariants.{Unset, Printer, Punch}
use Rattle.rje_text.specs.declared.action.Action.{Action}
use Rattle.rje_text.specs.declared.record.Record.{Record}
use Rattle.rje_jobs.specs.declared.job.Job.{Job}
use Rattle.rje_files.specs.declared.entry.State.{State}
use Rattle.rje_files.specs.declared.entry.State.TheVariants.{Waiting, Sent, Whole, Cut}
use Rattle.rje_files.specs.declared.entry.Entry.{Entry}
use Rattle.rje_files.specs.declared.job_file.version.FileVersion.{FileVersion}
use Rattle.rje_files.specs.declared.job_file.version.FileVersion.TheVariants.{First, Second}
use Rattle.rje_files.specs.Entry.{is_job_name, agrees, entry_of, whole_of as state_whole}
use Rattle.rje_files.specs.JobFile.{record_bytes, records_bytes, select_byte, mode_byte, whole_byte, state_byte, version_byte, fields, entry_bytes, file_of, IsOfVersion, FitsFields, AreForFile, IsEntryFileOf}
use Rattle.rje_files.proofs.ActionBytes.{same_action}
use Rattle.rje_text.proofs.Both.{both}

abbrev select_of : ℕ → Select
select_of zero = Unset
select_of (suc zero) = Printer
select_of (suc (suc n)) = Punch

select_back_of : (s : Select) → select_of (select_byte s) ≡ s
select_back_of Unset = refl
select_back_of Printer = refl
select_back_of Punch = refl

same_select : (s t : Select) → select_byte s ≡ select_byte t → s ≡ t
same_select s t e = sym (select_back_of s) ∙ ap select_of e ∙ select_back_of t

abbrev mode_of : ℕ → Mode
mode_of zero = Normal
mode_of (suc n) = Transparent

mode_back_of : (m : Mode) → mode_of (mode_byte m) ≡ m
mode_back_of Normal = refl
mode_back_of Transparent = refl

same_mode : (m n : Mode) → mode_byte m ≡ mode_byte n → m ≡ n
same_mode m n e = sym (mode_back_of m) ∙ ap mode_of e ∙ mode_back_of n

abbrev whole_named : ℕ → Bool
whole_named zero = false
whole_named (suc n) = true

whole_back_of : (w : Bool) → whole_named (whole_byte w) ≡ w
whole_back_of true = refl
whole_back_of false = refl

same_whole : (v w : Bool) → whole_byte v ≡ whole_byte w → v ≡ w
same_whole v w e = sym (whole_back_of v) ∙ ap whole_named e ∙ whole_back_of w

first_same : (x y : ℕ) (xs ys : List ℕ) → x ∷ xs ≡ y ∷ ys → x ≡ y
first_same x y xs ys e = cc

rest_same : (x y : ℕ) (xs ys : List ℕ) → x ∷ xs ≡ y ∷ ys → xs ≡ ys
rest_same x y xs ys e = cc

-- fronts of one length are the same, and so is what follows
fronts : (ps qs xs ys : List ℕ) → length ps ≡ length qs → ps ++ xs ≡ qs ++ ys → (ps ≡ qs) × (xs ≡ ys)
fronts [] [] xs ys l e = (refl, e)
fronts [] (q ∷ qs) xs ys l e = absurd (omega (arith, l))
fronts (p ∷ ps) [] xs ys l e = absurd (omega (arith, l))
fronts (p ∷ ps) (q ∷ qs) xs ys l e =
    let more = fronts ps qs xs ys (omega (arith, l)) (rest_same _ _ _ _ e) in
    let first : p ≡ q = first_same _ _ _ _ e in
    (ap (λ (z : ℕ). z ∷ ps) first ∙ ap (λ (zs : List ℕ). q ∷ zs) more.0, more.1)

numbers : (m n : ℕ) (xs ys : List ℕ) → m < 2 ^ 64 → n < 2 ^ 64 → bytes_high_first 8 m ++ xs ≡ bytes_high_first 8 n ++ ys → (m ≡ n) × (xs ≡ ys)
numbers m n xs ys l k e =
    (sym (big_number-reads_back 8 m xs l) ∙ ap (big_from 0 8) e ∙ big_number-reads_back 8 n ys k, ap (drop 8) e)

same_record : (r s : Record) → r.action ≡ s.action → r.bytes.items ≡ s.bytes.items → r ≡ s
same_record r s a b = ap (λ (x : Action). record { action = x; bytes = r.bytes }) a ∙ ap (λ (x : List ℕ). record { action = s.action; bytes = record { items = x } }) b

records : (rs ss : List Record) (xs ys : List ℕ) → length rs ≡ length ss → flat_map record_bytes rs ++ xs ≡ flat_map record_bytes ss ++ ys → (rs ≡ ss) × (xs ≡ ys)
records [] [] xs ys l e = (refl, e)
records [] (s ∷ ss) xs ys l e = absurd (omega (arith, l))
records (r ∷ rs) [] xs ys l e = absurd (omega (arith, l))
records (r ∷ rs) (s ∷ ss) xs ys l e =
    let behind = rest_same _ _ _ _ e in
    let taken = fronts r.bytes.items s.bytes.items (flat_map record_bytes rs ++ xs) (flat_map record_bytes ss ++ ys) (first_same _ _ _ _ behind)
    (sym (append_assoc r.bytes.items (flat_map record_bytes rs) xs) ∙ rest_same _ _ _ _ behind ∙ append_assoc s.bytes.items (flat_map record_bytes ss) ys) in
    let more = records rs ss xs ys (omega (arith, l)) taken.1 in
    let first : r ≡ s = same_record r s (same_action r.action s.action (first_same _ _ _ _ e)) taken.0 in
    (ap (λ (x : Record). x ∷ rs) first ∙ ap (λ (x : List Record). s ∷ x) more.0, more.1)

same_job : (j k : Job) → j.select ≡ k.select → j.mode ≡ k.mode → j.records ≡ k.records → j.whole ≡ k.whole → j ≡ k
same_job j k s m r w =
    ap (λ (x : Select). record { select = x; mode = j.mode; records = j.records; whole = j.whole }) s
    ∙ ap (λ (x : Mode). record { select = k.select; mode = x; records = j.records; whole = j.whole }) m
    ∙ ap (λ (x : List Record). record { select = k.select; mode = k.mode; records = x; whole = j.whole }) r
    ∙ ap (λ (x : Bool). record { select = k.select; mode = k.mode; records = k.records; whole = x }) w

abbrev state_of : ℕ → State
state_of zero = Waiting
state_of (suc zero) = Sent
state_of (suc (suc zero)) = Whole
state_of (suc (suc (suc n))) = Cut

state_back_of : (t : State) → state_of (state_byte t) ≡ t
state_back_of Waiting = refl
state_back_of Sent = refl
state_back_of Whole = refl
state_back_of Cut = refl

same_state : (s t : State) → state_byte s ≡ state_byte t → s ≡ t
same_state s t e = sym (state_back_of s) ∙ ap state_of e ∙ state_back_of t

-- a state says whether its job is whole
agreed : (t : State) (w : Bool) → agrees t w ≡ true → w ≡ state_whole t
agreed Waiting w e = e
agreed Sent w e = e
agreed Whole w e = e
agreed Cut false e = refl
agreed Cut true e = cc

same_entry : (e f : Entry) → e.name ≡ f.name → e.state ≡ f.state → e.job ≡ f.job → e ≡ f
same_entry e f n t j =
    ap (λ (x : List ℕ). record { name = x; state = e.state; job = e.job }) n
    ∙ ap (λ (x : State). record { name = f.name; state = x; job = e.job }) t
    ∙ ap (λ (x : Job). record { name = f.name; state = f.state; job = x }) j

width : (v : FileVersion) (e f : Entry) → IsOfVersion v e → IsOfVersion v f → length (fields v e) ≡ length (fields v f)
width First e f a b = refl
width Second e f a b =
    omega (
      arith,
      a.0,
      b.0,
      length-append e.name (state_byte e.state ∷ select_byte e.job.select ∷ mode_byte e.job.mode ∷ []),
      length-append f.name (state_byte f.state ∷ select_byte f.job.select ∷ mode_byte f.job.mode ∷ []),
    )

-- entries with the same fields and records are the same
same_fields : (v : FileVersion) (e f : Entry) → IsOfVersion v e → IsOfVersion v f → fields v e ≡ fields v f → e.job.records ≡ f.job.records → e ≡ f
same_fields First e f a b q r =
    let mode = rest_same _ _ _ _ q in
    let job : e.job ≡ f.job =
    same_job e.job f.job (same_select e.job.select f.job.select (first_same _ _ _ _ q)) (same_mode e.job.mode f.job.mode (first_same _ _ _ _ mode)) r
    (same_whole e.job.whole f.job.whole (first_same _ _ _ _ (rest_same _ _ _ _ mode))) in
    a ∙ ap entry_of job ∙ sym b
same_fields Second e f a b q r =
    let split = fronts e.name f.name _ _ (a.0 ∙ sym b.0) q in
    let select = rest_same _ _ _ _ split.1 in
    let mode = rest_same _ _ _ _ select in
    let state : e.state ≡ f.state = same_state e.state f.state (first_same _ _ _ _ split.1) in
    let whole : e.job.whole ≡ f.job.whole =
    agreed e.state e.job.whole (both (is_job_name e.name) (agrees e.state e.job.whole) a.1).1 ∙ ap state_whole state
    ∙ sym (agreed f.state f.job.whole (both (is_job_name f.name) (agrees f.state f.job.whole) b.1).1) in
    same_entry e f split.0 state
    (same_job e.job f.job (same_select e.job.select f.job.select (first_same _ _ _ _ select)) (same_mode e.job.mode f.job.mode (first_same _ _ _ _ mode)) r whole)

regroup : (v : FileVersion) (e : Entry) (tail : List ℕ) → entry_bytes v e ++ tail ≡ fields v e ++ (bytes_high_first 8 (length e.job.records) ++ (flat_map record_bytes e.job.records ++ tail))
regroup v e tail =
    append_assoc (fields v e) (records_bytes e.job.records) tail
    ∙ ap (λ (ys : List ℕ). fields v e ++ ys) (append_assoc (bytes_high_first 8 (length e.job.records)) (flat_map record_bytes e.job.records) tail)

entries : (v : FileVersion) (es fs : List Entry) → AllByRecursion (FitsFields v) es → AllByRecursion (FitsFields v) fs → length es ≡ length fs
    → flat_map (entry_bytes v) es ≡ flat_map (entry_bytes v) fs → es ≡ fs
entries v [] [] a b l q = refl
entries v [] (f ∷ fs) a b l q = absurd (omega (arith, l))
entries v (e ∷ es) [] a b l q = absurd (omega (arith, l))
entries v (e ∷ es) (f ∷ fs) a b l q =
    let front = fronts (fields v e) (fields v f) _ _ (width v e f a.0.2 b.0.2) (sym (regroup v e (flat_map (entry_bytes v) es)) ∙ q ∙ regroup v f (flat_map (entry_bytes v) fs)) in
    let number = numbers (length e.job.records) (length f.job.records) _ _ a.0.0 b.0.0 front.1 in
    let items = records e.job.records f.job.records (flat_map (entry_bytes v) es) (flat_map (entry_bytes v) fs) number.0 number.1 in
    let first : e ≡ f = same_fields v e f a.0.2 b.0.2 front.0 items.0 in
    ap (λ (x : Entry). x ∷ es) first ∙ ap (λ (x : List Entry). f ∷ x) (entries v es fs a.1 b.1 (omega (arith, l)) items.1)

-- a file has one version
abbrev version_of : ℕ → FileVersion
version_of zero = First
version_of (suc zero) = First
version_of (suc (suc n)) = Second

version_back_of : (v : FileVersion) → version_of (version_byte v) ≡ v
version_back_of First = refl
version_back_of Second = refl

pub one_version : (v w : FileVersion) (es fs : List Entry) → file_of v es ≡ file_of w fs → v ≡ w
one_version v w es fs e =
    let byte : version_byte v ≡ version_byte w = first_same _ _ _ _ (ap (drop 5) e) in
    sym (version_back_of v) ∙ ap version_of byte ∙ version_back_of w

pub one_list : (v : FileVersion) (es fs : List Entry) → AreForFile v es → AreForFile v fs → file_of v es ≡ file_of v fs → es ≡ fs
one_list v es fs a b q =
    let number = numbers (length es) (length fs) _ _ a.0 b.0 (ap (drop 6) q) in
    entries v es fs a.1 b.1 number.0 number.1

-- jobs are those of their entries
pub same_jobs : (js ks : List Job) → map entry_of js ≡ map entry_of ks → js ≡ ks
same_jobs js ks e = sym (jobs_back js) ∙ ap (λ (es : List Entry). map (λ (x : Entry). x.job) es) e ∙ jobs_back ks
  where
    jobs_back : (xs : List Job) → map (λ (x : Entry). x.job) (map entry_of xs) ≡ xs
    jobs_back [] = refl
    jobs_back (x ∷ xs) = ap (λ (ys : List Job). x ∷ ys) (jobs_back xs)

pub one_file : (bytes : List ℕ) (v w : FileVersion) (es fs : List Entry) → IsEntryFileOf v es bytes → IsEntryFileOf w fs bytes → (v ≡ w) × (es ≡ fs)
one_file bytes v w es fs f g =
    let same : v ≡ w = one_version v w es fs (f.1 ∙ sym g.1) in
    let other : IsEntryFileOf w es bytes = subst (λ (u : FileVersion). IsEntryFileOf u es bytes) same f in
    (same, one_list w es fs other.0 g.0 (other.1 ∙ sym g.1))
