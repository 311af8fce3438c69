-- What a job file holds, collected from the front.
use Rattle.std.proofs.Common.{◌≡◌, ℕ, zero, suc, ◌+◌, ◌<◌, ◌≤◌, ◌^◌, Some, List, [], ◌∷◌, ◌++◌, length, map, drop, get_or, refl, ap, sym, ◌∙◌, subst, arith}
use Rattle.std.proofs.lemmas.List.{append-nil, append_assoc, length-append, map-append}
use Rattle.std.specs.Int.{bytes_high_first}
use Rattle.rje_jobs.specs.declared.job.Job.{Job}
use Rattle.std.specs.List.{flat_map, AllByRecursion}
use Rattle.std.proofs.lemmas.Grind.{flat_map-append}
use Rattle.rje_files.specs.declared.entry.Entry.{Entry}
use Rattle.rje_files.specs.declared.job_file.version.FileVersion.{FileVersion}
use Rattle.rje_files.specs.declared.job_file.version.FileVersion.TheVariants.{First}
use Rattle.rje_files.specs.Entry.{entry_of, jobs_in}
use Rattle.rje_files.specs.JobFile.{head, version_byte, entry_bytes, file_of, FitsFields, IsEntryFileOf, IsFileOf}
use Rattle.rje_files.specs.Inside.Reading.Grammar.{AnyBytes, Records, Entries, version_read}
use Rattle.rje_files.specs.Inside.Reading.Collecting.{AreJobsOf}
use Rattle.rje_files.specs.Inside.Reading.Stored.{IsRecordHere}
use Rattle.rje_files.proofs.Grammar.{only_first}

any_rest : (n : ℕ) (Rest : List ℕ → Type 0) (xs : List ℕ) → AnyBytes n Rest xs → (n ≤ length xs) × Rest (drop n xs)
any_rest zero Rest xs h = (omega arith, h)
any_rest (suc n) Rest [] h = absurd h
any_rest (suc n) Rest (x ∷ xs) h = let more = any_rest n Rest xs h in (omega (arith, more.0), more.1)

pub record_here : (n : ℕ) (Rest : List ℕ → Type 0) (xs : List ℕ) → Records (suc n) Rest xs → IsRecordHere xs
record_here n Rest [] h = absurd h
record_here n Rest (a ∷ []) h = absurd h.1
record_here n Rest (a ∷ k ∷ xs) h = record { head = omega arith; action = h.0; limit = h.1.0; room = (any_rest k (Records n Rest) xs h.1.1).0 }

pub record_rest : (n : ℕ) (Rest : List ℕ → Type 0) (xs : List ℕ) → Records (suc n) Rest xs → Records n Rest (drop (get_or xs 1 0) (drop 2 xs))
record_rest n Rest [] h = absurd h
record_rest n Rest (a ∷ []) h = absurd h.1
record_rest n Rest (a ∷ k ∷ xs) h = (any_rest k (Records n Rest) xs h.1.1).1

-- one item more was read
pub more_items : {X : Type 0} (f : X → List ℕ) (bytes rest behind : List ℕ) (xs ys : List X) (x : X) → ys ≡ xs ++ x ∷ [] → bytes ≡ flat_map f xs ++ rest
    → rest ≡ f x ++ behind → bytes ≡ flat_map f ys ++ behind
more_items f bytes rest behind xs ys x e whole part =
    whole ∙ ap (λ (zs : List ℕ). flat_map f xs ++ zs) (part ∙ ap (λ (zs : List ℕ). zs ++ behind) (sym (append-nil (f x))))
    ∙ sym (append_assoc (flat_map f xs) (f x ++ []) behind)
    ∙ ap (λ (zs : List ℕ). zs ++ behind) (sym (flat_map-append f xs (x ∷ [])))
    ∙ ap (λ (zs : _). flat_map f zs ++ behind) (sym e)

pub file_whole : (v : FileVersion) (xs items rest : List ℕ) (count : ℕ) (es : List Entry) → xs ≡ head ++ (version_byte v ∷ (bytes_high_first 8 count ++ items))
    → items ≡ flat_map (entry_bytes v) es ++ rest → length es ≡ count → rest ≡ [] → file_of v es ≡ xs
file_whole v xs items rest count es e ej many er =
    let all : items ≡ flat_map (entry_bytes v) es = ej ∙ ap (λ (ys : List ℕ). flat_map (entry_bytes v) es ++ ys) er ∙ append-nil (flat_map (entry_bytes v) es) in
    sym (e ∙ ap (λ (ys : List ℕ). head ++ (version_byte v ∷ (bytes_high_first 8 count ++ ys))) all
    ∙ ap (λ (n : ℕ). head ++ (version_byte v ∷ (bytes_high_first 8 n ++ flat_map (entry_bytes v) es))) (sym many))

-- jobs as entries of version 1
pub mapped_length : (js : List Job) → length (map entry_of js) ≡ length js
mapped_length [] = refl
mapped_length (j ∷ js) = ap suc (mapped_length js)

pub all_longer : {X : Type 0} (P : X → Type 0) (xs ys : List X) (x : X) → ys ≡ xs ++ x ∷ [] → AllByRecursion P xs → P x → AllByRecursion P ys
all_longer P xs ys x e all one = subst (λ (zs : _). AllByRecursion P zs) (sym e) (grown xs all)
  where
    grown : (zs : _) → AllByRecursion P zs → AllByRecursion P (zs ++ x ∷ [])
    grown [] h = (one, tt)
    grown (z ∷ zs) h = (h.0, grown zs h.1)

pub one_longer : {X : Type 0} (xs ys : List X) (x : X) (n : ℕ) → ys ≡ xs ++ x ∷ [] → length xs ≡ n → length ys ≡ n + 1
one_longer xs ys x n e l = omega (arith, ap length e, length-append xs (x ∷ []), l)

-- so many jobs were collected of a file's entries, and these bytes are left
pub record CollectedSo (v : FileVersion) (bytes rest : List ℕ) (left count : ℕ) (jobs : List Job) : Type 0 where
  pub entries : List Entry
  pub jobs_are : jobs ≡ jobs_in entries
  pub many : length entries ≡ count
  pub spelled : bytes ≡ flat_map (entry_bytes v) entries ++ rest
  pub fit : AllByRecursion (FitsFields v) entries
  pub more : Entries v left rest

-- one job more
pub collected_more : (v : FileVersion) (bytes rest behind : List ℕ) (left next count : ℕ) (jobs longer : List Job) (e : Entry) → CollectedSo v bytes rest left count jobs
    → rest ≡ entry_bytes v e ++ behind → FitsFields v e → Entries v next behind → longer ≡ jobs ++ e.job ∷ [] → CollectedSo v bytes behind next (count + 1) longer
collected_more v bytes rest behind left next count jobs longer e so spelled fits more grown =
    record {
      entries = so.entries ++ e ∷ [];
      jobs_are = grown ∙ ap (λ (js : List Job). js ++ e.job ∷ []) so.jobs_are ∙ sym (map-append (λ (x : Entry). x.job) so.entries (e ∷ []));
      many = one_longer so.entries (so.entries ++ e ∷ []) e count refl so.many;
      spelled = more_items (entry_bytes v) bytes rest behind so.entries (so.entries ++ e ∷ []) e refl so.spelled spelled;
      fit = all_longer (FitsFields v) so.entries (so.entries ++ e ∷ []) e refl so.fit fits;
      more = more;
    }

-- all of them
pub collected_all : (newest v : FileVersion) (xs items rest : List ℕ) (count : ℕ) (jobs : List Job) → version_read newest (version_byte v) ≡ Some v
    → xs ≡ head ++ (version_byte v ∷ (bytes_high_first 8 count ++ items)) → count < 2 ^ 64 → CollectedSo v items rest 0 count jobs → AreJobsOf newest jobs xs
collected_all newest v xs items rest count jobs known spelled fits so =
    record {
      version = v;
      known = known;
      entries = so.entries;
      file = ((omega (arith, so.many, fits), so.fit), file_whole v xs items rest count so.entries spelled so.spelled so.many so.more);
      jobs_are = so.jobs_are;
    }

-- entries of version 1 are those of their jobs
pub entries_of_jobs : (es : List Entry) → AllByRecursion (FitsFields First) es → es ≡ map entry_of (jobs_in es)
entries_of_jobs [] h = refl
entries_of_jobs (e ∷ es) h = ap (λ (x : Entry). x ∷ es) h.0.2 ∙ ap (λ (xs : List Entry). entry_of e.job ∷ xs) (entries_of_jobs es h.1)

pub jobs_of_first : (jobs : List Job) (xs : List ℕ) → AreJobsOf First jobs xs → IsFileOf jobs xs
jobs_of_first jobs xs so =
    let file : IsEntryFileOf First so.entries xs = subst (λ (v : FileVersion). IsEntryFileOf v so.entries xs) (only_first so.version _ so.known) so.file in
    let same : so.entries ≡ map entry_of jobs = entries_of_jobs so.entries file.0.1 ∙ ap (λ (js : List Job). map entry_of js) (sym so.jobs_are) in
    subst (λ (es : List Entry). IsEntryFileOf First es xs) same file
