-- The bytes of a file, as they are written.
use Rattle.std.proofs.Common.{◌≡◌, ℕ, ◌+◌, ◌<◌, ◌≤◌, List, [], ◌∷◌, ◌++◌, length, map, drop, get_or, Bool, true, false, cond, Option, Some, None, refl, ap, sym, ◌∙◌, subst}
use Rattle.std.proofs.lemmas.List.{append_assoc, drop_more, drop_all}
use Rattle.std.specs.List.{flat_map, AllByRecursion}
use Rattle.std.specs.Int.{bytes_high_first}
use Rattle.rje_text.specs.declared.record.Record.{Record}
use Rattle.rje_files.specs.declared.entry.Entry.{Entry}
use Rattle.rje_files.specs.declared.job_file.version.FileVersion.{FileVersion}
use Rattle.rje_files.specs.Entry.{is_entry, bad_entry_from}
use Rattle.rje_files.specs.JobFile.{record_bytes, records_bytes, entry_bytes, file_of, version_byte, head}

-- what stands before the first entry
pub front_spelled : (old named mid new : List ℕ) (v : FileVersion) (byte n : ℕ) → named ≡ old ++ head → byte ≡ version_byte v → mid ≡ named ++ byte ∷ [] → new ≡ mid ++ bytes_high_first 8 n
    → (tail : List ℕ) → new ++ tail ≡ old ++ (head ++ (version_byte v ∷ (bytes_high_first 8 n ++ tail)))
front_spelled old named mid new v byte n en eb em e tail =
    rw (e, em, eb, en)
    (append_assoc ((old ++ head) ++ version_byte v ∷ []) (bytes_high_first 8 n) tail
    ∙ append_assoc (old ++ head) (version_byte v ∷ []) (bytes_high_first 8 n ++ tail) ∙ append_assoc old head _)

pub start_records : (old new : List ℕ) (n : ℕ) (rs : List Record) → n ≡ length rs → new ≡ old ++ bytes_high_first 8 n → new ++ flat_map record_bytes rs ≡ old ++ records_bytes rs
start_records old new n rs en e = rw (e, en) (append_assoc old (bytes_high_first 8 (length rs)) (flat_map record_bytes rs))

pub start_entries : (v : FileVersion) (old new : List ℕ) (n : ℕ) (es : List Entry) → n ≡ length es
    → ((tail : List ℕ) → new ++ tail ≡ old ++ (head ++ (version_byte v ∷ (bytes_high_first 8 n ++ tail))))
    → new ++ flat_map (entry_bytes v) es ≡ old ++ file_of v es
start_entries v old new n es en e =
    e (flat_map (entry_bytes v) es) ∙ ap (λ (k : ℕ). old ++ (head ++ (version_byte v ∷ (bytes_high_first 8 k ++ flat_map (entry_bytes v) es)))) en

-- one more is written
pub more_written : {X : Type 0} (f : X → List ℕ) (g : List X → List ℕ) → ((x : X) (xs : List X) → g (x ∷ xs) ≡ f x ++ g xs) → (out new all : List ℕ) (xs : List X) (i : ℕ) (d x : X)
    → x ≡ get_or xs i d → i < length xs → out ++ g (drop i xs) ≡ all → new ≡ out ++ f x → new ++ g (drop (i + 1) xs) ≡ all
more_written f g step out new all xs i d x is l e made =
    rw (made, is) (append_assoc out (f (get_or xs i d)) (g (drop (i + 1) xs))
    ∙ ap (λ (ys : List ℕ). out ++ ys) (sym (step (get_or xs i d) (drop (i + 1) xs)))
    ∙ sym (ap (λ (ys : _). out ++ g ys) (drop_more xs i d l)) ∙ e)

-- one more from the front
pub one_back : {X : Type 0} (P : X → Type 0) (xs : List X) (i : ℕ) (d x : X) → x ≡ get_or xs i d → i < length xs → P x → AllByRecursion P (drop (i + 1) xs) → AllByRecursion P (drop i xs)
one_back P xs i d x is l p all = subst (λ (ys : _). AllByRecursion P ys) (sym (drop_more xs i d l)) (subst P is p, all)

pub one_back_of : {X Y : Type 0} (P : Y → Type 0) (m : X → Y) (xs : List X) (i : ℕ) (d x : X) → x ≡ get_or xs i d → i < length xs → P (m x) → AllByRecursion P (map m (drop (i + 1) xs)) → AllByRecursion P (map m (drop i xs))
one_back_of P m xs i d x is l p all = subst (λ (ys : _). AllByRecursion P (map m ys)) (sym (drop_more xs i d l)) (subst (λ (y : _). P (m y)) is p, all)

-- where none is bad each is an entry
kept_on : (p : Bool) (n : ℕ) (o : Option ℕ) → cond p o (Some n) ≡ None → (p ≡ true) × (o ≡ None)
kept_on true n o e = (refl, e)
kept_on false n o e = cc

pub all_good : (P : Entry → Type 0) (n : ℕ) (es : List Entry) → bad_entry_from n es ≡ None → AllByRecursion (λ e. is_entry e ≡ true → P e) es → AllByRecursion P es
all_good P n [] e h = tt
all_good P n (x ∷ es) e h = let good = kept_on (is_entry x) n (bad_entry_from (n + 1) es) e in (h.0 good.0, all_good P (n + 1) es good.1 h.1)

pub all_past : {X : Type 0} (P : X → Type 0) (xs : List X) (i : ℕ) → length xs ≤ i → AllByRecursion P (drop i xs)
all_past P xs i l = subst (λ (ys : _). AllByRecursion P ys) (sym (drop_all i xs l)) tt
