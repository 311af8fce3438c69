-- A copy of a file, marked from the front.
use Rattle.std.proofs.Common.{◌≡◌, inl, inr, ℕ, zero, suc, ◌+◌, ◌<◌, ◌≤◌, Bool, true, false, ◌&&◌, List, [], ◌∷◌, ◌++◌, length, set, drop, get_or, Option, Some, None, if◌then◌else◌, refl, ap, sym, ◌∙◌, subst, arith}
use Rattle.std.specs.List.{AllByRecursion}
use Rattle.std.proofs.lemmas.Bool.{cases_Bool}
use Rattle.std.proofs.lemmas.List.{append_assoc, drop_all, drop_more, length-append}
use Rattle.rje_files.specs.declared.entry.Entry.{Entry}
use Rattle.rje_files.specs.declared.job_file.version.FileVersion.TheVariants.{Second}
use Rattle.rje_files.specs.Entry.{bad_entry_from, is_entry, is_job_name}
use Rattle.rje_files.specs.JobFile.{AreForFile, FitsFields, IsEntryFileOf, entry_bytes, file_of}
use Rattle.rje_files.specs.Unsent.{is_sent, with_sent}
use Rattle.rje_files.proofs.GoodEntries.{good_sent}
use Rattle.rje_files.proofs.Marking.{as_long, bytes_of, front_of, here, inside, many, marked}
use Rattle.rje_files.proofs.Spelled.{all_good}
use Rattle.rje_files.proofs.Sent.{kept, made, none_left}

-- these bytes become this file: in front stands what it begins with, and of the rest the first that were not sent, so many as are left, are to be Sent
pub record Becomes (bytes : List ℕ) (start left : ℕ) (rest : List Entry) (file : List ℕ) : Type 0 where
  pub front : List ℕ
  pub long : length front ≡ start
  pub split : bytes ≡ front ++ bytes_of rest
  pub whole : front ++ bytes_of (with_sent left rest) ≡ file

pub begun : (n : ℕ) (es : List Entry) (bytes : List ℕ) → bytes ≡ file_of Second es → Becomes bytes 14 n es (file_of Second (with_sent n es))
begun n es bytes is = record {
  front = front_of (length es);
  long = refl;
  split = is;
  whole = ap (λ (k : ℕ). front_of k ++ bytes_of (with_sent n es)) (sym (many n es));
}

over : (bytes : List ℕ) (start next left : ℕ) (e : Entry) (es : List Entry) (file : List ℕ) → with_sent left (e ∷ es) ≡ e ∷ with_sent left es
    → next ≡ start + length (entry_bytes Second e) → Becomes bytes start left (e ∷ es) file → Becomes bytes next left es file
over bytes start next left e es file stays is h = record {
  front = h.front ++ entry_bytes Second e;
  long = length-append h.front (entry_bytes Second e) ∙ ap (λ (k : ℕ). k + length (entry_bytes Second e)) h.long ∙ sym is;
  split = h.split ∙ sym (append_assoc h.front (entry_bytes Second e) (bytes_of es));
  whole = append_assoc h.front (entry_bytes Second e) (bytes_of (with_sent left es)) ∙ sym (ap (λ (xs : List Entry). h.front ++ bytes_of xs) stays) ∙ h.whole;
}

onto : (bytes : List ℕ) (start place next left : ℕ) (e : Entry) (es : List Entry) (file : List ℕ) → length e.name ≡ 8 → is_sent e.state ≡ false → place ≡ start + 8
    → next ≡ start + length (entry_bytes Second e) → Becomes bytes start (suc left) (e ∷ es) file → Becomes (set bytes place 1) next left es file
onto bytes start place next left e es file eight unsent at is h = record {
  front = h.front ++ entry_bytes Second (marked e);
  long = length-append h.front (entry_bytes Second (marked e)) ∙ omega (arith, h.long, is, as_long e);
  split = ap (λ (xs : List ℕ). set xs place 1) h.split ∙ here h.front (bytes_of es) e place eight (omega (arith, at, h.long))
      ∙ sym (append_assoc h.front (entry_bytes Second (marked e)) (bytes_of es));
  whole = append_assoc h.front (entry_bytes Second (marked e)) (bytes_of (with_sent left es)) ∙ sym (ap (λ (xs : List Entry). h.front ++ bytes_of xs) (made left e es unsent)) ∙ h.whole;
}

-- the rest begins with an entry
split_at : (xs : List Entry) (i : ℕ) (d x : Entry) → x ≡ get_or xs i d → i < length xs → drop i xs ≡ x ∷ drop (i + 1) xs
split_at xs i d x is less = drop_more xs i d less ∙ ap (λ (y : Entry). y ∷ drop (i + 1) xs) (sym is)

-- an entry that was sent stays
pub sent_stays : (bytes : List ℕ) (start next left : ℕ) (xs : List Entry) (i : ℕ) (d x : Entry) (file : List ℕ) → x ≡ get_or xs i d → i < length xs → is_sent x.state ≡ true
    → next ≡ start + length (entry_bytes Second x) → Becomes bytes start left (drop i xs) file → Becomes bytes next left (drop (i + 1) xs) file
sent_stays bytes start next left xs i d x file is less sent long h =
    over bytes start next left x (drop (i + 1) xs) file (kept left x (drop (i + 1) xs) sent) long (subst (λ (es : List Entry). Becomes bytes start left es file) (split_at xs i d x is less) h)

-- and so does one where none is left to be marked
pub rest_stays : (bytes : List ℕ) (start next left : ℕ) (xs : List Entry) (i : ℕ) (d x : Entry) (file : List ℕ) → x ≡ get_or xs i d → i < length xs → left ≡ 0
    → next ≡ start + length (entry_bytes Second x) → Becomes bytes start left (drop i xs) file → Becomes bytes next left (drop (i + 1) xs) file
rest_stays bytes start next left xs i d x file is less none long h =
    over bytes start next left x (drop (i + 1) xs) file (rw none (ap (λ (ys : List Entry). x ∷ ys) (sym (none_left (drop (i + 1) xs))))) long
    (subst (λ (es : List Entry). Becomes bytes start left es file) (split_at xs i d x is less) h)

-- one that was not sent is marked
pub is_marked : (bytes : List ℕ) (start place next left n : ℕ) (xs : List Entry) (i : ℕ) (d x : Entry) (file : List ℕ) → x ≡ get_or xs i d → i < length xs → length x.name ≡ 8 → is_sent x.state ≡ false
    → place ≡ start + 8 → next ≡ start + length (entry_bytes Second x) → left ≡ suc n → Becomes bytes start left (drop i xs) file → Becomes (set bytes place 1) next n (drop (i + 1) xs) file
is_marked bytes start place next left n xs i d x file is less eight unsent at long more h =
    onto bytes start place next n x (drop (i + 1) xs) file eight unsent at long
    (subst (λ (k : ℕ). Becomes bytes start k (x ∷ drop (i + 1) xs) file) more (subst (λ (es : List Entry). Becomes bytes start left es file) (split_at xs i d x is less) h))

-- its mark and its end are among the bytes
pub has_place : (bytes : List ℕ) (start place left : ℕ) (xs : List Entry) (i : ℕ) (d x : Entry) (file : List ℕ) → x ≡ get_or xs i d → i < length xs → length x.name ≡ 8
    → place ≡ start + 8 → Becomes bytes start left (drop i xs) file → place < length bytes
has_place bytes start place left xs i d x file is less eight at h =
    let rest = drop (i + 1) xs in
    subst (λ (ys : List ℕ). place < length ys) (sym (h.split ∙ ap (λ (es : List Entry). h.front ++ bytes_of es) (split_at xs i d x is less)))
    (inside h.front (bytes_of rest) x place eight (omega (arith, at, h.long)))

pub has_end : (bytes : List ℕ) (start left : ℕ) (xs : List Entry) (i : ℕ) (d x : Entry) (file : List ℕ) → x ≡ get_or xs i d → i < length xs
    → Becomes bytes start left (drop i xs) file → start + length (entry_bytes Second x) ≤ length bytes
has_end bytes start left xs i d x file is less h =
    let rest = drop (i + 1) xs in
    omega (
      arith,
      h.long,
      ap length (h.split ∙ ap (λ (es : List Entry). h.front ++ bytes_of es) (split_at xs i d x is less)),
      length-append h.front (entry_bytes Second x ++ bytes_of rest),
      length-append (entry_bytes Second x) (bytes_of rest),
    )

-- after the last entry it is that file
pub became : (bytes : List ℕ) (start left : ℕ) (xs : List Entry) (i : ℕ) (file : List ℕ) → length xs ≤ i → Becomes bytes start left (drop i xs) file → bytes ≡ file
became bytes start left xs i file past h =
    let none = drop_all i xs past in
    h.split ∙ ap (λ (es : List Entry). h.front ++ bytes_of es) none ∙ sym (ap (λ (es : List Entry). h.front ++ bytes_of (with_sent left es)) none) ∙ h.whole

-- WHETHER ONE IS CUT

-- one more is good
good_passed : (k : ℕ) (e : Entry) (es : List Entry) (o : Option ℕ) → is_entry e ≡ true → bad_entry_from k (e ∷ es) ≡ o → bad_entry_from (k + 1) es ≡ o
good_passed k e es o good is = sym (ap (λ (b : Bool). if b then bad_entry_from (k + 1) es else Some k) good) ∙ is

pub sent_is_good : (k left : ℕ) (xs : List Entry) (i : ℕ) (d x : Entry) (o : Option ℕ) → x ≡ get_or xs i d → i < length xs → is_entry x ≡ true → is_sent x.state ≡ true
    → bad_entry_from k (with_sent left (drop i xs)) ≡ o → bad_entry_from (k + 1) (with_sent left (drop (i + 1) xs)) ≡ o
sent_is_good k left xs i d x o is less good sent h =
    good_passed k x (with_sent left (drop (i + 1) xs)) o good
    (sym (ap (λ (es : List Entry). bad_entry_from k es) (ap (λ (es : List Entry). with_sent left es) (split_at xs i d x is less) ∙ kept left x (drop (i + 1) xs) sent)) ∙ h)

pub rest_is_good : (k left : ℕ) (xs : List Entry) (i : ℕ) (d x : Entry) (o : Option ℕ) → x ≡ get_or xs i d → i < length xs → is_entry x ≡ true → left ≡ 0
    → bad_entry_from k (with_sent left (drop i xs)) ≡ o → bad_entry_from (k + 1) (with_sent left (drop (i + 1) xs)) ≡ o
rest_is_good k left xs i d x o is less good none h =
    let rest = drop (i + 1) xs in
    let stays : with_sent left (x ∷ rest) ≡ x ∷ with_sent left rest = rw none (ap (λ (ys : List Entry). x ∷ ys) (sym (none_left rest))) in
    good_passed k x (with_sent left rest) o good
    (sym (ap (λ (es : List Entry). bad_entry_from k es) (ap (λ (es : List Entry). with_sent left es) (split_at xs i d x is less) ∙ stays)) ∙ h)

marks_split : (left n : ℕ) (xs : List Entry) (i : ℕ) (d x : Entry) → x ≡ get_or xs i d → i < length xs → is_sent x.state ≡ false → left ≡ suc n
    → with_sent left (drop i xs) ≡ marked x ∷ with_sent n (drop (i + 1) xs)
marks_split left n xs i d x is less unsent more =
    ap (λ (es : List Entry). with_sent left es) (split_at xs i d x is less) ∙ ap (λ (k : ℕ). with_sent k (x ∷ drop (i + 1) xs)) more ∙ made n x (drop (i + 1) xs) unsent

pub whole_is_good : (k left n : ℕ) (xs : List Entry) (i : ℕ) (d x : Entry) (o : Option ℕ) → x ≡ get_or xs i d → i < length xs → is_entry x ≡ true → x.job.whole ≡ true → is_sent x.state ≡ false
    → left ≡ suc n → bad_entry_from k (with_sent left (drop i xs)) ≡ o → bad_entry_from (k + 1) (with_sent n (drop (i + 1) xs)) ≡ o
whole_is_good k left n xs i d x o is less good whole unsent more h =
    good_passed k (marked x) (with_sent n (drop (i + 1) xs)) o (good_sent x good whole)
    (sym (ap (λ (es : List Entry). bad_entry_from k es) (marks_split left n xs i d x is less unsent more)) ∙ h)

never : (e : Entry) → e.job.whole ≡ false → is_entry (marked e) ≡ false
never e cut = go (is_job_name e.name) e.job.whole cut where
  go : (name whole : Bool) → whole ≡ false → (name && whole) ≡ false
  go true whole cut = cut
  go false whole cut = refl

pub cut_is_first : (k left n : ℕ) (xs : List Entry) (i : ℕ) (d x : Entry) (o : Option ℕ) → x ≡ get_or xs i d → i < length xs → x.job.whole ≡ false → is_sent x.state ≡ false
    → left ≡ suc n → bad_entry_from k (with_sent left (drop i xs)) ≡ o → Some k ≡ o
cut_is_first k left n xs i d x o is less cut unsent more h =
    let rest = with_sent n (drop (i + 1) xs) in
    sym (ap (λ (b : Bool). if b then bad_entry_from (k + 1) rest else Some k) (never x cut))
    ∙ sym (ap (λ (es : List Entry). bad_entry_from k es) (marks_split left n xs i d x is less unsent more)) ∙ h

pub none_is_cut : (k left : ℕ) (xs : List Entry) (i : ℕ) (o : Option ℕ) → length xs ≤ i → bad_entry_from k (with_sent left (drop i xs)) ≡ o → None ≡ o
none_is_cut k left xs i o past h = sym (ap (λ (es : List Entry). bad_entry_from k (with_sent left es)) (drop_all i xs past)) ∙ h

-- ONE OF THE ENTRIES

pub fits_at : (xs : List Entry) (i : ℕ) (d x : Entry) → AllByRecursion (FitsFields Second) xs → x ≡ get_or xs i d → i < length xs → FitsFields Second x
fits_at [] i d x fit is less = absurd (omega (arith, less))
fits_at (e ∷ es) zero d x fit is less = subst (FitsFields Second) (sym is) fit.0
fits_at (e ∷ es) (suc i) d x fit is less = fits_at es i d x fit.1 is (omega (arith, less))

-- with so many of them Sent they fit a file where none is bad
if_good : (n : ℕ) (es : List Entry) → AllByRecursion (FitsFields Second) es → AllByRecursion (λ e. is_entry e ≡ true → FitsFields Second e) (with_sent n es)
if_good n [] fit = tt
if_good zero (e ∷ es) fit = (λ good. fit.0, subst (λ (ys : List Entry). AllByRecursion (λ e. is_entry e ≡ true → FitsFields Second e) ys) (none_left es) (if_good zero es fit.1))
if_good (suc n) (e ∷ es) fit = elim (cases_Bool (is_sent e.state)) [
  | inl is ↦ subst (λ (ys : List Entry). AllByRecursion (λ e. is_entry e ≡ true → FitsFields Second e) ys) (sym (kept (suc n) e es is)) (λ good. fit.0, if_good (suc n) es fit.1)
  | inr left ↦ subst (λ (ys : List Entry). AllByRecursion (λ e. is_entry e ≡ true → FitsFields Second e) ys) (sym (made n e es left))
      (λ good. (fit.0.0, fit.0.1, (fit.0.2.0, good)), if_good n es fit.1)
]

pub is_file : (n : ℕ) (es : List Entry) (bytes : List ℕ) → AreForFile Second es → bad_entry_from 1 (with_sent n es) ≡ None → bytes ≡ file_of Second (with_sent n es)
    → IsEntryFileOf Second (with_sent n es) bytes
is_file n es bytes fit none is =
    ((omega (arith, many n es, fit.0), all_good (FitsFields Second) 1 (with_sent n es) none (if_good n es fit.1)), sym is)
