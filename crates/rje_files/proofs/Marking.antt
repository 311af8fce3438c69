-- One more job of a file made Sent by a byte.
use Rattle.std.proofs.Common.{◌≡◌, inl, inr, ℕ, zero, suc, ◌+◌, ◌<◌, ◌≤◌, Bool, true, false, not, List, [], ◌∷◌, ◌++◌, length, set, drop, get_or, Option, Some, if◌then◌else◌, refl, ap, sym, ◌∙◌, subst, arith}
use Rattle.std.proofs.lemmas.Bool.{cases_Bool}
use Rattle.std.proofs.lemmas.List.{append_assoc, append-nil, drop_all, drop_more, length-append}
use Rattle.std.proofs.lemmas.List.Elements.{recursion_from_All}
use Rattle.std.proofs.Math.Seq.{set-append_seam}
use Rattle.std.specs.List.{flat_map, All, AllByRecursion, slice_get}
use Rattle.std.specs.Int.{bytes_high_first}
use Rattle.rje_files.specs.declared.entry.State.TheVariants.{Sent}
use Rattle.rje_files.specs.declared.entry.Entry.{Entry}
use Rattle.rje_files.specs.declared.job_file.version.FileVersion.{FileVersion}
use Rattle.rje_files.specs.declared.job_file.version.FileVersion.TheVariants.{First, Second}
use Rattle.rje_files.specs.Entry.{is_job_name, agrees}
use Rattle.rje_files.specs.JobFile.{HasEntries, IsOfVersion, FitsFields, AreForFile, entry_bytes, record_bytes, records_bytes, state_byte, select_byte, mode_byte, file_of, head, version_byte}
use Rattle.rje_files.specs.Unsent.{CanPass, IsSentFile, is_sent, unsent, with_sent}
use Rattle.rje_files.specs.Marks.{AreMarks, AreStatePlaces}
use Rattle.rje_files.proofs.OneFile.{one_file}
use Rattle.rje_files.proofs.Sent.{none_left, kept, made}
use Rattle.rje_text.proofs.Both.{both}

-- the places of the state bytes of the entries that were not sent, where the first entry stands here
abbrev pub marks_from : ℕ → List Entry → List ℕ
marks_from start [] = []
marks_from start (e ∷ es) = if is_sent e.state
    then marks_from (start + length (entry_bytes Second e)) es
    else ((start + 8) ∷ marks_from (start + length (entry_bytes Second e)) es)

abbrev pub bytes_of : List Entry → List ℕ
bytes_of es = flat_map (entry_bytes Second) es

abbrev pub marked : Entry → Entry
marked e = record e { state = Sent }

-- what stands after an entry's state
abbrev behind : Entry → List ℕ
behind e = select_byte e.job.select ∷ mode_byte e.job.mode ∷ records_bytes e.job.records

-- EACH HAS ONE

each : (start : ℕ) (es : List Entry) → length (marks_from start es) ≡ length (unsent es)
each start [] = refl
each start (e ∷ es) = go (is_sent e.state) (each (start + length (entry_bytes Second e)) es) where
  next : ℕ
  next = start + length (entry_bytes Second e)

  go : (b : Bool) → length (marks_from next es) ≡ length (unsent es) → length (if b then marks_from next es else ((start + 8) ∷ marks_from next es)) ≡ length (if not b then e ∷ unsent es else unsent es)
  go true same = same
  go false same = ap suc same

-- WHERE IT STANDS

stands : (before after : List Entry) (e : Entry) (start : ℕ) → is_sent e.state ≡ false
    → slice_get (marks_from start (before ++ e ∷ after)) (length (unsent before)) ≡ Some ((start + length (bytes_of before)) + 8)
stands [] after e start left = rw left (ap (λ (n : ℕ). Some (n + 8)) still) where
  still : start ≡ start + 0
  still = omega arith
stands (x ∷ before) after e start left = go (is_sent x.state) (stands before after e next left ∙ ap (λ (n : ℕ). Some (n + 8)) further) where
  next : ℕ
  next = start + length (entry_bytes Second x)

  further : next + length (bytes_of before) ≡ start + length (bytes_of (x ∷ before))
  further = omega (arith, length-append (entry_bytes Second x) (bytes_of before))

  more : List ℕ
  more = marks_from next (before ++ e ∷ after)

  place : Option ℕ
  place = Some ((start + length (bytes_of (x ∷ before))) + 8)

  go : (b : Bool) → slice_get more (length (unsent before)) ≡ place
      → slice_get (if b then more else ((start + 8) ∷ more)) (length (if not b then x ∷ unsent before else unsent before)) ≡ place
  go true is = is
  go false is = is

-- THE BYTE

spelled : (e : Entry) → entry_bytes Second e ≡ e.name ++ (state_byte e.state ∷ behind e)
spelled e = append_assoc e.name (state_byte e.state ∷ select_byte e.job.select ∷ mode_byte e.job.mode ∷ []) (records_bytes e.job.records)

pub as_long : (e : Entry) → length (entry_bytes Second (marked e)) ≡ length (entry_bytes Second e)
as_long e = ap length (spelled (marked e)) ∙ length-append e.name (1 ∷ behind e) ∙ sym (length-append e.name (state_byte e.state ∷ behind e)) ∙ sym (ap length (spelled e))

-- an entry after some bytes and before others
abbrev between : List ℕ → Entry → List ℕ → List ℕ
between front e rest = front ++ (entry_bytes Second e ++ rest)

parts : (front rest : List ℕ) (e : Entry) → between front e rest ≡ (front ++ e.name) ++ (state_byte e.state ∷ (behind e ++ rest))
parts front rest e =
    ap (λ (xs : List ℕ). front ++ (xs ++ rest)) (spelled e) ∙ ap (λ (xs : List ℕ). front ++ xs) (append_assoc e.name (state_byte e.state ∷ behind e) rest)
    ∙ sym (append_assoc front e.name (state_byte e.state ∷ (behind e ++ rest)))

pub here : (front rest : List ℕ) (e : Entry) (place : ℕ) → length e.name ≡ 8 → place ≡ length front + 8 → set (between front e rest) place 1 ≡ between front (marked e) rest
here front rest e place eight is =
    let at : place ≡ length (front ++ e.name) = omega (arith, is, eight, length-append front e.name) in
    ap (λ (xs : List ℕ). set xs place 1) (parts front rest e) ∙ ap (λ (n : ℕ). set ((front ++ e.name) ++ (state_byte e.state ∷ (behind e ++ rest))) n 1) at
    ∙ set-append_seam (front ++ e.name) (state_byte e.state) (behind e ++ rest) 1 ∙ sym (parts front rest (marked e))

pub inside : (front rest : List ℕ) (e : Entry) (place : ℕ) → length e.name ≡ 8 → place ≡ length front + 8 → place < length (between front e rest)
inside front rest e place eight is =
    omega (arith, is, eight, ap length (parts front rest e), length-append (front ++ e.name) (state_byte e.state ∷ (behind e ++ rest)), length-append front e.name)

abbrev Marks : ℕ → ℕ → List ℕ → List Entry → Type 0
Marks n place front es =
    (place < length (front ++ bytes_of (with_sent n es))) × (set (front ++ bytes_of (with_sent n es)) place 1 ≡ front ++ bytes_of (with_sent (suc n) es))

-- an entry that stays in front of a mark
over : (n m place : ℕ) (front : List ℕ) (e : Entry) (es all more : List Entry) → all ≡ e ∷ with_sent n es → more ≡ e ∷ with_sent (suc n) es
    → Marks n place (front ++ entry_bytes Second e) es
    → (place < length (front ++ bytes_of all)) × (set (front ++ bytes_of all) place 1 ≡ front ++ bytes_of more)
over n m place front e es all more is next (less, same) =
    let join = λ (xs : List Entry). append_assoc front (entry_bytes Second e) (bytes_of xs) in
    let one : front ++ bytes_of all ≡ (front ++ entry_bytes Second e) ++ bytes_of (with_sent n es) = ap (λ (xs : List Entry). front ++ bytes_of xs) is ∙ sym (join (with_sent n es)) in (
      subst (λ (xs : List ℕ). place < length xs) (sym one) less,
      ap (λ (xs : List ℕ). set xs place 1) one ∙ same ∙ join (with_sent (suc n) es) ∙ sym (ap (λ (xs : List Entry). front ++ bytes_of xs) next),
    )

first_of : (x place : ℕ) (xs : List ℕ) → slice_get (x ∷ xs) 0 ≡ Some place → place ≡ x
first_of x place xs e = cc

longer : (front : List ℕ) (e : Entry) (k : ℕ) → length (entry_bytes Second e) ≡ k → length (front ++ entry_bytes Second e) ≡ length front + k
longer front e k is = length-append front (entry_bytes Second e) ∙ ap (λ (m : ℕ). length front + m) is

-- the places after an entry
sent_at : (n place start : ℕ) (e : Entry) (es : List Entry) → is_sent e.state ≡ true → slice_get (marks_from start (e ∷ es)) n ≡ Some place
    → slice_get (marks_from (start + length (entry_bytes Second e)) es) n ≡ Some place
sent_at n place start e es is at = rw is at at

left_at : (n place start : ℕ) (e : Entry) (es : List Entry) → is_sent e.state ≡ false → slice_get (marks_from start (e ∷ es)) n ≡ Some place
    → slice_get ((start + 8) ∷ marks_from (start + length (entry_bytes Second e)) es) n ≡ Some place
left_at n place start e es is at = rw is at at

marks : (n place : ℕ) (front : List ℕ) (es : List Entry) → AllByRecursion (λ e. length e.name ≡ 8) es → slice_get (marks_from (length front) es) n ≡ Some place → Marks n place front es
marks n place front [] names at = absurd (cc)
marks zero place front (e ∷ es) names at = elim (cases_Bool (is_sent e.state)) [
  | inl is ↦ over 0 0 place front e es _ _ (kept 0 e es is) (kept 1 e es is)
      (marks 0 place (front ++ entry_bytes Second e) es names.1
      (subst (λ (k : ℕ). slice_get (marks_from k es) 0 ≡ Some place) (sym (longer front e _ refl)) (sent_at 0 place (length front) e es is at)))
  | inr left ↦ (
    inside front (bytes_of es) e place names.0 (first_of _ place (marks_from (length front + length (entry_bytes Second e)) es) (left_at 0 place (length front) e es left at)),
    here front (bytes_of es) e place names.0 (first_of _ place (marks_from (length front + length (entry_bytes Second e)) es) (left_at 0 place (length front) e es left at))
        ∙ ap (λ (xs : List Entry). front ++ bytes_of xs) (sym (made 0 e es left ∙ ap (λ (xs : List Entry). marked e ∷ xs) (none_left es))),
  )
]
marks (suc n) place front (e ∷ es) names at = elim (cases_Bool (is_sent e.state)) [
  | inl is ↦ over (suc n) 0 place front e es _ _ (kept (suc n) e es is) (kept (suc (suc n)) e es is)
      (marks (suc n) place (front ++ entry_bytes Second e) es names.1
      (subst (λ (k : ℕ). slice_get (marks_from k es) (suc n) ≡ Some place) (sym (longer front e _ refl)) (sent_at (suc n) place (length front) e es is at)))
  | inr left ↦ over n 0 place front (marked e) es _ _ (made n e es left) (made (suc n) e es left)
      (marks n place (front ++ entry_bytes Second (marked e)) es names.1
      (subst (λ (k : ℕ). slice_get (marks_from k es) n ≡ Some place) (sym (longer front (marked e) _ (as_long e))) (left_at (suc n) place (length front) e es left at)))
]

-- how many bytes an entry has whose records have so many
pub entry_long : (e : Entry) (n : ℕ) → length e.name ≡ 8 → n ≡ length (flat_map record_bytes e.job.records) → 19 + n ≡ length (entry_bytes Second e)
entry_long e n eight is =
    omega (
      arith,
      eight,
      is,
      ap length (spelled e),
      length-append e.name (state_byte e.state ∷ behind e),
      length-append (bytes_high_first 8 (length e.job.records)) (flat_map record_bytes e.job.records),
    )

-- THE FILE

pub many : (n : ℕ) (es : List Entry) → length (with_sent n es) ≡ length es
many n [] = refl
many zero (e ∷ es) = refl
many (suc n) (e ∷ es) = go (is_sent e.state) (many (suc n) es) (many n es) where
  go : (b : Bool) → length (with_sent (suc n) es) ≡ length es → length (with_sent n es) ≡ length es
      → length (if b then e ∷ with_sent (suc n) es else (marked e ∷ with_sent n es)) ≡ length (e ∷ es)
  go true all rest = ap suc all
  go false all rest = ap suc rest

fits_marked : (e : Entry) → FitsFields Second e → e.job.whole ≡ true → FitsFields Second (marked e)
fits_marked e (few, room, is) whole =
    (few, room, (is.0, rw ((both (is_job_name e.name) (agrees e.state e.job.whole) is.1).0, whole) refl))

abbrev Fit : List Entry → Type 0
Fit es = AllByRecursion (FitsFields Second) es

all_fit : (n : ℕ) (es : List Entry) → AllByRecursion CanPass es → Fit (with_sent n es) → Fit (with_sent (suc n) es)
all_fit n [] pass fit = fit
all_fit zero (e ∷ es) pass fit = elim (cases_Bool (is_sent e.state)) [
  | inl is ↦ subst Fit (sym (kept 1 e es is)) (fit.0, all_fit 0 es pass.1 (subst Fit (sym (none_left es)) fit.1))
  | inr left ↦ subst Fit (sym (made 0 e es left)) (fits_marked e fit.0 (pass.0 left).whole, subst Fit (sym (none_left es)) fit.1)
]
all_fit (suc n) (e ∷ es) pass fit = elim (cases_Bool (is_sent e.state)) [
  | inl is ↦ let parts = subst Fit (kept (suc n) e es is) fit in
      subst Fit (sym (kept (suc (suc n)) e es is)) (parts.0, all_fit (suc n) es pass.1 parts.1)
  | inr left ↦ let parts = subst Fit (made n e es left) fit in
      subst Fit (sym (made (suc n) e es left)) (parts.0, all_fit n es pass.1 parts.1)
]

eight_bytes : (v : FileVersion) (e : Entry) → IsOfVersion v e → length e.name ≡ 8
eight_bytes First e is = ap (λ (x : Entry). length x.name) is
eight_bytes Second e is = is.0

all_named : (v : FileVersion) (es : List Entry) → AllByRecursion (FitsFields v) es → AllByRecursion (λ e. length e.name ≡ 8) es
all_named v [] fit = tt
all_named v (e ∷ es) fit = (eight_bytes v e fit.0.2, all_named v es fit.1)

abbrev pub front_of : ℕ → List ℕ
front_of n = head ++ (version_byte Second ∷ bytes_high_first 8 n)

file_parts : (n : ℕ) (es : List Entry) → file_of Second (with_sent n es) ≡ front_of (length es) ++ bytes_of (with_sent n es)
file_parts n es = ap (λ (k : ℕ). front_of k ++ bytes_of (with_sent n es)) (many n es)

one_more : (n : ℕ) → suc n ≡ n + 1
one_more n = omega arith

marks_file : (entries : List Entry) (pass : AllByRecursion CanPass entries) (file : List ℕ) → HasEntries entries file → AreMarks file (marks_from 14 entries)
marks_file entries pass file (v, has) n place bytes at (others, file_is, sent) =
    let same : others ≡ entries = (one_file file file_is.0 v others entries file_is.1 has).1 in
    let parts = marks n place (front_of (length entries)) entries (all_named v entries has.0.1) at in
    let here : bytes ≡ front_of (length entries) ++ bytes_of (with_sent n entries) = sym sent.1 ∙ ap (λ (es : List Entry). file_of Second (with_sent n es)) same ∙ file_parts n entries in
    let made : AreForFile Second (with_sent (suc n) entries) = (
      omega (arith, many n others, many (suc n) entries, sent.0.0, ap (λ (es : List Entry). length es) same),
      all_fit n entries pass (subst (λ (es : List Entry). AllByRecursion (FitsFields Second) (with_sent n es)) same sent.0.1),
    ) in
    let written : file_of Second (with_sent (suc n) entries) ≡ set bytes place 1 = file_parts (suc n) entries ∙ sym parts.1 ∙ ap (λ (xs : List ℕ). set xs place 1) (sym here) in (
      subst (λ (xs : List ℕ). place < length xs) (sym here) parts.0,
      subst (λ (k : ℕ). IsSentFile file k (set bytes place 1)) (one_more n) (entries, (v, has), (made, written)),
    )

-- ONE ENTRY AFTER ANOTHER

-- an entry that was sent has no mark
pub passes : (xs : List Entry) (i start next : ℕ) (d x : Entry) (places all : List ℕ) → x ≡ get_or xs i d → i < length xs → is_sent x.state ≡ true
    → next ≡ start + length (entry_bytes Second x) → places ++ marks_from start (drop i xs) ≡ all → places ++ marks_from next (drop (i + 1) xs) ≡ all
passes xs i start next d x places all is less sent behind e =
    let split : drop i xs ≡ x ∷ drop (i + 1) xs = drop_more xs i d less ∙ ap (λ (y : Entry). y ∷ drop (i + 1) xs) (sym is) in
    let step : marks_from start (x ∷ drop (i + 1) xs) ≡ marks_from next (drop (i + 1) xs) = rw (sent, behind) refl in
    ap (λ (ys : List ℕ). places ++ ys) (sym step) ∙ ap (λ (ys : List Entry). places ++ marks_from start ys) (sym split) ∙ e

-- one that was not has one
pub adds : (xs : List Entry) (i start next : ℕ) (d x : Entry) (places longer all : List ℕ) → x ≡ get_or xs i d → i < length xs → is_sent x.state ≡ false
    → next ≡ start + length (entry_bytes Second x) → longer ≡ places ++ (start + 8) ∷ [] → places ++ marks_from start (drop i xs) ≡ all → longer ++ marks_from next (drop (i + 1) xs) ≡ all
adds xs i start next d x places longer all is less sent behind more e =
    let split : drop i xs ≡ x ∷ drop (i + 1) xs = drop_more xs i d less ∙ ap (λ (y : Entry). y ∷ drop (i + 1) xs) (sym is) in
    let rest : List ℕ = marks_from next (drop (i + 1) xs) in
    let step : marks_from start (x ∷ drop (i + 1) xs) ≡ (start + 8) ∷ rest = rw (sent, behind) refl in
    ap (λ (ys : List ℕ). ys ++ rest) more ∙ append_assoc places ((start + 8) ∷ []) rest ∙ ap (λ (ys : List ℕ). places ++ ys) (sym step)
    ∙ ap (λ (ys : List Entry). places ++ marks_from start ys) (sym split) ∙ e

-- after the last one all are there
pub all_there : (xs : List Entry) (i start : ℕ) (places : List ℕ) → length xs ≤ i → places ++ marks_from start (drop i xs) ≡ marks_from 14 xs → places ≡ marks_from 14 xs
all_there xs i start places past e =
    sym (append-nil places) ∙ ap (λ (ys : List Entry). places ++ marks_from start ys) (sym (drop_all i xs past)) ∙ e

pub each_there : (xs : List Entry) (places : List ℕ) → places ≡ marks_from 14 xs → length places ≡ length (unsent xs)
each_there xs places is = ap length is ∙ each 14 xs

front_long : (es : List Entry) → length (file_of Second es) ≡ 14 + length (bytes_of es)
front_long es = length-append (front_of (length es)) (bytes_of es)

stand : (xs : List Entry) → AreStatePlaces xs (marks_from 14 xs)
stand xs before after e is left =
    ap (λ (ys : List Entry). slice_get (marks_from 14 ys) (length (unsent before))) is ∙ stands before after e 14 left
    ∙ ap (λ (n : ℕ). Some (n + 8)) (sym (front_long before))

pub stand_there : (xs : List Entry) (places : List ℕ) → places ≡ marks_from 14 xs → AreStatePlaces xs places
stand_there xs places is = subst (AreStatePlaces xs) (sym is) (stand xs)

pub marks_there : (xs : List Entry) (places file : List ℕ) → places ≡ marks_from 14 xs → HasEntries xs file → All CanPass xs → AreMarks file places
marks_there xs places file is has pass = subst (AreMarks file) (sym is) (marks_file xs (recursion_from_All CanPass xs pass) file has)
