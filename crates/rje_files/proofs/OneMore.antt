-- One more entry at the end of a file.
use Rattle.std.proofs.Common.{◌≡◌, ℕ, ◌+◌, ◌<◌, ◌-◌, ◌^◌, List, [], ◌∷◌, ◌++◌, length, Result, Ok, Err, OnOk, ap, sym, ◌∙◌, arith, length-append}
use Rattle.std.proofs.lemmas.List.{append-nil}
use Rattle.std.proofs.lemmas.Grind.{flat_map-append}
use Rattle.std.specs.List.{flat_map, AllByRecursion}
use Rattle.std.specs.Int.{bytes_high_first}
use Rattle.rje_files.specs.declared.entry.Entry.{Entry}
use Rattle.rje_files.specs.declared.job_file.version.FileVersion.TheVariants.{Second}
use Rattle.rje_files.specs.JobFile.{FitsFields, entry_bytes, file_of, head, version_byte}
use Rattle.rje_files.specs.Growth.{grown, GrowsBy}

all_append : {X : Type 0} (P : X → Type 0) (xs : List X) (x : X) → AllByRecursion P xs → P x → AllByRecursion P (xs ++ x ∷ [])
all_append P [] x all p = (p, tt)
all_append P (y ∷ ys) x all p = (all.0, all_append P ys x all.1 p)

abbrev front_of : ℕ → List ℕ
front_of n = head ++ (version_byte Second ∷ bytes_high_first 8 n)

one_more : (es : List Entry) (e : Entry) → grown (front_of (length es + 1)) (entry_bytes Second e) (file_of Second es) ≡ file_of Second (es ++ e ∷ [])
one_more es e =
    ap (λ (n : ℕ). head ++ (version_byte Second ∷ (bytes_high_first 8 n ++ (flat_map (entry_bytes Second) es ++ entry_bytes Second e)))) (sym (length-append es (e ∷ [])))
    ∙ ap (λ (xs : List ℕ). head ++ (version_byte Second ∷ (bytes_high_first 8 (length (es ++ e ∷ [])) ++ xs)))
    (ap (λ (xs : List ℕ). flat_map (entry_bytes Second) es ++ xs) (sym (append-nil (entry_bytes Second e))) ∙ sym (flat_map-append (entry_bytes Second) es (e ∷ [])))

pub grows : (count : ℕ) (e : Entry) (front tail : List ℕ) → count < 2 ^ 64 - 1 → front ≡ front_of (count + 1) → tail ≡ entry_bytes Second e → FitsFields Second e → GrowsBy count e front tail
grows count e front tail few f t fit es bytes long (are, file) = (
  (omega (arith, long, few, length-append es (e ∷ [])), all_append (FitsFields Second) es e are.1 fit),
  sym (one_more es e) ∙ ap (λ (n : ℕ). grown (front_of (n + 1)) (entry_bytes Second e) (file_of Second es)) long
      ∙ ap (λ (xs : List ℕ). grown xs (entry_bytes Second e) (file_of Second es)) (sym f) ∙ ap (λ (xs : List ℕ). grown front xs (file_of Second es)) (sym t) ∙ ap (grown front tail) file,
)

front_is : (count : ℕ) (old front : List ℕ) → old ≡ [] → front ++ [] ≡ old ++ (front_of (count + 1) ++ []) → front ≡ front_of (count + 1)
front_is count old front none f = sym (append-nil front) ∙ f ∙ ap (λ (xs : List ℕ). xs ++ (front_of (count + 1) ++ [])) none ∙ append-nil (front_of (count + 1))

-- written to two new buffers
pub growth_written : {X E : Type 0} (r : Result X E) (count : ℕ) (e : Entry) (old_front front old_tail tail : List ℕ) → count < 2 ^ 64 - 1 → old_front ≡ [] → old_tail ≡ []
    → front ++ [] ≡ old_front ++ (front_of (count + 1) ++ []) → OnOk r (tail ≡ old_tail ++ entry_bytes Second e) → OnOk r (FitsFields Second e) → OnOk r (GrowsBy count e front tail)
growth_written (Err x) count e old_front front old_tail tail few no_front no_tail f t fit = tt
growth_written (Ok x) count e old_front front old_tail tail few no_front no_tail f t fit =
    grows count e front tail few (front_is count old_front front no_front f) (t ∙ ap (λ (xs : List ℕ). xs ++ entry_bytes Second e) no_tail) fit

pub front_long : {X E : Type 0} (r : Result X E) (count : ℕ) (old front : List ℕ) → old ≡ [] → front ++ [] ≡ old ++ (front_of (count + 1) ++ []) → OnOk r (length front ≡ 14)
front_long (Err x) count old front none f = tt
front_long (Ok x) count old front none f = ap length (front_is count old front none f)
