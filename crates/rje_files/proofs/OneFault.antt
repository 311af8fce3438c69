-- At most one fault is reported for bytes.
use Rattle.std.proofs.Common.{◌≡◌, ℕ, ◌+◌, ◌<◌, ◌≤◌, List, ◌++◌, length, take, drop, refl, ap, sym, ◌∙◌, subst, arith, Option, Some, None, ⊎_elim}
use Rattle.std.proofs.lemmas.List.{append_assoc, take-append-drop, take-take}
use Rattle.std.proofs.lemmas.Bool.{cases_lt}
use Rattle.rje_jobs.specs.declared.file_fault.FileFault.{FileFault}
use Rattle.rje_jobs.specs.declared.file_fault.FileFault.TheVariants.{OutOfMemory, NotJobFile, Version, Truncated, BadField, Trailing, BadEntry}
use Rattle.rje_files.specs.declared.entry.Entry.{Entry}
use Rattle.rje_files.specs.Entry.{bad_entry}
use Rattle.rje_files.specs.FileFault.{Begins, IsLongest, IsFaultAt, IsFileFault, IsEntryFault}

module _ (IsFile : List ℕ → Type 0) (bytes : List ℕ) where
  -- what begins a file begins one when it is cut
  shorter : (p q : ℕ) → p ≤ q → Begins IsFile (take q bytes) → Begins IsFile (take p bytes)
  shorter p q l h =
      let both : take p (take q bytes) ++ drop p (take q bytes) ≡ take q bytes = take-append-drop p (take q bytes) in
      let cut : take p (take q bytes) ≡ take p bytes = take-take p q bytes l in
      let whole : take p bytes ++ (drop p (take q bytes) ++ h.0) ≡ take q bytes ++ h.0 =
      sym (append_assoc (take p bytes) (drop p (take q bytes)) h.0) ∙ ap (λ (xs : List ℕ). (xs ++ drop p (take q bytes)) ++ h.0) (sym cut) ∙ ap (λ (xs : List ℕ). xs ++ h.0) both in
      (drop p (take q bytes) ++ h.0, subst IsFile (sym whole) h.1)

  no_longer : (p q : ℕ) → IsLongest IsFile bytes p → IsLongest IsFile bytes q → p < q → ⊥
  no_longer p q h k l = h.stops (omega (arith, k.within)) (shorter (p + 1) q (omega arith) k.begins)

  -- there is one longest prefix
  one_longest : (p q : ℕ) → IsLongest IsFile bytes p → IsLongest IsFile bytes q → p ≡ q
  one_longest p q h k =
      ⊎_elim (λ (l : p < q). absurd (no_longer p q h k l))
      (λ (l : q ≤ p). ⊎_elim (λ (m : q < p). absurd (no_longer q p k h m)) (λ (m : p ≤ q). omega arith) (cases_lt q p))
      (cases_lt p q)

  -- of a file that is all bytes
  file_ends : (p : ℕ) → IsLongest IsFile bytes p → IsFile bytes → p < length bytes → ⊥
  file_ends p h file l = h.stops l (drop (p + 1) bytes, subst IsFile (sym (take-append-drop (p + 1) bytes)) file)

  cut_short : (p at : ℕ) → IsFaultAt IsFile bytes p (Truncated at) → p < length bytes → (p ≡ 4) × (length bytes ≡ 5)
  cut_short p at h l = ⊎_elim (λ (w : (p ≡ length bytes) × (IsFile bytes → ⊥)). absurd (omega (arith, w.0, l))) (λ (w : (p ≡ 4) × (length bytes ≡ 5)). w) h.1

  is_no_file : (p : ℕ) → IsLongest IsFile bytes p → (at : ℕ) → IsFaultAt IsFile bytes p (Truncated at) → IsFile bytes → ⊥
  is_no_file p k at h file =
      ⊎_elim (λ (w : (p ≡ length bytes) × (IsFile bytes → ⊥)). w.1 file) (λ (w : (p ≡ 4) × (length bytes ≡ 5)). file_ends p k file (omega (arith, w.0, w.1))) h.1

  one_at : (p : ℕ) → IsLongest IsFile bytes p → (f g : FileFault) → IsFaultAt IsFile bytes p f → IsFaultAt IsFile bytes p g → f ≡ g
  one_at p h OutOfMemory OutOfMemory f g = refl
  one_at p h OutOfMemory NotJobFile f g = absurd (file_ends p h f g.1)
  one_at p h OutOfMemory (Version m) f g = absurd (file_ends p h f g.3)
  one_at p h OutOfMemory (Truncated m) f g = absurd (is_no_file p h m g f)
  one_at p h OutOfMemory (BadField m) f g = absurd (file_ends p h f g.2)
  one_at p h OutOfMemory (Trailing m) f g = absurd (file_ends p h f g.2)
  one_at p h OutOfMemory (BadEntry m) f g = absurd g
  one_at p h NotJobFile OutOfMemory f g = absurd (file_ends p h g f.1)
  one_at p h NotJobFile NotJobFile f g = refl
  one_at p h NotJobFile (Version m) f g = absurd (omega (arith, f.0, g.0))
  one_at p h NotJobFile (Truncated m) f g = absurd (omega (arith, f.0, (cut_short p m g f.1).0))
  one_at p h NotJobFile (BadField m) f g = absurd (omega (arith, f.0, g.1))
  one_at p h NotJobFile (Trailing m) f g = absurd (omega (arith, f.0, g.1))
  one_at p h NotJobFile (BadEntry m) f g = absurd g
  one_at p h (Version n) OutOfMemory f g = absurd (file_ends p h g f.3)
  one_at p h (Version n) NotJobFile f g = absurd (omega (arith, g.0, f.0))
  one_at p h (Version n) (Version m) f g = ap Version (f.4 ∙ sym g.4)
  one_at p h (Version n) (Truncated m) f g = absurd (omega (arith, f.2, (cut_short p m g f.3).1))
  one_at p h (Version n) (BadField m) f g = absurd (omega (arith, f.1, g.1))
  one_at p h (Version n) (Trailing m) f g = absurd (omega (arith, f.1, g.1))
  one_at p h (Version n) (BadEntry m) f g = absurd g
  one_at p h (Truncated n) OutOfMemory f g = absurd (is_no_file p h n f g)
  one_at p h (Truncated n) NotJobFile f g = absurd (omega (arith, g.0, (cut_short p n f g.1).0))
  one_at p h (Truncated n) (Version m) f g = absurd (omega (arith, g.2, (cut_short p n f g.3).1))
  one_at p h (Truncated n) (Truncated m) f g = ap Truncated (f.0 ∙ sym g.0)
  one_at p h (Truncated n) (BadField m) f g = absurd (omega (arith, g.1, (cut_short p n f g.2).0))
  one_at p h (Truncated n) (Trailing m) f g = absurd (omega (arith, g.1, (cut_short p n f g.2).0))
  one_at p h (Truncated n) (BadEntry m) f g = absurd g
  one_at p h (BadField n) OutOfMemory f g = absurd (file_ends p h g f.2)
  one_at p h (BadField n) NotJobFile f g = absurd (omega (arith, g.0, f.1))
  one_at p h (BadField n) (Version m) f g = absurd (omega (arith, g.1, f.1))
  one_at p h (BadField n) (Truncated m) f g = absurd (omega (arith, f.1, (cut_short p m g f.2).0))
  one_at p h (BadField n) (BadField m) f g = ap BadField (f.0 ∙ sym g.0)
  one_at p h (BadField n) (Trailing m) f g = absurd (f.3 g.3)
  one_at p h (BadField n) (BadEntry m) f g = absurd g
  one_at p h (Trailing n) OutOfMemory f g = absurd (file_ends p h g f.2)
  one_at p h (Trailing n) NotJobFile f g = absurd (omega (arith, g.0, f.1))
  one_at p h (Trailing n) (Version m) f g = absurd (omega (arith, g.1, f.1))
  one_at p h (Trailing n) (Truncated m) f g = absurd (omega (arith, f.1, (cut_short p m g f.2).0))
  one_at p h (Trailing n) (BadField m) f g = absurd (g.3 f.3)
  one_at p h (Trailing n) (Trailing m) f g = ap Trailing (f.0 ∙ sym g.0)
  one_at p h (Trailing n) (BadEntry m) f g = absurd g
  one_at p h (BadEntry n) other f g = absurd f

  pub one_fault : (f g : FileFault) → IsFileFault IsFile bytes f → IsFileFault IsFile bytes g → f ≡ g
  one_fault f g h k = one_at h.0 h.1 f g h.2 (subst (λ (p : ℕ). IsFaultAt IsFile bytes p g) (one_longest k.0 h.0 k.1 h.1) k.2)

-- and one of entries
some_number : (m n : ℕ) (o : Option ℕ) → o ≡ Some m → o ≡ Some n → m ≡ n
some_number m n o e f = cc

no_number : (n : ℕ) (o : Option ℕ) → o ≡ None → o ≡ Some n → ⊥
no_number n o e f = cc

pub one_refusal : (entries : List Entry) (f g : FileFault) → IsEntryFault entries f → IsEntryFault entries g → f ≡ g
one_refusal es OutOfMemory OutOfMemory f g = refl
one_refusal es OutOfMemory NotJobFile f g = absurd g
one_refusal es OutOfMemory (Version m) f g = absurd g
one_refusal es OutOfMemory (Truncated m) f g = absurd g
one_refusal es OutOfMemory (BadField m) f g = absurd g
one_refusal es OutOfMemory (Trailing m) f g = absurd g
one_refusal es OutOfMemory (BadEntry m) f g = absurd (no_number m (bad_entry es) f g)
one_refusal es NotJobFile other f g = absurd f
one_refusal es (Version n) other f g = absurd f
one_refusal es (Truncated n) other f g = absurd f
one_refusal es (BadField n) other f g = absurd f
one_refusal es (Trailing n) other f g = absurd f
one_refusal es (BadEntry n) OutOfMemory f g = absurd (no_number n (bad_entry es) g f)
one_refusal es (BadEntry n) NotJobFile f g = absurd g
one_refusal es (BadEntry n) (Version m) f g = absurd g
one_refusal es (BadEntry n) (Truncated m) f g = absurd g
one_refusal es (BadEntry n) (BadField m) f g = absurd g
one_refusal es (BadEntry n) (Trailing m) f g = absurd g
one_refusal es (BadEntry n) (BadEntry m) f g = ap BadEntry (some_number n m (bad_entry es) f g)
