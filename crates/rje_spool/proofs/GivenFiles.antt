-- The file that a job of a transmission is of.
use Rattle.std.proofs.Common.{◌≡◌, ◌∙◌, ℕ, List, Result, Ok, Err, Option, Some, ap, subst, sym, position, slice_get, slice_set, slice_index_or, unwrap_or, OnErr, OnOk}
use Rattle.std.proofs.lemmas.Option.{get_or_from_slice_get}
use Rattle.rje_spool.specs.declared.given_file.GivenFile.{GivenFile}
use Rattle.rje_spool.specs.GivenFiles.{OfFile, is_of}

-- the file at the place that was found, as it was found and as it is put back
of_found : (job : ℕ) (Holds : GivenFile → GivenFile → Type 0) (files : List GivenFile) (at : ℕ) (found now : GivenFile)
    → position (is_of job) files ≡ Some at → found ≡ slice_index_or files at found → Holds found now → OfFile job Holds files (slice_set files at now)
of_found job Holds files at found now here is holds place file there stands =
    let same : at ≡ place = ap (λ (o : Option ℕ). unwrap_or o 0) (sym here ∙ there) in
    let known : found ≡ file = is ∙ get_or_from_slice_get files at file found (subst (λ (n : ℕ). slice_get files n ≡ Some file) (sym same) stands) in
    (now, ap (λ (n : ℕ). slice_set files n now) same, subst (λ (f : GivenFile). Holds f now) known holds)

pub of_found_ok : {A E : Type 0} (r : Result A E) (job : ℕ) (Holds : GivenFile → GivenFile → Type 0) (files : List GivenFile) (at : ℕ) (found now : GivenFile)
    → position (is_of job) files ≡ Some at → found ≡ slice_index_or files at found → OnOk r (Holds found now) → OnOk r (OfFile job Holds files (slice_set files at now))
of_found_ok (Ok x) job Holds files at found now here is holds = of_found job Holds files at found now here is holds
of_found_ok (Err e) job Holds files at found now here is holds = holds

pub of_found_err : {A E : Type 0} (r : Result A E) (job : ℕ) (Holds : GivenFile → GivenFile → Type 0) (files : List GivenFile) (at : ℕ) (found now : GivenFile)
    → position (is_of job) files ≡ Some at → found ≡ slice_index_or files at found → OnErr r (Holds found now) → OnErr r (OfFile job Holds files (slice_set files at now))
of_found_err (Ok x) job Holds files at found now here is holds = holds
of_found_err (Err e) job Holds files at found now here is holds = of_found job Holds files at found now here is holds

-- what holds of a call that failed
pub where_err : {A E : Type 0} (r : Result A E) (Holds : Type 0) → Holds → OnErr r Holds
where_err (Ok x) Holds holds = tt
where_err (Err e) Holds holds = holds
