-- Which entries have a file: received ones, those of a file, and these when those are made Sent that can be.
use Rattle.std.proofs.Common.{◌≡◌, inl, inr, ℕ, zero, suc, ◌+◌, Bool, true, false, List, [], ◌∷◌, length, map, take, Some, None, Result, Ok, Err, IfErr, if◌then◌else◌, refl, ap, sym, ◌∙◌, subst, arith}
use Rattle.std.proofs.lemmas.Bool.{cases_Bool}
use Rattle.std.proofs.lemmas.List.{append-nil}
use Rattle.std.proofs.Math.Seq.{take-length}
use Rattle.std.proofs.lemmas.List.Elements.{recursion_from_All}
use Rattle.std.specs.List.{AllByRecursion}
use Rattle.rje_jobs.specs.declared.job.Job.{Job}
use Rattle.rje_jobs.specs.declared.file_fault.FileFault.{FileFault}
use Rattle.rje_jobs.specs.declared.file_fault.FileFault.TheVariants.{OutOfMemory}
use Rattle.rje_files.specs.declared.entry.State.TheVariants.{Sent, Whole, Cut}
use Rattle.rje_files.specs.declared.entry.Entry.{Entry}
use Rattle.rje_files.specs.declared.job_file.version.FileVersion.{FileVersion}
use Rattle.rje_files.specs.declared.job_file.version.FileVersion.TheVariants.{First, Second}
use Rattle.rje_files.specs.Entry.{agrees, bad_entry_from, entry_of, is_entry, is_job_name}
use Rattle.rje_files.specs.FileFault.{IsEntryFault, IsFileFault}
use Rattle.rje_files.specs.JobFile.{FitsFields, HasEntries, IsEntryFile, IsOfVersion}
use Rattle.rje_files.specs.Unsent.{CanPass, IsLeft, IsSentFault, is_sent, with_sent}
use Rattle.rje_files.proofs.OneFault.{one_fault, one_refusal}
use Rattle.rje_files.proofs.OneFile.{one_file}
use Rattle.rje_files.proofs.Sent.{kept, made}
use Rattle.rje_text.proofs.Both.{both}

abbrev pub IsGoodEntry : Entry → Type 0
IsGoodEntry e = is_entry e ≡ true

abbrev pub AreGood : List Entry → Type 0
AreGood es = AllByRecursion IsGoodEntry es

-- where each is good, none is reported as bad
pub none_bad : (k : ℕ) (es : List Entry) → AreGood es → bad_entry_from k es ≡ None
none_bad k [] good = refl
none_bad k (e ∷ es) good = ap (λ (b : Bool). if b then bad_entry_from (k + 1) es else Some k) good.0 ∙ none_bad (k + 1) es good.1

-- a received job has a name and a state that agrees
pub received : (job : Job) → IsGoodEntry (entry_of job)
received job = go job.whole where
  go : (b : Bool) → agrees (if b then Whole else Cut) b ≡ true
  go true = refl
  go false = refl

pub all_received : (jobs : List Job) → AreGood (map entry_of jobs)
all_received [] = tt
all_received (job ∷ jobs) = (received job, all_received jobs)

-- the entries of a file
of_version : (v : FileVersion) (e : Entry) → IsOfVersion v e → IsGoodEntry e
of_version First e is = subst IsGoodEntry (sym is) (received e.job)
of_version Second e is = is.1

all_of_version : (v : FileVersion) (es : List Entry) → AllByRecursion (FitsFields v) es → AreGood es
all_of_version v [] fit = tt
all_of_version v (e ∷ es) fit = (of_version v e fit.0.2, all_of_version v es fit.1)

pub good_sent : (e : Entry) → IsGoodEntry e → e.job.whole ≡ true → IsGoodEntry (record e { state = Sent })
good_sent e good whole = rw ((both (is_job_name e.name) (agrees e.state e.job.whole) good).0, whole) refl

all_sent : (n : ℕ) (es : List Entry) → AllByRecursion CanPass es → AreGood es → AreGood (with_sent n es)
all_sent n [] pass good = tt
all_sent zero (e ∷ es) pass good = good
all_sent (suc n) (e ∷ es) pass good = elim (cases_Bool (is_sent e.state)) [
  | inl is ↦ subst AreGood (sym (kept (suc n) e es is)) (good.0, all_sent (suc n) es pass.1 good.1)
  | inr left ↦ subst AreGood (sym (made n e es left)) (good_sent e good.0 (pass.0 left).whole, all_sent n es pass.1 good.1)
]

-- a file has no fault but out of memory
file_alone : (file : List ℕ) → IsEntryFile file → IsFileFault IsEntryFile file OutOfMemory
file_alone file is =
    let all : take (length file) file ≡ file = take-length file in (
      length file,
      record {
        within = omega arith;
        begins = ([], subst IsEntryFile (sym (append-nil (take (length file) file) ∙ all)) is);
        stops = λ less more. absurd (omega (arith, less));
      },
      is,
    )

pub memory_alone : (file : List ℕ) (f : FileFault) → IsEntryFile file → IsFileFault IsEntryFile file f → f ≡ OutOfMemory
memory_alone file f is told = one_fault IsEntryFile file f OutOfMemory told (file_alone file is)

-- nor where what is left of it is made Sent
pub sent_alone : (file : List ℕ) (jobs : List Job) (n : ℕ) (f : FileFault) → IsLeft file jobs → IsSentFault file n f → f ≡ OutOfMemory
sent_alone file jobs n f (entries, (v, has), pass, is) (inl told) = memory_alone file f (v, entries, has) told
sent_alone file jobs n f (entries, (v, has), pass, is) (inr (others, (w, had), told)) =
    let same : others ≡ entries = (one_file file w v others entries had has).1 in
    let good : AreGood (with_sent n entries) = all_sent n entries (recursion_from_All CanPass entries pass) (all_of_version v entries has.0.1) in
    one_refusal (with_sent n entries) f OutOfMemory (subst (λ (es : List Entry). IsEntryFault (with_sent n es) f) same told) (none_bad 1 (with_sent n entries) good)

pub none_else : {X : Type 0} (r : Result X FileFault) (file : List ℕ) (n : ℕ) → IfErr r (λ f. IsFileFault IsEntryFile file f)
    → IfErr r (λ f. (jobs : List Job) → IsLeft file jobs → f ≡ OutOfMemory)
none_else (Ok x) file n told = tt
none_else (Err f) file n told = λ jobs left. sent_alone file jobs n f left (inl told)

pub none_behind : {X : Type 0} (r : Result X FileFault) (file : List ℕ) (n : ℕ) (entries sent : List Entry) → HasEntries entries file → sent ≡ with_sent n entries
    → IfErr r (λ f. IsEntryFault sent f) → IfErr r (λ f. (jobs : List Job) → IsLeft file jobs → f ≡ OutOfMemory)
none_behind (Ok x) file n entries sent has is told = tt
none_behind (Err f) file n entries sent has is told = λ jobs left.
    sent_alone file jobs n f left (inr (entries, has, subst (λ (es : List Entry). IsEntryFault es f) is told))
