-- Which of the jobs that came are kept (own profile).
use Rattle.std.specs.Prelude.{◌≡◌, ℕ, zero, suc, ◌+◌, true, false, List, [], ◌∷◌, Option, Some, None, if◌then◌else◌}
use Rattle.rje_jobs.specs.declared.job.Job.{Job}
use Rattle.rje_session.specs.Ledger.{Entry, Kept, KeptCut}

-- so many of the jobs are kept: all of them, but for one that is begun and stands last
abbrev pub AreKept : ℕ → List Job → Type 0
AreKept zero [] = Unit {0}
AreKept zero (j ∷ jobs) = (j.whole ≡ false) × (jobs ≡ [])
AreKept (suc n) [] = ⊥
AreKept (suc n) (j ∷ jobs) = (j.whole ≡ true) × AreKept n jobs

-- this is entered where the next job is there and came whole
abbrev pub keeping : Option Job → List Entry
keeping None = []
keeping (Some job) = if job.whole then Kept job ∷ [] else []

-- and so many are kept then
abbrev pub kept_with : ℕ → Option Job → ℕ
kept_with kept None = kept
kept_with kept (Some job) = if job.whole then kept + 1 else kept

-- this is entered where a job is left that was cut
abbrev pub cutting : Option Job → List Entry
cutting None = []
cutting (Some job) = if job.whole then [] else KeptCut job ∷ []
