-- The first job that can't be sent.
use Rattle.std.proofs.Common.{◌≡◌, ℕ, zero, suc, ◌+◌, ◌<◌, List, [], ◌∷◌, ◌++◌, length, take, drop, get_or, ap, sym, ◌∙◌, subst, arith, add-one, length-take}
use Rattle.std.specs.List.{AllByRecursion}
use Rattle.std.proofs.lemmas.List.{take-append-drop, drop_more}
use Rattle.rje_jobs.specs.declared.job.Job.{Job}
use Rattle.rje_jobs.specs.Fitting.{JobFits}
use Rattle.rje_station.specs.StationFault.{IsFirstUnfit}

-- jobs that can be sent up to this place, and one more
pub fit_on : (jobs : List Job) (i : ℕ) (job : Job) → AllByRecursion JobFits (take i jobs) → i < length jobs → job ≡ get_or jobs i job → JobFits job → AllByRecursion JobFits (take (i + 1) jobs)
fit_on jobs i job h l e f = subst (λ n. AllByRecursion JobFits (take n jobs)) (sym (add-one i)) (on jobs i h l e)
  where
    on : (js : List Job) (n : ℕ) → AllByRecursion JobFits (take n js) → n < length js → job ≡ get_or js n job → AllByRecursion JobFits (take (suc n) js)
    on [] n a b g = absurd (omega (arith, b))
    on (k ∷ js) zero a b g = (rw (← g) f, tt)
    on (k ∷ js) (suc n) a b g = (a.0, on js n a.1 (omega (arith, b)) g)

pub unfit_at : (jobs : List Job) (i : ℕ) (job : Job) → AllByRecursion JobFits (take i jobs) → i < length jobs → job ≡ get_or jobs i job → (JobFits job → ⊥) → IsFirstUnfit jobs (i + 1)
unfit_at jobs i job h l e n = record {
  before = take i jobs;
  job = job;
  after = drop (i + 1) jobs;
  whole = sym (take-append-drop i jobs) ∙ ap (λ js. take i jobs ++ js) (drop_more jobs i job l ∙ ap (λ j. j ∷ drop (i + 1) jobs) (sym e));
  number_is = omega (arith, length-take i jobs);
  fit = h;
  unfit = n;
}
