-- Several runs of the same jobs, one after another.
use Rattle.std.proofs.Common.{◌≡◌, inl, inr, ℕ, zero, suc, ◌+◌, ◌<◌, ◌≤◌, Bool, true, List, [], ◌∷◌, ◌++◌, length, map, take, drop, filter, get_or, slice_get, Some, option_map, Vec, Global, if◌then◌else◌, refl, ap, sym, ◌∙◌, subst, arith, add-one, append_assoc, length-append, length-drop}
use Rattle.std.specs.List.{AllByRecursion}
use Rattle.std.proofs.Math.Seq.{take-add}
use Rattle.std.proofs.lemmas.List.{take-append-drop, take-append-le, take_at, length-take-le, flat_map_more}
use Rattle.std.proofs.lemmas.List.Elements.{filter-append, All-drop, All-from_recursion, recursion_from_All}
use Rattle.std.proofs.lemmas.List.Sums.{sum_by_push}
use Rattle.std.proofs.lemmas.Bool.{cases_lt}
use Rattle.std.proofs.lemmas.Option.{slice_get_within, slice_get_read, slice_get-map}
use Rattle.bsc_link.specs.declared.sound.Sound.{Sound}
use Rattle.rje_jobs.specs.declared.job.Job.{Job}
use Rattle.rje_jobs.specs.Blocks.{blocks}
use Rattle.rje_jobs.specs.Fitting.{JobFits}
use Rattle.rje_station.specs.StationFault.{IsFirstUnfit}
use Rattle.line_world.specs.declared.fate.Fate.{Fate}
use Rattle.line_world.specs.declared.report.Report.{Report}
use Rattle.line_world.specs.declared.series.Series.{Series}
use Rattle.bsc_history.specs.declared.sound_turn.SoundTurn.{SoundTurn}
use Rattle.line_world.specs.declared.turn.Turn.{Turn}
use Rattle.line_world.specs.declared.world_fault.WorldFault.{WorldFault}
use Rattle.line_world.specs.Damage.{HasBadCut, IsNoDamage}
use Rattle.line_world.specs.Faults.{fault_in}
use Rattle.line_world.specs.Headline.{AreHandedWhole}
use Rattle.line_world.specs.Run.{BreaksFirst, IsRunFault}
use Rattle.line_world.specs.Series.{handed_in, counted_in, left_by, IsReportOf, AreRuns, IsSubsequenceOf, BreaksInAttempt, IsSeriesFault}
use Rattle.line_world.proofs.Telling.{get_seam, take_one}

-- ---- Subsequences.

-- of what stands behind others
ahead : (jobs more all : List Job) → IsSubsequenceOf jobs all → IsSubsequenceOf jobs (more ++ all)
ahead [] more all s = tt
ahead (j ∷ js) more all s = (more ++ s.0, (s.1.0, ap (λ xs. more ++ xs) s.1.1 ∙ sym (append_assoc more s.0 (j ∷ s.1.0)), s.1.2))

-- two of two lists that are joined
beside : (jobs others all more : List Job) → IsSubsequenceOf jobs all → IsSubsequenceOf others more → IsSubsequenceOf (jobs ++ others) (all ++ more)
beside [] others all more s t = ahead others all more t
beside (j ∷ js) others all more s t =
    (s.0, (s.1.0 ++ more, ap (λ xs. xs ++ more) s.1.1 ∙ append_assoc s.0 (j ∷ s.1.0) more, beside js others s.1.0 more s.1.2 t))

-- of what begins with them
beginning : (jobs rest : List Job) → IsSubsequenceOf jobs (jobs ++ rest)
beginning [] rest = tt
beginning (j ∷ js) rest = ([], (js ++ rest, refl, beginning js rest))

-- ---- The counted jobs.

-- whole jobs pass the filter
kept : (whole : Bool) (job : Job) (jobs : List Job) → whole ≡ true → (if whole then job ∷ jobs else jobs) ≡ job ∷ jobs
kept whole job jobs e = rw e refl

all_whole : (jobs : List Job) → AllByRecursion (λ job. job.whole ≡ true) jobs → filter (λ job. job.whole) jobs ≡ jobs
all_whole [] a = refl
all_whole (j ∷ js) a = kept j.whole j (filter (λ job. job.whole) js) a.0 ∙ ap (λ xs. j ∷ xs) (all_whole js a.1)

-- the counted jobs are among the whole ones that one run hands out
counted_handed : (counted : ℕ) (given handed : List Job) → AreHandedWhole counted given handed → IsSubsequenceOf (take counted given) (filter (λ job. job.whole) handed)
counted_handed counted given handed h =
    let rest : List Job = filter (λ job. job.whole) (drop counted handed) in
    let first : filter (λ job. job.whole) (take counted handed) ≡ take counted given = all_whole (take counted handed) h.whole ∙ h.same in
    let split : filter (λ job. job.whole) handed ≡ take counted given ++ rest =
    ap (filter (λ job. job.whole)) (sym (take-append-drop counted handed))
    ∙ filter-append (λ job. job.whole) (take counted handed) (drop counted handed)
    ∙ ap (λ xs. xs ++ rest) first in
    subst (IsSubsequenceOf (take counted given)) (sym split) (beginning (take counted given) rest)

-- and so are those of one more run, which is given the jobs that aren't counted
counted_more : (jobs handed more : List Job) (n counted : ℕ) → IsSubsequenceOf (take n jobs) (filter (λ job. job.whole) handed) → AreHandedWhole counted (drop n jobs) more
    → IsSubsequenceOf (take (n + counted) jobs) (filter (λ job. job.whole) (handed ++ more))
counted_more jobs handed more n counted s h =
    rw (take-add n counted jobs, filter-append (λ job. job.whole) handed more)
    (beside (take n jobs) (take counted (drop n jobs)) (filter (λ job. job.whole) handed) (filter (λ job. job.whole) more) s (counted_handed counted (drop n jobs) more h))

-- ---- Jobs that can be sent.

pub all_fit_behind : (n : ℕ) (jobs : List Job) → AllByRecursion JobFits jobs → AllByRecursion JobFits (drop n jobs)
all_fit_behind n jobs fit = recursion_from_All JobFits (drop n jobs) (All-drop JobFits n jobs (All-from_recursion JobFits jobs fit))

fits_at_seam : (before : List Job) (job : Job) (after : List Job) → AllByRecursion JobFits (before ++ job ∷ after) → JobFits job
fits_at_seam [] job after fit = fit.0
fits_at_seam (j ∷ js) job after fit = fits_at_seam js job after fit.1

pub none_unfit : (jobs : List Job) (number : ℕ) → AllByRecursion JobFits jobs → IsFirstUnfit jobs number → ⊥
none_unfit jobs number fit unfit = unfit.unfit (fits_at_seam unfit.before unfit.job unfit.after (subst (AllByRecursion JobFits) unfit.whole fit))

-- ---- One more run.

-- the schedule at a place of the vectors
pub schedule_at : (schedules : List (Vec Turn Global)) (n : ℕ) (turns : Vec Turn Global) → n < length schedules → turns ≡ get_or schedules n turns → slice_get (map (λ t. t.items) schedules) n ≡ Some turns.items
schedule_at schedules n turns within is = slice_get-map (λ t. t.items) schedules n ∙ ap (option_map (λ t. t.items)) (slice_get_read schedules _ n turns refl within is)

-- what stands in front is at its place in the longer list
get_front : {X : Type 0} (xs ys : List X) (k : ℕ) → k < length xs → slice_get (xs ++ ys) k ≡ slice_get xs k
get_front [] ys k l = absurd (omega (arith, l))
get_front (x ∷ xs) ys zero l = refl
get_front (x ∷ xs) ys (suc k) l = get_front xs ys k (omega (arith, l))

-- what stands at the place of the last
get_last : {X : Type 0} (xs : List X) (y x : X) (k : ℕ) → k ≡ length xs → slice_get (xs ++ y ∷ []) k ≡ Some x → y ≡ x
get_last xs y x k long e = let some : Some y ≡ Some x = sym (get_seam xs y []) ∙ ap (slice_get (xs ++ y ∷ [])) (sym long) ∙ e in cc

-- one more report behind those of runs
runs_on : (jobs : List Job) (schedules : List (List Turn)) (reports : List Report) (turns : List Turn) (report : Report) → AreRuns jobs schedules reports → IsReportOf (left_by reports jobs) turns report
    → AreRuns jobs (schedules ++ turns ∷ []) (reports ++ report ∷ [])
runs_on jobs schedules reports turns report r new = record {
  one_each = omega (arith, r.one_each, length-append schedules (turns ∷ []), length-append reports (report ∷ []));
  runs = λ k t x at is. elim (cases_lt k (length reports)) [
    | inl before ↦
        let same : take k (reports ++ report ∷ []) ≡ take k reports = take-append-le k reports (report ∷ []) (omega (arith, before)) in
        let earlier : IsReportOf (left_by (take k reports) jobs) t x =
        r.runs k t x (sym (get_front schedules (turns ∷ []) k (omega (arith, before, r.one_each))) ∙ at) (sym (get_front reports (report ∷ []) k before) ∙ is) in
        subst (λ past. IsReportOf (left_by past jobs) t x) (sym same) earlier
    | inr past ↦
        let here : k ≡ length reports = omega (arith, past, length-append reports (report ∷ []), slice_get_within (reports ++ report ∷ []) k x is) in
        let same_turns : turns ≡ t = get_last schedules turns t k (here ∙ r.one_each) at in
        let same_report : report ≡ x = get_last reports report x k here is in
        let all : take k (reports ++ report ∷ []) ≡ reports = take_at reports (report ∷ []) k (sym here) in
        rw (all, ← same_turns, ← same_report) new
  ];
}

-- the series so far tells runs over the first schedules
pub record AreRunsSoFar (jobs : List Job) (schedules : List (List Turn)) (n : ℕ) (series : Series) : Type 0 where
  pub runs : AreRuns jobs (take n schedules) series.reports.items
  pub handed : series.handed ≡ handed_in series.reports.items
  pub counted : series.counted ≡ counted_in series.reports.items
  pub within : series.counted ≤ length jobs
  pub counted_handed : IsSubsequenceOf (take series.counted jobs) (filter (λ job. job.whole) series.handed)

-- one more report
pub record PushesReport (series longer : Series) (report : Report) : Type 0 where
  pub reports : longer.reports.items ≡ series.reports.items ++ report ∷ []
  pub handed : longer.handed ≡ series.handed ++ report.handed
  pub counted : longer.counted ≡ series.counted + report.counted

pub runs_more : (jobs : List Job) (schedules : List (List Turn)) (n : ℕ) (series longer : Series) (turns : List Turn) (report : Report)
    → AreRunsSoFar jobs schedules n series → slice_get schedules n ≡ Some turns → IsReportOf (drop series.counted jobs) turns report
    → PushesReport series longer report → AreRunsSoFar jobs schedules (n + 1) longer
runs_more jobs schedules n series longer turns report s here new pushed =
    let whole = new.counted_whole in
    let behind : IsReportOf (left_by series.reports.items jobs) turns report = subst (λ k. IsReportOf (drop k jobs) turns report) s.counted new in
    let longer_by : take (n + 1) schedules ≡ take n schedules ++ turns ∷ [] = ap (λ k. take k schedules) (add-one n) ∙ take_one n schedules turns here in
    record {
      runs = rw (longer_by, pushed.reports) (runs_on jobs (take n schedules) series.reports.items turns report s.runs behind);
      handed = rw (pushed.reports, pushed.handed, s.handed) (flat_map_more (λ r. r.handed) [] series.reports.items report);
      counted = rw (pushed.reports, pushed.counted, s.counted) (sym (sum_by_push (λ r. r.counted) series.reports.items report));
      within = omega (arith, pushed.counted, s.within, whole.within, length-drop series.counted jobs);
      counted_handed = rw (pushed.counted, pushed.handed) (counted_more jobs series.handed report.handed series.counted report.counted s.counted_handed whole);
    }

-- ---- The faults.

-- there are as many reports as schedules were gone through
pub runs_length : (jobs : List Job) (schedules : List (List Turn)) (n : ℕ) (series : Series) (turns : List Turn) → AreRunsSoFar jobs schedules n series → slice_get schedules n ≡ Some turns → length series.reports.items ≡ n
runs_length jobs schedules n series turns s here = s.runs.one_each ∙ length-take-le n schedules (omega (arith, slice_get_within schedules n turns here))

-- where a looked-at fate of the next run breaks its rule
breaks_in_attempt : (Breaks : Fate → Sound → List ℕ → Type 0) (jobs : List Job) (schedules : List (List Turn)) (n : ℕ) (series : Series) (turns : List Turn) (turn : ℕ)
    → AreRunsSoFar jobs schedules n series → slice_get schedules n ≡ Some turns → length series.reports.items ≡ n
    → (places : List SoundTurn) × BreaksFirst Breaks (blocks (drop series.counted jobs)) turns places turn → BreaksInAttempt Breaks jobs schedules (n + 1) turn
breaks_in_attempt Breaks jobs schedules n series turns turn s here long b = record {
  past = series.reports.items;
  runs = rw long s.runs;
  attempt_is = rw long refl;
  turns = turns;
  here = rw long here;
  places = b.0;
  breaks = subst (λ k. BreaksFirst Breaks (blocks (drop k jobs)) turns b.0 turn) s.counted b.1;
}

-- the next run's fault, told of its attempt
pub runs_fault : (jobs : List Job) (schedules : List (List Turn)) (n : ℕ) (series : Series) (turns : List Turn) (fault : WorldFault)
    → AllByRecursion JobFits jobs → AreRunsSoFar jobs schedules n series → slice_get schedules n ≡ Some turns → length series.reports.items ≡ n
    → IsRunFault (drop series.counted jobs) turns fault → IsSeriesFault jobs schedules (fault_in fault (n + 1))
runs_fault jobs schedules n series turns (WorldFault.BadJob number) fit s here long fault =
    absurd (none_unfit (drop series.counted jobs) number (all_fit_behind series.counted jobs fit) fault)
runs_fault jobs schedules n series turns WorldFault.OutOfMemory fit s here long fault = fit
runs_fault jobs schedules n series turns (WorldFault.NotDamage attempt turn) fit s here long fault = (fit, breaks_in_attempt IsNoDamage jobs schedules n series turns turn s here long fault.1.1)
runs_fault jobs schedules n series turns (WorldFault.BadCut attempt turn) fit s here long fault = (fit, breaks_in_attempt HasBadCut jobs schedules n series turns turn s here long fault.1.1)
