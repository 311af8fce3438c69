-- Several runs of the same jobs, one after another: each begins with new stations at the first job that none before it counted. Own profile.
use Rattle.std.specs.Prelude.{◌≡◌, ℕ, ◌+◌, List, [], ◌∷◌, ◌++◌, length, take, drop, slice_get, sum_by, Some}
use Rattle.std.specs.List.{AllByRecursion, flat_map}
use Rattle.bsc_link.specs.declared.sound.Sound.{Sound}
use Rattle.rje_jobs.specs.declared.job.Job.{Job}
use Rattle.rje_jobs.specs.Blocks.{blocks}
use Rattle.rje_jobs.specs.Fitting.{JobFits}
use Rattle.rje_station.specs.StationFault.{IsFirstUnfit}
use Rattle.line_world.specs.declared.fate.Fate.{Fate}
use Rattle.line_world.specs.declared.report.Report.{Report}
use Rattle.bsc_history.specs.declared.sound_turn.SoundTurn.{SoundTurn}
use Rattle.line_world.specs.declared.turn.Turn.{Turn}
use Rattle.line_world.specs.declared.world_fault.WorldFault.{WorldFault}
use Rattle.line_world.specs.Damage.{HasBadCut, IsNoDamage}
use Rattle.line_world.specs.Headline.{AreHandedInOrder, AreHandedWhole, HandsFirstJobs}
use Rattle.line_world.specs.Run.{IsRun, BreaksFirst}

-- the jobs that these reports hand out, one report after another: one that was handed out and not counted is there again in the next report
abbrev pub handed_in : List Report → List Job
handed_in reports = flat_map (λ report. report.handed) reports

-- how many jobs they count
abbrev pub counted_in : List Report → ℕ
counted_in reports = sum_by (λ report. report.counted) reports

-- the jobs that none of them counts
abbrev pub left_by : List Report → List Job → List Job
left_by reports jobs = drop (counted_in reports) jobs

-- THE RUNS

-- what `run` may report of these jobs over this schedule: it is a run of them, and the headline holds of it
pub record IsReportOf (jobs : List Job) (turns : List Turn) (report : Report) : Type 0 where
  pub run : IsRun jobs turns report.turns.items report.handed report.counted report.outcome
  pub in_order : AreHandedInOrder jobs report.handed
  pub counted_whole : AreHandedWhole report.counted jobs report.handed
  pub first_jobs : HandsFirstJobs report.counted jobs report.handed

-- there is a report for each schedule, and each is one of a run over its schedule of the jobs that no report before it counts
pub record AreRuns (jobs : List Job) (schedules : List (List Turn)) (reports : List Report) : Type 0 where
  pub one_each : length reports ≡ length schedules
  pub runs : (k : ℕ) (turns : List Turn) (report : Report) → slice_get schedules k ≡ Some turns → slice_get reports k ≡ Some report → IsReportOf (left_by (take k reports) jobs) turns report

-- EACH AT A PLACE OF ITS OWN

-- each of the jobs is one of all these, in order and at a place of its own: the first of them stands somewhere, and the others behind it
abbrev pub IsSubsequenceOf : List Job → List Job → Type 0
IsSubsequenceOf [] all = Unit {0}
IsSubsequenceOf (job ∷ jobs) all = (before : List Job) × ((after : List Job) × (all ≡ before ++ job ∷ after) × IsSubsequenceOf jobs after)

-- THE REFUSALS

-- that turn of that attempt, both counted from 1, is the first of which a looked-at fate breaks a rule: it comes after runs over the
-- schedules before, in an attempt to send the jobs that they left
pub record BreaksInAttempt (Breaks : Fate → Sound → List ℕ → Type 0) (jobs : List Job) (schedules : List (List Turn)) (attempt turn : ℕ) : Type 0 where
  pub past : List Report
  pub runs : AreRuns jobs (take (length past) schedules) past
  pub attempt_is : attempt ≡ length past + 1
  pub turns : List Turn
  pub here : slice_get schedules (length past) ≡ Some turns
  pub places : List SoundTurn
  pub breaks : BreaksFirst Breaks (blocks (left_by past jobs)) turns places turn

-- the fault holds of runs of these jobs over these schedules: the first job of all that can't be sent, looked for before any turn and where
-- there is no schedule too; or else, of jobs that can, the first broken rule; of memory nothing more is said
abbrev pub IsSeriesFault : List Job → List (List Turn) → WorldFault → Type 0
IsSeriesFault jobs schedules (WorldFault.BadJob job) = IsFirstUnfit jobs job
IsSeriesFault jobs schedules (WorldFault.NotDamage attempt turn) = AllByRecursion JobFits jobs × BreaksInAttempt IsNoDamage jobs schedules attempt turn
IsSeriesFault jobs schedules (WorldFault.BadCut attempt turn) = AllByRecursion JobFits jobs × BreaksInAttempt HasBadCut jobs schedules attempt turn
IsSeriesFault jobs schedules WorldFault.OutOfMemory = AllByRecursion JobFits jobs
