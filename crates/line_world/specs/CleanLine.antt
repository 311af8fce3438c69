-- A clean line: every turn is good. Own profile.
use Rattle.std.specs.Prelude.{◌≡◌, ℕ, ◌+◌, ◌≤◌, false, List, length, Option}
use Rattle.std.specs.List.{AllByRecursion}
use Rattle.bsc_link.specs.declared.outcome.Outcome.{Outcome}
use Rattle.rje_jobs.specs.declared.job.Job.{Job}
use Rattle.rje_jobs.specs.Blocks.{blocks}
use Rattle.rje_jobs.specs.Fitting.{JobFits}
use Rattle.line_world.specs.declared.spoken.Spoken.{Spoken}
use Rattle.line_world.specs.declared.turn.Turn.{Turn}
use Rattle.line_world.specs.GoodTurn.{IsGood}
use Rattle.line_world.specs.Run.{IsRun}

-- on a schedule of good turns alone, one more than there are blocks, a run without a refusal counts and hands out every job
abbrev pub CleanLineIsEnough : Type 0
CleanLineIsEnough =
    (jobs : List Job) (turns : List Turn) (spoken : List Spoken) (handed : List Job) (counted : ℕ) (ending : Option Outcome)
    → AllByRecursion JobFits jobs → AllByRecursion IsGood turns → length (blocks jobs) + 1 ≤ length turns
    → IsRun jobs turns spoken handed counted ending → AllByRecursion (λ t. t.refused ≡ false) spoken
    → (counted ≡ length jobs) × (handed ≡ jobs)
