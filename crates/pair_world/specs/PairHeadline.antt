-- The headline, in each direction of a pair. Own profile.
use Rattle.std.specs.Prelude.{ℕ, List}
use Rattle.std.specs.List.{AllByRecursion}
use Rattle.rje_jobs.specs.declared.job.Job.{Job}
use Rattle.rje_jobs.specs.Fitting.{JobFits}
use Rattle.pair_world.specs.declared.pair_spoken.PairSpoken.{PairSpoken}
use Rattle.pair_world.specs.declared.pair_turn.PairTurn.{PairTurn}
use Rattle.pair_world.specs.PairRun.{Told, IsPairRun}

-- of a run of jobs that can be sent, each way: so many are counted, and these handed out
abbrev pub OfPairRuns : (ℕ → List Job → List Job → Type 0) → Type 0
OfPairRuns Holds =
    (ups downs : List Job) (turns : List PairTurn) (spoken : List PairSpoken) (u d : Told) → AllByRecursion JobFits ups → AllByRecursion JobFits downs → IsPairRun ups downs turns spoken u d
    → Holds u.counted ups u.handed × Holds d.counted downs d.handed
