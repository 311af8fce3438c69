-- The headline in each direction, from the law over histories.
use Rattle.std.proofs.Common.{ℕ, List, take, sym, subst}
use Rattle.rje_jobs.specs.declared.job.Job.{Job}
use Rattle.rje_jobs.specs.Blocks.{blocks}
use Rattle.std.specs.List.{AllByRecursion}
use Rattle.rje_jobs.specs.Fitting.{JobFits}
use Rattle.rje_station.specs.Sending.{ended_by}
use Rattle.bsc_history.specs.Conversation.{MayBeSpoken}
use Rattle.line_world.specs.Headline.{OfHistories}
use Rattle.bsc_history.specs.History.{History}
use Rattle.bsc_history.specs.Known.{known}
use Rattle.line_world.specs.Plan.{plan_of}
use Rattle.pair_world.specs.PairHeadline.{OfPairRuns}
use Rattle.pair_world.specs.PairRun.{IsSide}
use Rattle.bsc_history.proofs.ForRuns.{directions_may_be_spoken, pair_conversations_may_be_spoken}

of_side : (Holds : ℕ → List Job → List Job → Type 0) → OfHistories Holds → (jobs : List Job) (own : History) (handed : List Job) (counted : ℕ) → AllByRecursion JobFits jobs → MayBeSpoken (plan_of (blocks jobs)) own → IsSide jobs own handed counted → Holds counted jobs handed
of_side Holds law jobs own handed counted fit may side =
    subst (λ n. Holds n jobs handed) (sym side.counted_is) (subst (Holds (ended_by (take (known own) (blocks jobs))) jobs) (sym side.handed_is) (law jobs own fit may))

pub of_pair_runs : (Holds : ℕ → List Job → List Job → Type 0) → OfHistories Holds → OfPairRuns Holds
of_pair_runs Holds law ups downs turns spoken u d ups_fit downs_fit run =
    let up_plan = plan_of (blocks ups) in
    let down_plan = plan_of (blocks downs) in
    let may = directions_may_be_spoken up_plan down_plan run.history (pair_conversations_may_be_spoken up_plan down_plan run.history run.conversation.conversation.spoken.conversation) in
    (of_side Holds law ups _ u.handed u.counted ups_fit may.0 run.up_side, of_side Holds law downs _ d.handed d.counted downs_fit may.1 run.down_side)
