-- From the law over histories.
use Rattle.pair_world.proofs.PairHeadline.{of_pair_runs}
use Rattle.pair_world.proofs.laws.pair_runs_keep_order.Goals as goal

pub returns-clause-in_order : goal.returns-clause-in_order
returns-clause-in_order c = of_pair_runs _ c.histories_keep_order.ensures.in_order

pub returns-clause-counted_whole : goal.returns-clause-counted_whole
returns-clause-counted_whole c = of_pair_runs _ c.histories_keep_order.ensures.counted_whole

pub returns-clause-first_jobs : goal.returns-clause-first_jobs
returns-clause-first_jobs c = of_pair_runs _ c.histories_keep_order.ensures.first_jobs
