-- The law of proofs/OneWay.antt.
use Rattle.pair_world.proofs.OneWay.{without_down_jobs}
use Rattle.pair_world.proofs.laws.one_way_is_a_run.Goals as goal

pub returns : goal.returns
returns c = without_down_jobs
