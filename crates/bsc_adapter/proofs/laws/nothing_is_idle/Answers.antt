use Rattle.bsc_adapter.proofs.Backwards.{nothing_is_idle_lem}
use Rattle.bsc_adapter.proofs.laws.nothing_is_idle.Goals as goal

pub returns : goal.returns
returns c = nothing_is_idle_lem
