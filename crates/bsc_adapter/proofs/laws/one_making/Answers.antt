use Rattle.bsc_adapter.proofs.Steps.{one_making_lem}
use Rattle.bsc_adapter.proofs.laws.one_making.Goals as goal

pub returns : goal.returns
returns c = one_making_lem
