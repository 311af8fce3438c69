use Rattle.bsc_adapter.proofs.Alike.{same_is_heard_lem}
use Rattle.bsc_adapter.proofs.laws.same_is_heard.Goals as goal

pub returns : goal.returns
returns c = same_is_heard_lem
