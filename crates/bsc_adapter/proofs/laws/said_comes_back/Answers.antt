use Rattle.bsc_adapter.proofs.Saying.{said_comes_back_lem}
use Rattle.bsc_adapter.proofs.laws.said_comes_back.Goals as goal

pub returns : goal.returns
returns c = said_comes_back_lem
