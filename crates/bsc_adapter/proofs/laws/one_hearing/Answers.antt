use Rattle.bsc_adapter.proofs.Alike.{one_hearing_from}
use Rattle.bsc_adapter.proofs.laws.one_hearing.Goals as goal

pub returns : goal.returns
returns c = one_hearing_from
