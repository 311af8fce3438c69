use Rattle.bsc_adapter.proofs.Alike.{every_hearing_from}
use Rattle.bsc_adapter.proofs.laws.every_hearing.Goals as goal

pub returns : goal.returns
returns c = every_hearing_from
