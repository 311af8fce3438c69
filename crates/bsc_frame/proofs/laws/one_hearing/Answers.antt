use Rattle.bsc_frame.proofs.Quiet.{one_hearing_lem}
use Rattle.bsc_frame.proofs.laws.one_hearing.Goals as goal

pub returns : goal.returns
returns c = one_hearing_lem
