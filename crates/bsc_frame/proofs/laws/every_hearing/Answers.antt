use Rattle.bsc_frame.proofs.Quiet.{every_hearing_lem}
use Rattle.bsc_frame.proofs.laws.every_hearing.Goals as goal

pub returns : goal.returns
returns c = every_hearing_lem
