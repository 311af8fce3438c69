use Rattle.bsc_frame.proofs.Hearing.{one_transmission_lem}
use Rattle.bsc_frame.proofs.laws.one_transmission.Goals as goal

pub returns : goal.returns
returns c = one_transmission_lem
