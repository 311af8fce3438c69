use Rattle.bsc_frame.proofs.Sending.{written_lem}
use Rattle.bsc_frame.proofs.laws.written_is_transmission.Goals as goal

pub returns : goal.returns
returns c = written_lem
