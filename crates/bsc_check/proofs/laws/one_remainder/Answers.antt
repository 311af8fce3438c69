use Rattle.bsc_check.proofs.Quotients as quotients
use Rattle.bsc_check.proofs.laws.one_remainder.Goals as goal

pub returns : goal.returns
returns c = quotients.division
