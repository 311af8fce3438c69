use Rattle.bsc_link.proofs.Rvi.{makes_at_most_one_rvi}
use Rattle.bsc_link.proofs.laws.at_most_one_rvi.Goals as goal

pub returns : goal.returns
returns c = makes_at_most_one_rvi
