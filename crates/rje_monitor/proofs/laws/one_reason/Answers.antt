use Rattle.rje_monitor.proofs.ReasonsHold.{one_reason_lem}
use Rattle.rje_monitor.proofs.laws.one_reason.Goals as goal

pub returns : goal.returns
returns c = one_reason_lem
