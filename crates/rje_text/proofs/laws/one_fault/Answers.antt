use Rattle.rje_text.proofs.OneFault.{one_told}
use Rattle.rje_text.proofs.laws.one_fault.Goals as goal

pub returns : goal.returns
returns c = one_told
