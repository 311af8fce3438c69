use Rattle.rje_settle.proofs.Accounts.{tells_what_came}
use Rattle.rje_settle.proofs.laws.receipts_tell_what_came.Goals as goal

pub returns : goal.returns
returns c = tells_what_came
