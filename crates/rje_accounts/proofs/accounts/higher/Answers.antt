use Rattle.std.proofs.Common.{arith}
use Rattle.rje_accounts.proofs.Highest.{most_first, most_rises, most_stays}
use Rattle.rje_accounts.proofs.accounts.higher.Goals as goal

pub returns-in-None : goal.returns-in-None
returns-in-None c = λ before is. most_first before c.args.other (rw c.in-None.is at is)

pub returns-in-Some : goal.returns-in-Some
returns-in-Some c = λ before is. most_stays before c.in-Some.one c.args.other (omega arith) (rw c.in-Some.is at is)
