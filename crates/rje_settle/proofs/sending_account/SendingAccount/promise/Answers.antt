use Rattle.std.proofs.Common.{◌≡◌, Some, rules}
use Rattle.rje_settle.specs.Sending.{all_said_of}
use Rattle.rje_settle.proofs.Accounts.{account-promised}
use Rattle.rje_settle.proofs.sending_account.SendingAccount.promise.Goals as goal

pub returns-in-Ok-clause-all : goal.returns-in-Ok-clause-all
returns-in-Ok-clause-all c files file is own =
    let said : all_said_of c.args.self.now ≡ Some c.in-Some.all = search rules in
    rw c.in-Ok.ensures.promised (account-promised c.args.self.now files file (record { receipt = c.in-Some-with.receipt; place = c.args.place }) c.args.job.bytes c.in-Some.all said is own
    c.in-Some-with.ensures.one_more)
