use Rattle.std.proofs.Common.{◌≡◌, rules}
use Rattle.rje_settle.specs.Receipt.{counted_with}
use Rattle.rje_settle.proofs.Counting.{counts_one_more}
use Rattle.rje_settle.proofs.receiving_account.ReceivingAccount.keep.Goals as goal

pub returns-clause-counts : goal.returns-clause-counts
returns-clause-counts c files file is e =
    let same : c.in_ok-next.next ≡ counted_with c.args.self.now c.args.job.bytes = search rules in
    rw same (counts_one_more c.args.self.now files file c.args.job.bytes is e)
