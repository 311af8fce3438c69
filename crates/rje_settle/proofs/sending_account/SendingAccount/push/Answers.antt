use Rattle.std.proofs.Common.{◌≡◌, Some}
use Rattle.std.specs.Prelude.{is_ok}
use Rattle.rje_settle.specs.Sending.{all_said_of}
use Rattle.rje_settle.proofs.Accounts.{pushed-in_order}
use Rattle.rje_settle.proofs.sending_account.SendingAccount.push.Goals as goal

pub invariant_of-self : goal.invariant_of-self
invariant_of-self c =
    let next = c.requires in
    let said : all_said_of (record { known = c.self.inside.known; promises = c.self.inside.promises.items }) ≡ Some next.0 = rw (← c.self.view_is) at next.1 in
    pushed-in_order c.self.inside.known c.self.inside.promises.items c.push.new.self.items c.args.promise (is_ok c.push.result) next.0 said next.2 c.self.invariant c.push.ensures.items
