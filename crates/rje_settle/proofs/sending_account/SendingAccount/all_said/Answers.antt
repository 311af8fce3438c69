use Rattle.std.proofs.Common.{◌≡◌, ◌-◌, Some, length, rules}
use Rattle.std.specs.Prelude.{slice_get}
use Rattle.rje_settle.proofs.Accounts.{all_said_of-last}
use Rattle.rje_settle.proofs.sending_account.SendingAccount.all_said.Goals as goal

pub returns : goal.returns
returns c =
    let value = c.in-Some.ensures.value in
    let at_last : slice_get c.self.inside.promises.items (length c.self.inside.promises.items - 1) ≡ Some c.in-Some.promise.now = search rules in
    rw (← c.self.view_is) (all_said_of-last c.self.inside.known c.self.inside.promises.items c.in-Some.promise.now c.self.invariant at_last)
