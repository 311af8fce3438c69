use Rattle.std.proofs.Common.{◌++◌, ◌∷◌, []}
use Rattle.rje_settle.specs.Sending.{IsAccountOf}
use Rattle.rje_settle.proofs.Accounts.{account-popped, popped-in_order}
use Rattle.rje_settle.proofs.sending_account.SendingAccount.take_back.Goals as goal

pub invariant_of-self : goal.invariant_of-self
invariant_of-self c = popped-in_order c.self.inside.known c.self.inside.promises.items c.pop.new.self.items c.pop.result c.pop.ensures.items c.self.invariant

pub returns-clause-all : goal.returns-clause-all
returns-clause-all c files file is =
    let inside : IsAccountOf (record { known = c.self.inside.known; promises = c.self.inside.promises.items }) (files ++ file ∷ []) = rw (← c.self.view_is) at is in
    account-popped c.self.inside.known c.self.inside.promises.items c.pop.new.self.items c.pop.result files file c.pop.ensures.items inside
