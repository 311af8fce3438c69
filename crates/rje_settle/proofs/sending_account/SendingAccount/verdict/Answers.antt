use Rattle.std.proofs.Common.{◌≡◌, ◌≢◌, ◌+◌, ◌<◌, Some, rules, arith}
use Rattle.std.specs.Prelude.{slice_get}
use Rattle.rje_settle.specs.Sending.{may_be_said}
use Rattle.rje_settle.proofs.Accounts.{not_said, said_less}
use Rattle.rje_settle.proofs.sending_account.SendingAccount.verdict.Goals as goal

pub returns-in_default-checked_sub : goal.returns-in_default-checked_sub
returns-in_default-checked_sub c =
    let less : c.args.receipt.kept < c.in-Some.known.kept = omega (arith, c.in_default-checked_sub.ensures) in
    rw (← c.self.view_is) (said_less (record { known = c.self.inside.known; promises = c.self.inside.promises.items }) c.in-Some.known c.args.receipt c.in-Some.is c.self.invariant less)

pub returns-else-eq : goal.returns-else-eq
returns-else-eq c =
    let number : c.args.receipt.kept ≡ c.in-Some.known.kept + c.in-Some-checked_sub.came = omega (arith, c.in-Some-checked_sub.ensures) in
    let other : slice_get (may_be_said c.in-Some.known c.self.inside.promises.items) c.in-Some-checked_sub.came ≢ Some c.args.receipt = λ said. search rules in
    rw (← c.self.view_is) (not_said (record { known = c.self.inside.known; promises = c.self.inside.promises.items }) c.in-Some.known c.args.receipt
    c.in-Some-checked_sub.came c.in-Some.is c.self.invariant number other)
