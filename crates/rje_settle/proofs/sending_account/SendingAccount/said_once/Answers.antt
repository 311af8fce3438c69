use Rattle.std.proofs.Common.{◌≡◌, ◌∙◌, ◌+◌, List, Some, ap, sym, arith}
use Rattle.std.specs.Prelude.{slice_get}
use Rattle.std.proofs.lemmas.Grind.{common_steps}
use Rattle.std.proofs.lemmas.Option.{slice_get_read}
use Rattle.rje_settle.specs.declared.promise.Promise.{Promise}
use Rattle.rje_settle.specs.Sending.{Sending, may_be_said}
use Rattle.rje_settle.proofs.Accounts.{said-at}
use Rattle.rje_settle.proofs.sending_account.SendingAccount.said_once.Goals as goal

pub returns : goal.returns
returns c =
    let lookup = c.in_ok-get.ensures.lookup in
    let value = c.deref.ensures.value in
    let at : slice_get c.self.inside.promises.items c.in-Some.last ≡ Some c.in_ok-get.field-0.now = grind (arith, common_steps, slice_get_read) in
    let next : c.in-Some.last + 1 ≡ c.args.came = omega (arith, c.in-Some.ensures) in
    let said = said-at c.args.known c.self.inside.promises.items c.in-Some.last c.args.came c.in_ok-get.field-0.now next at in
    let seen : c.self.inside.promises.items ≡ c.args.self.now.promises = ap (λ (a : Sending). a.promises) c.self.view_is in
    sym said ∙ ap (λ (ps : List Promise). slice_get (may_be_said c.args.known ps) c.args.came) seen
