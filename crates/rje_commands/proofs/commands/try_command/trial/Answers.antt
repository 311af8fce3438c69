use Rattle.rje_requests.specs.declared.order.FileOrder.{FileOrder}
use Rattle.std.proofs.Common.{None}
use Rattle.rje_commands.specs.Commands.{IsFault}
use Rattle.rje_commands.proofs.Inputs.{told_as, try_fault}
use Rattle.rje_commands.proofs.commands.try_command.trial.Goals as goal

pub returns-in_err-text-clause-fault : goal.returns-in_err-text-clause-fault
returns-in_err-text-clause-fault g c =
    let fault = c.in_err-text.field-0.0 in
    told_as c.from_residual-in_err-text.result fault (IsFault (FileOrder.Try c.args.order) (g.S.Store.files c.args.store.now) None)
    c.from_residual-in_err-text.ensures.1
    (try_fault c.args.order (g.S.Store.files c.args.store.now) _ c.in_ok-file.file.items c.in_ok-script.script.items
    c.in_ok-file.ensures.file c.in_ok-file.ensures.same c.in_ok-script.ensures.file fault c.in_err-text.ensures.fault)
