use Rattle.std.proofs.Common.{None}
use Rattle.rje_requests.specs.declared.order.FileOrder.{FileOrder}
use Rattle.rje_commands.specs.Commands.{IsFault}
use Rattle.rje_commands.proofs.Inputs.{told_as, check_fault}
use Rattle.rje_commands.proofs.commands.check_command.check.Goals as goal

pub returns-in_err-text-clause-fault : goal.returns-in_err-text-clause-fault
returns-in_err-text-clause-fault g c =
    told_as c.from_residual-in_err-text.result c.in_err-text.field-0.0 (IsFault (FileOrder.Check c.args.name) (g.S.Store.files c.args.store.now) None)
    c.from_residual-in_err-text.ensures.1
    (check_fault c.args.name (g.S.Store.files c.args.store.now) c.in_ok-file.file.items c.in_ok-file.ensures.file c.in_err-text.field-0.0 (rw c.as_slice.ensures.value at c.in_err-text.ensures.fault))
