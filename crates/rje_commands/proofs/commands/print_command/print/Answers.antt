use Rattle.std.proofs.Common.{None}
use Rattle.rje_requests.specs.declared.order.FileOrder.{FileOrder}
use Rattle.rje_commands.specs.Commands.{IsFault}
use Rattle.rje_commands.proofs.Inputs.{told_as, print_fault}
use Rattle.rje_commands.proofs.commands.print_command.print.Goals as goal

pub returns-in_err-paper-clause-fault : goal.returns-in_err-paper-clause-fault
returns-in_err-paper-clause-fault g c =
    told_as c.from_residual-in_err-paper.result c.in_err-paper.field-0.0 (IsFault (FileOrder.Print c.args.order) (g.S.Store.files c.args.store.now) None)
    c.from_residual-in_err-paper.ensures.1
    (print_fault c.args.order (g.S.Store.files c.args.store.now) c.in_ok-file.file.items c.in_ok-file.ensures.file c.in_err-paper.field-0.0 (rw c.as_slice.ensures.value at c.in_err-paper.ensures.fault))
