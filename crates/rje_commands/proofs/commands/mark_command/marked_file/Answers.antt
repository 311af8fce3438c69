use Rattle.rje_commands.specs.Inside.Commands.{IsMarkedFault}
use Rattle.rje_commands.proofs.Inputs.{marked_numbers, told_as}
use Rattle.rje_commands.proofs.commands.mark_command.marked_file.Goals as goal

pub returns-in_err-entries-clause-fault : goal.returns-in_err-entries-clause-fault
returns-in_err-entries-clause-fault c =
    let fault = c.in_err-entries.field-0.0 in
    told_as c.from_residual.result fault (IsMarkedFault c.args.order c.args.file.now) c.from_residual.ensures.1
    (marked_numbers c.args.order c.args.file.now fault c.in_err-entries.ensures.fault)
