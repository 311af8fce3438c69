use Rattle.rje_commands.specs.declared.command_fault.CommandFault.TheVariants.{File}
use Rattle.rje_commands.specs.Inside.Commands.{IsChoiceFault}
use Rattle.rje_commands.proofs.Inputs.{told_as}
use Rattle.rje_commands.proofs.commands.choosing.entries_beside.Goals as goal

pub returns-in_err-entries-clause-fault : goal.returns-in_err-entries-clause-fault
returns-in_err-entries-clause-fault c =
    told_as c.from_residual.result (File c.in_err-entries.field-0.0) (IsChoiceFault c.args.choice.now c.args.file.now) c.from_residual.ensures.1 c.in_err-entries.ensures.told
