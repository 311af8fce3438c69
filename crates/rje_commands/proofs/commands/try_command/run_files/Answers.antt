use Rattle.rje_files.specs.JobFile.{HasJobs, IsEntryFile}
use Rattle.rje_files.specs.FileFault.{IsFileFault}
use Rattle.rje_commands.specs.declared.command_fault.CommandFault.TheVariants as CommandFault
use Rattle.rje_commands.specs.CommandFault.{of_world}
use Rattle.rje_commands.specs.Inside.Commands.{IsTryFault}
use Rattle.rje_print.specs.Script.{IsScript}
use Rattle.rje_commands.proofs.Inputs.{run_fault, told_as}
use Rattle.line_world.specs.Run.{IsRunFault}
use Rattle.rje_commands.proofs.commands.try_command.run_files.Goals as goal

pub returns-in_err-jobs-clause-fault : goal.returns-in_err-jobs-clause-fault
returns-in_err-jobs-clause-fault c =
    let fault = c.in_err-jobs.field-0.0 in
    let told : IsFileFault IsEntryFile c.args.file.items fault = rw (c.as_slice.ensures.value) at c.in_err-jobs.ensures.told in
    told_as c.from_residual.result (CommandFault.File fault) (IsTryFault c.args.file.items c.args.script.items)
    c.from_residual.ensures.1 told

pub returns-in_err-report-clause-fault : goal.returns-in_err-report-clause-fault
returns-in_err-report-clause-fault c =
    let fault = c.in_err-report.field-0.0 in
    let told : IsRunFault c.in_ok-jobs.jobs c.in_ok-turns.turns.items fault =
    rw (c.as_slice-3.ensures.slice, c.as_slice-4.ensures.value) at c.in_err-report.ensures.fault in
    let file : HasJobs c.in_ok-jobs.jobs c.args.file.items = rw (c.as_slice.ensures.value) at c.in_ok-jobs.ensures.file in
    let script : IsScript c.in_ok-turns.turns.items c.args.script.items = rw (c.as_slice-2.ensures.value) at c.in_ok-turns.ensures.script in
    told_as c.from_residual-in_err-report.result (of_world fault) (IsTryFault c.args.file.items c.args.script.items)
    c.from_residual-in_err-report.ensures.1
    (run_fault c.args.file.items c.args.script.items c.in_ok-jobs.jobs c.in_ok-turns.turns.items fault
    file script told)
