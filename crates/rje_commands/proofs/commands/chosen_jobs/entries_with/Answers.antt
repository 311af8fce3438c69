use Rattle.rje_commands.specs.Inside.Commands.{IsNumbersFault}
use Rattle.rje_commands.proofs.Inputs.{numbers_named, told_as}
use Rattle.rje_commands.proofs.commands.chosen_jobs.entries_with.Goals as goal

pub returns-in_err-entries-clause-fault : goal.returns-in_err-entries-clause-fault
returns-in_err-entries-clause-fault c =
    let fault = c.in_err-entries.field-0.0 in
    let numbers = c.args.numbers.now.text.now in
    told_as c.from_residual.result fault (IsNumbersFault c.args.name.now numbers c.args.file.now) c.from_residual.ensures.1
    (numbers_named c.args.name.now numbers c.args.file.now fault c.in_err-entries.ensures.fault)
