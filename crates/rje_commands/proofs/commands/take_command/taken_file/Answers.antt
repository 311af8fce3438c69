use Rattle.std.proofs.Common.{inl, inr}
use Rattle.std.specs.Prelude.{option_map}
use Rattle.rje_commands.specs.Inside.Commands.{IsTakenFault}
use Rattle.rje_commands.proofs.Inputs.{told_as}
use Rattle.rje_commands.proofs.commands.take_command.taken_file.Goals as goal

pub returns-in_err-entries-clause-fault : goal.returns-in_err-entries-clause-fault
returns-in_err-entries-clause-fault c =
    let found = option_map (λ bytes. bytes.items) c.args.found in
    told_as c.from_residual.result c.in_err-entries.field-0.0 (IsTakenFault c.args.order c.args.file.now found)
    c.from_residual.ensures.1 (inl c.in_err-entries.ensures.fault)

pub returns-in_err-bytes-clause-fault : goal.returns-in_err-bytes-clause-fault
returns-in_err-bytes-clause-fault c =
    let found = option_map (λ bytes. bytes.items) c.args.found in
    told_as c.from_residual-in_err-bytes.result c.in_err-bytes.field-0.0 (IsTakenFault c.args.order c.args.file.now found)
    c.from_residual-in_err-bytes.ensures.1 (inr c.in_err-bytes.ensures.fault)
