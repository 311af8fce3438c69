use Rattle.std.proofs.Common.{◌<◌, ◌^◌, rules}
use Rattle.rje_requests.proofs.Numbers.{read_same, unread_not}
use Rattle.rje_requests.proofs.job_numbers.is_text_of.Goals as goal

pub returns-in-Ok : goal.returns-in-Ok
returns-in-Ok c = read_same c.args.text.now c.args.number c.in-Ok.written c.in-Ok.ensures.value.0

pub returns-in-Err : goal.returns-in-Err
returns-in-Err c =
    let small : c.args.number < 2 ^ 64 = search rules in
    unread_not c.args.text.now c.args.number c.in-Err.field-0 c.in-Err.ensures.value.0 small
