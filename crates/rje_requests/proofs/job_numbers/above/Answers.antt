use Rattle.std.proofs.Common.{◌≡◌, Ok, Err}
use Rattle.rje_requests.proofs.Numbers.{is_read, read_is}
use Rattle.rje_requests.proofs.job_numbers.above.Goals as goal

pub returns-in-Ok : goal.returns-in-Ok
returns-in-Ok c = (read_is c.args.text.now c.in-Ok.number c.in-Ok.ensures.value.0, c.if-most-number.true)

pub returns-in_default-2 : goal.returns-in_default-2
returns-in_default-2 c = λ number small is.
    let read : Err c.in_default.field-0 ≡ Ok number = is_read c.args.text.now (Err c.in_default.field-0) number c.in_default.ensures.value.0 is small in cc
