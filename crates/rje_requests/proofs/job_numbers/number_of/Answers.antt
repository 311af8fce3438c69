use Rattle.std.proofs.Common.{◌≡◌, Ok, Err}
use Rattle.rje_requests.proofs.Numbers.{is_read, read_job}
use Rattle.rje_requests.proofs.job_numbers.number_of.Goals as goal

pub returns-in-Ok : goal.returns-in-Ok
returns-in-Ok c = read_job c.args.text.now c.in-Ok.number c.in-Ok.ensures.value.0 c.if-number-gt0.true

pub returns-in_default-2 : goal.returns-in_default-2
returns-in_default-2 c = λ number job.
    let read : Err c.in_default.field-0 ≡ Ok number = is_read c.args.text.now (Err c.in_default.field-0) number c.in_default.ensures.value.0 job.0 job.2 in cc
