-- What was sent is what the line keeps of it.
use Rattle.std.proofs.Common.{rules, ◌≡◌, Err}
use Rattle.line_world.proofs.carrying.carry.Goals as goal

pub returns-in_err-pieces_of-in_default-clause-fault : goal.returns-in_err-pieces_of-in_default-clause-fault
returns-in_err-pieces_of-in_default-clause-fault c =
    let told : c.from_residual-in_err-pieces_of-in_default.result ≡ Err c.in_err-pieces_of-in_default.field-0.0 = search rules in
    rw (told, ← c.sent-in_default.ensures.sent) c.in_err-pieces_of-in_default.ensures.fault
