use Rattle.std.proofs.lemmas.Bool.{false≢true}
use Rattle.rje_requests.proofs.Addresses.{text_told}
use Rattle.rje_requests.proofs.callers.is_text_of.Goals as goal

pub returns-in-Ok : goal.returns-in-Ok
returns-in-Ok c = text_told c.args.text.now c.in-Ok.written c.args.address c.eq.result c.eq.ensures c.in-Ok.ensures.value

pub returns-in-Err : goal.returns-in-Err
returns-in-Err c = ((λ e. absurd (false≢true e)), (λ h. absurd (c.in-Err.ensures.value c.args.address h)))
