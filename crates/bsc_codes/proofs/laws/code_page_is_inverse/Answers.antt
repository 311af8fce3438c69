use Rattle.bsc_codes.proofs.Tables.{forward, backward, has_printable, printable_has}
use Rattle.bsc_codes.proofs.laws.code_page_is_inverse.Goals as goal

pub returns-clause-inverse : goal.returns-clause-inverse
returns-clause-inverse c = λ a e. (forward a e, backward a e)

pub returns-clause-printable : goal.returns-clause-printable
returns-clause-printable c = λ a. (has_printable a, λ h. printable_has a h.0 h.1)
