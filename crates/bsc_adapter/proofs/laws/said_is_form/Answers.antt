use Rattle.bsc_adapter.proofs.Saying.{said_is_form_lem}
use Rattle.bsc_adapter.proofs.laws.said_is_form.Goals as goal

pub returns : goal.returns
returns c = said_is_form_lem
