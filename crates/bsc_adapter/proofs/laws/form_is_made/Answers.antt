use Rattle.bsc_adapter.proofs.Standing.{form_is_made_lem}
use Rattle.bsc_adapter.proofs.laws.form_is_made.Goals as goal

pub returns : goal.returns
returns c = form_is_made_lem
