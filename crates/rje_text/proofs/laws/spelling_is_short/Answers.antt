use Rattle.rje_text.proofs.ShortSpelling.{spelling_short}
use Rattle.rje_text.proofs.laws.spelling_is_short.Goals as goal

pub returns : goal.returns
returns c = spelling_short
