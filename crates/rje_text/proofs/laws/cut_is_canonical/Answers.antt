use Rattle.rje_text.proofs.TheCut.{cut_is, cut_only}
use Rattle.rje_text.proofs.laws.cut_is_canonical.Goals as goal

pub returns-clause-is_cut : goal.returns-clause-is_cut
returns-clause-is_cut c = λ select mode records h. cut_is select mode records h.room

pub returns-clause-only : goal.returns-clause-only
returns-clause-only c = cut_only
