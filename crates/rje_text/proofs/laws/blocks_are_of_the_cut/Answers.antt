use Rattle.rje_text.proofs.NextBlocks.{first_of_cut, next_of_cut}
use Rattle.rje_text.proofs.laws.blocks_are_of_the_cut.Goals as goal

pub returns : goal.returns
returns c = λ select mode records. (first_of_cut select mode records, next_of_cut select mode records)
