use Rattle.rje_text.proofs.ReadBack.{reads_back}
use Rattle.rje_text.proofs.laws.cut_reads_back.Goals as goal

pub returns : goal.returns
returns c = reads_back
