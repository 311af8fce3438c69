use Rattle.rje_files.proofs.Names.{names_padded}
use Rattle.rje_files.proofs.laws.names_are_padded.Goals as goal

pub returns : goal.returns
returns c = record { names = names_padded }
