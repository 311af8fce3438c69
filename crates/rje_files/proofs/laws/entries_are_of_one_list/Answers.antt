use Rattle.rje_files.proofs.OneFile.{one_file}
use Rattle.rje_files.proofs.laws.entries_are_of_one_list.Goals as goal

pub returns : goal.returns
returns c = record { one_list = one_file }
