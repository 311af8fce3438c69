use Rattle.std.proofs.Common.{map}
use Rattle.rje_files.specs.declared.job_file.version.FileVersion.TheVariants.{First}
use Rattle.rje_files.specs.Entry.{entry_of}
use Rattle.rje_files.proofs.OneFile.{one_file}
use Rattle.rje_files.proofs.laws.read_alike.Goals as goal

pub returns : goal.returns
returns c = record { alike = λ bytes jobs v entries f g. one_file bytes v First entries (map entry_of jobs) g f }
