use Rattle.rje_files.specs.declared.job_file.version.FileVersion.TheVariants.{First}
use Rattle.rje_files.proofs.OneFile.{one_file, same_jobs}
use Rattle.rje_files.proofs.laws.file_is_of_one_list.Goals as goal

pub returns : goal.returns
returns c = record { one_list = λ bytes jobs others f g. same_jobs jobs others (one_file bytes First First _ _ f g).1 }
