use Rattle.rje_files.specs.JobFile.{IsJobFile}
use Rattle.rje_files.proofs.OneFault.{one_fault}
use Rattle.rje_files.proofs.laws.one_file_fault.Goals as goal

pub returns : goal.returns
returns c = record { one_fault = one_fault IsJobFile }
