use Rattle.rje_files.specs.JobFile.{IsEntryFile}
use Rattle.rje_files.proofs.OneFault.{one_fault, one_refusal}
use Rattle.rje_files.proofs.laws.one_entry_fault.Goals as goal

pub returns : goal.returns
returns c = record {
  read = one_fault IsEntryFile;
  written = one_refusal;
}
