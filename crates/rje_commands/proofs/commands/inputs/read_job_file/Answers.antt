use Rattle.rje_files.specs.FileFault.{IsFileFault}
use Rattle.rje_files.specs.JobFile.{IsEntryFile}
use Rattle.rje_commands.specs.declared.command_fault.CommandFault.TheVariants.{File}
use Rattle.rje_commands.specs.NamedFile.{IsInputFault}
use Rattle.rje_commands.proofs.Inputs.{of_file, told_as}
use Rattle.rje_commands.proofs.commands.inputs.read_job_file.Goals as goal

pub returns-in_err-read_entry_jobs-clause-fault : goal.returns-in_err-read_entry_jobs-clause-fault
returns-in_err-read_entry_jobs-clause-fault g c =
    let fault = c.in_err-read_entry_jobs.field-0.0 in
    let read : IsFileFault IsEntryFile c.in_ok-bytes.bytes.items fault = rw c.as_slice.ensures.value at c.in_err-read_entry_jobs.ensures.told in
    told_as c.from_residual-in_err-read_entry_jobs.result (File fault) (IsInputFault c.args.name.now (g.S.Store.files c.args.store.now))
    c.from_residual-in_err-read_entry_jobs.ensures.1
    (of_file (λ file. IsFileFault IsEntryFile file fault) c.in_ok-bytes.bytes.items read c.args.name.now (g.S.Store.files c.args.store.now) c.in_ok-bytes.ensures.file)
