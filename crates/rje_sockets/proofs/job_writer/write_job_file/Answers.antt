use Rattle.std.proofs.Common.{rules, ◌≡◌, Err, List, map, subst}
use Rattle.rje_files.specs.declared.entry.Entry.{Entry}
use Rattle.rje_files.specs.Entry.{entry_of}
use Rattle.rje_files.specs.FileFault.{IsEntryFault}
use Rattle.rje_commands.specs.declared.command_fault.CommandFault.TheVariants as told
use Rattle.rje_sockets.proofs.Failing.{file_fails}
use Rattle.rje_sockets.proofs.job_writer.write_job_file.Goals as goal

pub returns-in_err-file-clause-status : goal.returns-in_err-file-clause-status
returns-in_err-file-clause-status g c =
    let f = c.in_err-file.field-0.0 in
    let is : c.from_residual-in_err-file.result ≡ Err (told.File f) = search rules in
    let entries : c.as_slice.result.now ≡ map entry_of c.args.jobs = search rules in
    rw is (file_fails c.args.jobs f (subst (λ (es : List Entry). IsEntryFault es f) entries c.in_err-file.ensures.told))
