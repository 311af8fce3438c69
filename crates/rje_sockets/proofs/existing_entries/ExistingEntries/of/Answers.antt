use Rattle.std.proofs.Common.{rules, ◌≡◌, ℕ, List, Err, inr, subst}
use Rattle.rje_files.specs.FileFault.{IsFileFault}
use Rattle.rje_files.specs.JobFile.{IsEntryFile}
use Rattle.rje_sockets.proofs.existing_entries.ExistingEntries.of.Goals as goal

pub returns-in_err-entries_in-clause-fault : goal.returns-in_err-entries_in-clause-fault
returns-in_err-entries_in-clause-fault c =
    let fault = c.in_err-entries_in.field-0.0 in
    let same : c.as_slice-then-is_second.result.now ≡ c.args.file.items = search rules in
    let is : c.from_residual.result ≡ Err fault = search rules in
    rw is (inr (subst (λ (bytes : List ℕ). IsFileFault IsEntryFile bytes fault) same c.in_err-entries_in.ensures.told))

pub returns-in_err-entries-clause-fault : goal.returns-in_err-entries-clause-fault
returns-in_err-entries-clause-fault c =
    let fault = c.in_err-entries.field-0.0 in
    let same : c.as_slice-2.result.now ≡ c.args.file.items = search rules in
    let is : c.from_residual-in_err-entries.result ≡ Err fault = search rules in
    rw is (inr (subst (λ (bytes : List ℕ). IsFileFault IsEntryFile bytes fault) same c.in_err-entries.ensures.told))
