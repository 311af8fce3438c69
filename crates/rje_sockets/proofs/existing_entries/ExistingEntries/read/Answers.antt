use Rattle.std.proofs.Common.{rules, ◌≡◌, ◌<◌, Err, Some, inr, ap, length, refl, arith}
use Rattle.std.specs.Prelude.{◌≢◌}
use Rattle.rje_requests.specs.declared.order.Existing.TheVariants.{Replace, Refuse}
use Rattle.rje_commands.specs.declared.command_fault.CommandFault.TheVariants as told
use Rattle.rje_commands.proofs.Inputs.{there_file}
use Rattle.rje_sockets.proofs.Failing.{file_fails_so}
use Rattle.rje_sockets.proofs.existing_entries.ExistingEntries.read.Goals as goal

pub returns-in_err-front-clause-fault : goal.returns-in_err-front-clause-fault
returns-in_err-front-clause-fault g c =
    let files = g.S.Store.files c.args.store.now in
    let bytes = c.in-Some.file.items in
    let fault = c.in_err-front.field-0.0 in
    let other : c.args.into.existing ≢ Replace = search rules in
    let is : c.from_residual-in_err-front.result ≡ Err (told.File fault) = search rules in
    rw is (file_fails_so c.args.into files bytes fault other c.in_err-front.ensures.fault
    (there_file c.args.into.jobs.now files (Some bytes) (λ read. bytes ≡ read) (search rules) refl))

pub returns-then-front-gt0-clause-fault : goal.returns-then-front-gt0-clause-fault
returns-then-front-gt0-clause-fault g c =
    let files = g.S.Store.files c.args.store.now in
    let bytes = c.in-Some.file.items in
    let front = c.in_ok-front.ensures.front in
    let some : 0 < c.in_ok-front.front.jobs = search rules in
    let refuse : c.args.into.existing ≡ Refuse = search rules in
    inr (
      bytes,
      (refuse, refl, (front.0, front.1, λ none. omega (arith, some, front.2.1, ap length none))),
      there_file c.args.into.jobs.now files (Some bytes) (λ read. bytes ≡ read) (search rules) refl,
    )
