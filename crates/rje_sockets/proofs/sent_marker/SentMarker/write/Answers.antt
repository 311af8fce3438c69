use Rattle.std.proofs.Common.{rules, ◌≡◌, ◌≤◌, length, Err}
use Rattle.std.proofs.lemmas.Result.{on_ok_weaker}
use Rattle.rje_commands.specs.declared.command_fault.CommandFault.TheVariants as told
use Rattle.rje_store.specs.Store.{Sets, Discloses}
use Rattle.rje_sockets.proofs.Failing.{memory_fails}
use Rattle.rje_commands.proofs.Inputs.{done_both}
use Rattle.rje_sockets.proofs.sent_marker.SentMarker.write.Goals as goal

pub returns-clause-marked : goal.returns-clause-marked
returns-clause-marked g c =
    let old = g.S.Store.files c.args.store.now in
    let new = g.S.Store.files c.write_file.new.store in
    let bytes = c.in_ok-bytes.bytes.items in
    let name = c.args.self.now.name.now in
    let file = c.args.self.now.file.items in
    let sets = rw c.as_slice-2.ensures.value at c.write_file.ensures.sets in
    let few = rw c.as_slice-2.ensures.value at c.write_file.ensures.limit in
    on_ok_weaker c.write_file.result (λ done. (bytes, rw c.as_slice.ensures.value at c.in_ok-bytes.ensures.file, done.0, done.1))
    (done_both c.write_file.result (length bytes ≤ 16777216) (Discloses old new (Sets name bytes)) few sets)

pub returns-in_err-bytes-clause-status : goal.returns-in_err-bytes-clause-status
returns-in_err-bytes-clause-status g c =
    let fault = c.in_err-bytes.field-0.0 in
    let is : c.from_residual.result ≡ Err (told.File fault) = search rules in
    let alone = rw c.as_slice.ensures.value at c.in_err-bytes.ensures.left in
    rw is (λ jobs left. memory_fails fault (alone jobs left))
