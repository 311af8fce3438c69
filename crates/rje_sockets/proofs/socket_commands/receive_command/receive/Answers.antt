-- The command comes to one connection and receives over it, or ends with the fault that the order says.
-- Each fault comes before anything was heard, so the file is as it was; the rest is `received` over that connection.
use Rattle.std.proofs.Common.{IfOk, ℕ, rules, refl, subst}
use Rattle.std.specs.Prelude.{IfSome}
use Rattle.rje_requests.specs.declared.order.Destination.{Destination}
use Rattle.rje_sockets.specs.Answering.{KeepsAnswered}
use Rattle.rje_sockets.specs.Ending.{Receives}
use Rattle.rje_sockets.proofs.Failing.{not_refused, receive_fails_so}
use Rattle.rje_sockets.specs.OverLine.{OverConnection}
use Rattle.rje_sockets.specs.Patience.{most_quiet}
use Rattle.rje_sockets.proofs.OverLine.{over_connection}
use Rattle.rje_sockets.proofs.Received.{keeps_so_many, nothing_kept}
use Rattle.rje_sockets.proofs.socket_commands.receive_command.receive.Goals as goal

pub returns-clause-received : goal.returns-clause-received
returns-clause-received g c =
    let opened = c.in_ok-file.ensures.opened in
    let files = g.S.Store.files c.args.store.now in
    let made = g.S.Store.files c.received-ending.new.store in
    let had = g.O.Write.contents c.args.out.now in
    let has = g.O.Write.contents c.received-ending.new.out in
    let came = c.received-ending.ensures.received opened.0 files opened.1 c.in_ok-file.ensures.same in
    subst (λ (into : Destination). IfOk c.received-ending.result (λ ending. OverConnection (λ t u. Receives (most_quiet c.args.order.patience) ending into (t, files, had) (u, made, has)))) c.in_ok-file.ensures.into
    (over_connection c.received-ending.result (λ t u ending. Receives (most_quiet c.args.order.patience) ending c.in_ok-file.file.into (t, files, had) (u, made, has)) _ _ c.in-Ok.ensures.unused
    (rw c.most_quiet-patience.ensures.most at came))

pub returns-clause-kept : goal.returns-clause-kept
returns-clause-kept g c =
    let opened = c.in_ok-file.ensures.opened in
    let files = g.S.Store.files c.args.store.now in
    subst (λ (into : Destination). IfSome files (λ _. (n : ℕ) × KeepsAnswered into files (g.S.Store.files c.received-ending.new.store) 0 n)) c.in_ok-file.ensures.into
    (keeps_so_many c.in_ok-file.file.into files (g.S.Store.files c.received-ending.new.store) _ _ c.in-Ok.ensures.unused (c.received-ending.ensures.kept opened.0 files opened.1 c.in_ok-file.ensures.same))

pub returns-clause-fault : goal.returns-clause-fault
returns-clause-fault g c = receive_fails_so c.received-ending.result c.args.order.into (g.S.Store.files c.args.store.now) c.received-ending.ensures.status (search rules)

pub returns-clause-files_kept : goal.returns-clause-files_kept
returns-clause-files_kept g c = not_refused c.received-ending.result _ c.received-ending.ensures.status

pub returns-clause-silent : goal.returns-clause-silent
returns-clause-silent g c = not_refused c.received-ending.result _ c.received-ending.ensures.status

pub returns-in_err-file-clause-kept : goal.returns-in_err-file-clause-kept
returns-in_err-file-clause-kept g c =
    keeps_so_many c.args.order.into (g.S.Store.files c.args.store.now) (g.S.Store.files c.open.new.store) 0 0 refl (nothing_kept c.args.order.into (g.S.Store.files c.args.store.now) (g.S.Store.files c.open.new.store) 0 0 c.open.ensures.same refl)

pub returns-in-Err-clause-kept : goal.returns-in-Err-clause-kept
returns-in-Err-clause-kept g c =
    keeps_so_many c.args.order.into (g.S.Store.files c.args.store.now) (g.S.Store.files c.open.new.store) 0 0 refl (nothing_kept c.args.order.into (g.S.Store.files c.args.store.now) (g.S.Store.files c.open.new.store) 0 0 c.open.ensures.same refl)
