use Rattle.std.proofs.Common.{refl, subst}
use Rattle.std.specs.Prelude.{IfSome}
use Rattle.rje_requests.specs.declared.order.Destination.{Destination}
use Rattle.rje_sockets.specs.Answering.{KeepsAnswered}
use Rattle.rje_sockets.proofs.Received.{nothing_kept}
use Rattle.rje_sockets.proofs.socket_commands.receive_command.received_into.Goals as goal

pub returns-in_err-file-clause-kept : goal.returns-in_err-file-clause-kept
returns-in_err-file-clause-kept g c =
    nothing_kept c.args.into (g.S.Store.files c.args.store.now) (g.S.Store.files c.open.new.store) (g.L.Line.transmissions c.args.line.now) (g.L.Line.transmissions c.args.line.now) c.open.ensures.same refl

pub returns-clause-kept : goal.returns-clause-kept
returns-clause-kept g c =
    let opened = c.in_ok-file.ensures.opened in
    let files = g.S.Store.files c.args.store.now in
    subst (λ (into : Destination). IfSome files (λ _. KeepsAnswered into files (g.S.Store.files c.received.new.store) (g.L.Line.transmissions c.args.line.now) (g.L.Line.transmissions c.received.new.line)))
    c.in_ok-file.ensures.into (c.received.ensures.kept opened.0 files opened.1 c.in_ok-file.ensures.same)
