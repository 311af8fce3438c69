use Rattle.std.proofs.Common.{OnOk, subst}
use Rattle.std.specs.Io.KnownBytes.{Appends}
use Rattle.std.proofs.lemmas.Result.{on_ok_weaker}
use Rattle.rje_requests.specs.declared.order.FileOrder.{FileOrder}
use Rattle.rje_commands.specs.Commands.{IsCaptureText, IsFault, PrintsCapture}
use Rattle.rje_commands.proofs.Inputs.{of_deck, told_as, monitor_fault}
use Rattle.rje_commands.proofs.commands.monitor_command.monitor.Goals as goal

pub returns-in_err-text-clause-fault : goal.returns-in_err-text-clause-fault
returns-in_err-text-clause-fault g c =
    told_as c.from_residual-in_err-text.result c.in_err-text.field-0.0
    (IsFault (FileOrder.Monitor c.args.order) (g.S.Store.files c.args.store.now) (g.I.Read.remaining c.args.input.now))
    c.from_residual-in_err-text.ensures.1
    (monitor_fault c.args.order (g.S.Store.files c.args.store.now) (g.I.Read.remaining c.args.input.now) c.in_ok-capture.capture.items c.in_ok-capture.ensures.deck
    c.in_err-text.field-0.0 (rw c.as_slice.ensures.value at c.in_err-text.ensures.fault))

pub returns-clause-done : goal.returns-clause-done
returns-clause-done g c =
    let hex = c.args.order.hex in
    let capture = c.in_ok-capture.capture.items in
    let before = g.O.Write.contents c.args.out.now in
    let after = g.O.Write.contents c.put.new.out in
    let text : IsCaptureText hex capture c.in_ok-text.text.items = rw c.as_slice.ensures.value at c.in_ok-text.ensures.text in
    on_ok_weaker c.put.result (λ printed.
    of_deck (λ read. PrintsCapture hex read before after) capture (c.in_ok-text.text.items, text, printed) c.args.order.capture.now
    (g.S.Store.files c.args.store.now) (g.I.Read.remaining c.args.input.now) c.in_ok-capture.ensures.deck)
    (subst (λ shown. OnOk c.put.result (Appends before after shown)) c.as_slice-2.ensures.value c.put.ensures.text)
