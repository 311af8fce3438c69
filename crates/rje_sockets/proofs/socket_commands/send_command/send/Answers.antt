-- The command comes to one connection and sends over it, or ends with the fault that the order says.
-- Each fault comes before anything was said, so no job is marked; the rest is `sent` over that connection.
use Rattle.std.proofs.Common.{rules, inl, None, Err, ◌≡◌, ◌∙◌}
use Rattle.rje_station.specs.Sending.{first_sending}
use Rattle.rje_station.specs.StationFault.{IsNewCause}
use Rattle.rje_commands.specs.CommandFault.{of_station}
use Rattle.rje_sockets.specs.Ending.{SendsLeft}
use Rattle.rje_sockets.proofs.Failing.{left_fails, not_refused, send_fails, station_fails}
use Rattle.rje_sockets.proofs.Marked.{begun_counts}
use Rattle.rje_sockets.proofs.NamedFiles.{names_more, station_names, written_names}
use Rattle.rje_sockets.proofs.Outgoing.{sends_outgoing}
use Rattle.rje_sockets.proofs.OverLine.{over_connection}
use Rattle.rje_sockets.proofs.Sending.{marked_after}
use Rattle.rje_sockets.proofs.socket_commands.send_command.send.Goals as goal

pub returns : goal.returns
returns g c =
    let f = g.S.Store.files c.args.store.now in
    let read = g.S.Store.files c.read_outgoing.new.store in
    let made = g.S.Store.files c.transmit-ending.new.store in
    let out = c.in_ok-jobs.ensures.outgoing in
    let jobs = c.in_ok-jobs.field-0.jobs in
    let marker = c.in_ok-jobs.field-0.marker in
    let first : c.in_ok-station.station ≡ first_sending jobs = rw c.as_slice.ensures.slice at c.in_ok-station.ensures.ready in
    let copy = marked_after marker.file.items marker.name.now 0 f read (g.S.Store.files c.begin-begun.new.store) c.read_outgoing.ensures.same (rw c.in_ok-begun.was at c.begin-begun.ensures.begun) in
    let fails = left_fails c.transmit-ending.result marker.file.items jobs out.left c.transmit-ending.ensures.status in
    record {
      sent = over_connection c.transmit-ending.result (λ t u ending. SendsLeft ending c.args.order.jobs.now (t, f, g.O.Write.contents c.args.out.now) (u, made, g.O.Write.contents c.transmit-ending.new.out)) _ _ c.in-Ok.ensures.unused
          (sends_outgoing _ _ c.transmit-ending.result (None, _) (None, _) _ _ c.args.order.jobs.now jobs marker c.in_ok-station.station c.transmit-ending.new.station f (g.S.Store.files c.begin-begun.new.store) made
          (g.O.Write.contents c.args.out.now) (g.O.Write.contents c.transmit-ending.new.out) out copy first c.transmit-ending.ensures.took c.transmit-ending.ensures.ended
          c.transmit-ending.ensures.printed c.transmit-ending.ensures.marked);
      fault = send_fails c.transmit-ending.result (λ n. n ≡ c.args.order.jobs.now) c.args.order.jobs.now f fails (written_names c.transmit-ending.result marker.name.now c.args.order.jobs.now out.named c.transmit-ending.ensures.names);
      marked = begun_counts _ c.args.order.jobs.now jobs marker c.in_ok-station.station f (g.S.Store.files c.begin-begun.new.store) made out copy first c.transmit-ending.ensures.count;
      files_kept = not_refused c.transmit-ending.result _ fails;
      silent = not_refused c.transmit-ending.result _ fails;
    }

pub returns-in_err-station-clause-fault : goal.returns-in_err-station-clause-fault
returns-in_err-station-clause-fault g c =
    let jobs = c.in_ok-jobs.field-0.jobs in
    let fault = c.in_err-station.field-0.0 in
    let cause : IsNewCause jobs fault = rw c.as_slice.ensures.slice at c.in_err-station.ensures.refused in
    let is : c.from_residual-in_err-station.result ≡ Err (of_station fault) = search rules in
    rw is (inl (station_fails c.in_ok-jobs.field-0.marker.file.items jobs fault c.in_ok-jobs.ensures.outgoing.left cause, station_names fault _ _))

pub returns-in-Err-clause-marked : goal.returns-in-Err-clause-marked
returns-in-Err-clause-marked g c = search rules

pub returns-in-Err-clause-fault : goal.returns-in-Err-clause-fault
returns-in-Err-clause-fault g c = search rules

pub returns-in_err-begun-clause-fault : goal.returns-in_err-begun-clause-fault
returns-in_err-begun-clause-fault g c =
    let out = c.in_ok-jobs.ensures.outgoing in
    let fault = c.in_err-begun.field-0.0 in
    let is : c.from_residual-in_err-begun.result ≡ Err fault = search rules in
    rw is (inl (
      (rw c.in_err-begun.was at c.begin-begun.ensures.status) c.in_ok-jobs.field-0.jobs out.left,
      names_more (λ _. ⊥) (λ n. n ≡ c.args.order.jobs.now) (λ n. n ≡ c.in_ok-jobs.field-0.marker.name.now) (λ n. n ≡ c.args.order.jobs.now) (λ n never. absurd never) (λ n e. e ∙ out.named) fault (rw c.in_err-begun.was at c.begin-begun.ensures.names),
    ))
