-- The same over a line that is there: the jobs, the marks, the fault at each way out.
-- The faults before the first word mark nothing; the rest is `transmit`.
use Rattle.std.proofs.Common.{rules, inl, Err, ◌≡◌, ◌∙◌}
use Rattle.rje_station.specs.Sending.{first_sending}
use Rattle.rje_station.specs.StationFault.{IsNewCause}
use Rattle.rje_commands.specs.CommandFault.{of_station}
use Rattle.rje_sockets.proofs.Failing.{left_fails, not_refused, send_fails, station_fails}
use Rattle.rje_sockets.proofs.Marked.{begun_counts}
use Rattle.rje_sockets.proofs.NamedFiles.{names_more, station_names, written_names}
use Rattle.rje_sockets.proofs.Outgoing.{sends_outgoing}
use Rattle.rje_sockets.proofs.Sending.{marked_after}
use Rattle.rje_sockets.proofs.socket_commands.send_command.sent.Goals as goal

pub returns : goal.returns
returns g c =
    let f = g.S.Store.files c.args.store.now in
    let read = g.S.Store.files c.read_outgoing.new.store in
    let made = g.S.Store.files c.transmit.new.store in
    let out = c.in_ok-jobs.ensures.outgoing in
    let jobs = c.in_ok-jobs.field-0.jobs in
    let marker = c.in_ok-jobs.field-0.marker in
    let first : c.in_ok-station.station ≡ first_sending jobs = rw c.as_slice.ensures.slice at c.in_ok-station.ensures.ready in
    let copy = marked_after marker.file.items marker.name.now 0 f read (g.S.Store.files c.begin.new.store) c.read_outgoing.ensures.same c.in_ok-begin.ensures.begun in
    let fails = left_fails c.transmit.result marker.file.items jobs out.left c.transmit.ensures.status in
    record {
      sent = sends_outgoing _ _ c.transmit.result (g.L.Line.talk c.args.line.now, g.L.Line.transmissions c.args.line.now) (g.L.Line.talk c.transmit.new.line, g.L.Line.transmissions c.transmit.new.line) _ _ c.args.name.now jobs marker c.in_ok-station.station c.transmit.new.station f (g.S.Store.files c.begin.new.store) made
          (g.O.Write.contents c.args.out.now) (g.O.Write.contents c.transmit.new.out) out copy first c.transmit.ensures.took c.transmit.ensures.ended
          c.transmit.ensures.printed c.transmit.ensures.marked;
      fault = send_fails c.transmit.result (λ n. n ≡ c.args.name.now) c.args.name.now f fails (written_names c.transmit.result marker.name.now c.args.name.now out.named c.transmit.ensures.names);
      marked = begun_counts _ c.args.name.now jobs marker c.in_ok-station.station f (g.S.Store.files c.begin.new.store) made out copy first c.transmit.ensures.count;
      files_kept = not_refused c.transmit.result _ fails;
      silent = not_refused c.transmit.result _ fails;
    }

pub returns-in_err-station-clause-fault : goal.returns-in_err-station-clause-fault
returns-in_err-station-clause-fault g c =
    let jobs = c.in_ok-jobs.field-0.jobs in
    let fault = c.in_err-station.field-0.0 in
    let cause : IsNewCause jobs fault = rw c.as_slice.ensures.slice at c.in_err-station.ensures.refused in
    let is : c.from_residual-in_err-station.result ≡ Err (of_station fault) = search rules in
    rw is (inl (station_fails c.in_ok-jobs.field-0.marker.file.items jobs fault c.in_ok-jobs.ensures.outgoing.left cause, station_names fault _ _))

pub returns-in_err-begin-clause-fault : goal.returns-in_err-begin-clause-fault
returns-in_err-begin-clause-fault g c =
    let out = c.in_ok-jobs.ensures.outgoing in
    let fault = c.in_err-begin.field-0.0 in
    let is : c.from_residual-in_err-begin.result ≡ Err fault = search rules in
    rw is (inl (
      c.in_err-begin.ensures.status c.in_ok-jobs.field-0.jobs out.left,
      names_more (λ _. ⊥) (λ n. n ≡ c.args.name.now) (λ n. n ≡ c.in_ok-jobs.field-0.marker.name.now) (λ n. n ≡ c.args.name.now) (λ n never. absurd never) (λ n e. e ∙ out.named) fault c.in_err-begin.ensures.names,
    ))
