-- The same over a line that is there: the jobs, the files, the fault at each way out.
-- The faults before the first word leave the files as they were; the rest is `exchange_files`.
use Rattle.std.proofs.Common.{rules, inl, Err, ◌≡◌, ap}
use Rattle.rje_station.specs.Station.{first_contending}
use Rattle.rje_station.specs.StationFault.{IsNewCause}
use Rattle.rje_requests.specs.declared.order.Destination.{Destination}
use Rattle.rje_commands.specs.CommandFault.{of_station}
use Rattle.rje_sockets.proofs.Exchanged.{destination_fault_of, exchanges_left, leaves_so, send_fault_of}
use Rattle.rje_sockets.proofs.Failing.{exchange_fails_so, fails_with, left_fails, not_refused, station_fails, written_fails_so}
use Rattle.rje_sockets.proofs.InFront.{opened_before}
use Rattle.rje_sockets.proofs.NamedFiles.{both_names, station_names}
use Rattle.rje_sockets.proofs.Sending.{marked_after}
use Rattle.rje_store.proofs.Changes.{same_itself, same_twice}
use Rattle.rje_sockets.proofs.socket_commands.exchange_command.exchanged.Goals as goal

pub returns : goal.returns
returns g c =
    let f = g.S.Store.files c.args.store.now in
    let out = c.in_ok-jobs.ensures.outgoing in
    let jobs = c.in_ok-jobs.field-0.jobs in
    let marker = c.in_ok-jobs.field-0.marker in
    let keeper = c.in_ok-keeper.keeper in
    let first : c.in_ok-station.station ≡ first_contending c.args.rank jobs = rw c.as_slice.ensures.slice at c.in_ok-station.ensures.ready in
    let read = g.S.Store.files c.read_outgoing.new.store in
    let looked = g.S.Store.files c.keeper_beside.new.store in
    let same = same_twice f read looked c.read_outgoing.ensures.same c.keeper_beside.ensures.same in
    let begun = g.S.Store.files c.begin.new.store in
    let copy = marked_after marker.file.items marker.name.now 0 f looked begun same c.in_ok-begin.ensures.begun in
    let fails = left_fails c.exchange_files.result marker.file.items jobs out.left c.exchange_files.ensures.status in
    let front = c.in_ok-keeper.ensures.opened.0 in
    let opened = opened_before front keeper.file f read c.read_outgoing.ensures.same c.in_ok-keeper.ensures.opened.1 in
    record {
      exchanged = exchanges_left c.exchange_files.result (g.L.Line.talk c.args.line.now, g.L.Line.transmissions c.args.line.now) (g.L.Line.talk c.exchange_files.new.line, g.L.Line.transmissions c.exchange_files.new.line) c.args.rank 40 c.args.send.now c.args.received jobs c.in_ok-station.station marker
          front keeper f begun (g.S.Store.files c.exchange_files.new.store)
          (g.O.Write.contents c.args.out.now) (g.O.Write.contents c.exchange_files.new.out) out copy first
          c.in_ok-keeper.ensures.into c.in_ok-keeper.ensures.none opened c.in_ok-keeper.ensures.two c.exchange_files.ensures.exchanged;
      fault = exchange_fails_so c.exchange_files.result c.args.send.now c.args.received f fails
          (both_names c.exchange_files.result marker.name.now keeper.file.into.jobs.now c.args.send.now c.args.received out.named (ap (λ (x : Destination). x.jobs.now) c.in_ok-keeper.ensures.into) c.exchange_files.ensures.names);
      files = leaves_so _ c.args.rank c.args.send.now c.args.received jobs c.in_ok-station.station marker front keeper f
          begun (g.S.Store.files c.exchange_files.new.store) out copy first
          c.in_ok-keeper.ensures.into c.in_ok-keeper.ensures.none opened c.in_ok-keeper.ensures.two c.exchange_files.ensures.files;
      files_kept = not_refused c.exchange_files.result _ fails;
      silent = not_refused c.exchange_files.result _ fails;
    }

pub returns-in_err-jobs-clause-fault : goal.returns-in_err-jobs-clause-fault
returns-in_err-jobs-clause-fault g c =
    let f = g.S.Store.files c.args.store.now in
    let fault = c.in_err-jobs.field-0.0 in
    let is = fails_with c.from_residual.result fault c.from_residual.ensures.1 in
    rw is (send_fault_of c.args.send.now c.args.received (λ n. n ≡ c.args.send.now) f f fault (λ n e. e) (same_itself f) c.in_err-jobs.ensures.fault)

pub returns-in_err-keeper-clause-fault : goal.returns-in_err-keeper-clause-fault
returns-in_err-keeper-clause-fault g c =
    let fault = c.in_err-keeper.field-0.0 in
    let is = fails_with c.from_residual-in_err-keeper.result fault c.from_residual-in_err-keeper.ensures.1 in
    rw is (destination_fault_of c.args.send.now c.args.received (g.S.Store.files c.args.store.now) (g.S.Store.files c.read_outgoing.new.store) fault c.read_outgoing.ensures.same c.in_err-keeper.ensures.fault)

pub returns-in_err-station-clause-fault : goal.returns-in_err-station-clause-fault
returns-in_err-station-clause-fault g c =
    let jobs = c.in_ok-jobs.field-0.jobs in
    let fault = c.in_err-station.field-0.0 in
    let cause : IsNewCause jobs fault = rw c.as_slice.ensures.slice at c.in_err-station.ensures.refused in
    let is : c.from_residual-in_err-station.result ≡ Err (of_station fault) = search rules in
    rw is (inl (station_fails c.in_ok-jobs.field-0.marker.file.items jobs fault c.in_ok-jobs.ensures.outgoing.left cause, station_names fault _ _))

pub returns-in_err-begin-clause-fault : goal.returns-in_err-begin-clause-fault
returns-in_err-begin-clause-fault g c =
    let f = g.S.Store.files c.args.store.now in
    let out = c.in_ok-jobs.ensures.outgoing in
    let fault = c.in_err-begin.field-0.0 in
    let is = fails_with c.from_residual-in_err-begin.result fault c.from_residual-in_err-begin.ensures.1 in
    rw is (written_fails_so c.args.send.now c.args.received f fault c.in_ok-jobs.field-0.marker.name.now out.named (c.in_err-begin.ensures.status c.in_ok-jobs.field-0.jobs out.left) c.in_err-begin.ensures.names)

pub returns-in_err-keeper-clause-files_kept : goal.returns-in_err-keeper-clause-files_kept
returns-in_err-keeper-clause-files_kept g c =
    let f = g.S.Store.files c.args.store.now in
    let read = g.S.Store.files c.read_outgoing.new.store in
    let looked = g.S.Store.files c.keeper_beside.new.store in
    let is = fails_with c.from_residual-in_err-keeper.result c.in_err-keeper.field-0.0 c.from_residual-in_err-keeper.ensures.1 in
    rw is (λ one. same_twice f read looked c.read_outgoing.ensures.same c.keeper_beside.ensures.same)
