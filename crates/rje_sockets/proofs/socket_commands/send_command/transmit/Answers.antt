-- What is marked and printed of a transmission that was sent, whichever part of that fails.
-- One goal a clause; what was marked turn by turn is what was counted (Marked).
use Rattle.std.proofs.Common.{rules, ◌≡◌, ℕ, Ok, Err, OnOk, subst, sym}
use Rattle.rje_files.specs.Unsent.{IsLeft}
use Rattle.rje_sockets.specs.Inside.Marking.{GoesOnMarking}
use Rattle.rje_sockets.specs.Ending.{MarksSent}
use Rattle.rje_sockets.proofs.Marked.{all_marked, counted_alone, counted_over}
use Rattle.rje_sockets.proofs.socket_commands.send_command.transmit.Goals as goal

pub returns-clause-marked : goal.returns-clause-marked
returns-clause-marked g c =
    let f = g.S.Store.files c.args.store.now in
    let mid = g.S.Store.files c.send_all-sent.new.store in
    let made = g.S.Store.files c.finish-marked.new.store in
    let old = c.args.marker.now in
    let new = c.send_all-sent.new.marker in
    let station = c.send_all-sent.new.station in
    let on : GoesOnMarking old new c.args.station.now.counted station.counted f mid = search rules in
    let sets : MarksSent new.file.items station.counted new.name.now mid made = rw c.counted-counted.ensures at c.in_ok-marked.ensures.marked in
    all_marked old new c.args.station.now.counted station.counted f mid made on sets

pub returns-in_err-marked-clause-status : goal.returns-in_err-marked-clause-status
returns-in_err-marked-clause-status g c =
    let f = g.S.Store.files c.args.store.now in
    let mid = g.S.Store.files c.send_all-sent.new.store in
    let old = c.args.marker.now in
    let new = c.send_all-sent.new.marker in
    let on : GoesOnMarking old new c.args.station.now.counted c.send_all-sent.new.station.counted f mid = search rules in
    let is : c.from_residual-in_err-marked.result ≡ Err c.in_err-marked.field-0.0 = search rules in
    rw is (λ jobs left. c.in_err-marked.ensures.status jobs (subst (λ file. IsLeft file.items jobs) (sym on.1) left))

pub returns-in_err-sent-clause-count : goal.returns-in_err-sent-clause-count
returns-in_err-sent-clause-count g c =
    let f = g.S.Store.files c.args.store.now in
    let mid = g.S.Store.files c.send_all-sent.new.store in
    let made = g.S.Store.files c.finish-marked.new.store in
    let old = c.args.marker.now in
    let new = c.send_all-sent.new.marker in
    let station = c.send_all-sent.new.station in
    let sets : OnOk c.finish-marked.result (MarksSent new.file.items station.counted new.name.now mid made) = rw c.counted-counted.ensures at c.finish-marked.ensures.marked in
    counted_alone {X = ℕ} (Err c.in_err-sent.field-0.0) c.finish-marked.result old new c.args.station.now station f mid made tt (rw c.in_err-sent.was at c.send_all-sent.ensures.broken) c.send_all-sent.ensures.count
    tt (rw c.in_err-sent.was at c.send_all-sent.ensures.fault) sets c.finish-marked.ensures.same

pub returns-in_err-marked-clause-count : goal.returns-in_err-marked-clause-count
returns-in_err-marked-clause-count g c =
    let f = g.S.Store.files c.args.store.now in
    let mid = g.S.Store.files c.send_all-sent.new.store in
    let made = g.S.Store.files c.finish-marked.new.store in
    let old = c.args.marker.now in
    let new = c.send_all-sent.new.marker in
    let station = c.send_all-sent.new.station in
    counted_alone {Y = ℕ} (Ok c.in_ok-sent.field-0) (Err c.in_err-marked.field-0.0) old new c.args.station.now station f mid made (rw c.in_ok-sent.was at c.send_all-sent.ensures.marked) tt c.send_all-sent.ensures.count
    (counted_over g.W.Observer.saw_sender (c.args.station.now, (g.L.Line.talk c.args.line.now, g.L.Line.transmissions c.args.line.now), c.args.watch.now) (station, (g.L.Line.talk c.send_all-sent.new.line, g.L.Line.transmissions c.send_all-sent.new.line), c.send_all-sent.new.watch)
    (rw c.in_ok-sent.was at c.send_all-sent.ensures.took)) tt tt c.in_err-marked.ensures.same

pub returns-in_err-printed-clause-count : goal.returns-in_err-printed-clause-count
returns-in_err-printed-clause-count g c =
    let f = g.S.Store.files c.args.store.now in
    let mid = g.S.Store.files c.send_all-sent.new.store in
    let made = g.S.Store.files c.finish-marked.new.store in
    let old = c.args.marker.now in
    let new = c.send_all-sent.new.marker in
    let station = c.send_all-sent.new.station in
    let sets : MarksSent new.file.items station.counted new.name.now mid made = rw c.counted-counted.ensures at c.in_ok-marked.ensures.marked in
    counted_alone (Ok c.in_ok-sent.field-0) (Ok c.in_ok-marked.field-0) old new c.args.station.now station f mid made (rw c.in_ok-sent.was at c.send_all-sent.ensures.marked) tt c.send_all-sent.ensures.count
    (counted_over g.W.Observer.saw_sender (c.args.station.now, (g.L.Line.talk c.args.line.now, g.L.Line.transmissions c.args.line.now), c.args.watch.now) (station, (g.L.Line.talk c.send_all-sent.new.line, g.L.Line.transmissions c.send_all-sent.new.line), c.send_all-sent.new.watch)
    (rw c.in_ok-sent.was at c.send_all-sent.ensures.took)) tt sets tt

pub returns-clause-count : goal.returns-clause-count
returns-clause-count g c =
    let f = g.S.Store.files c.args.store.now in
    let mid = g.S.Store.files c.send_all-sent.new.store in
    let made = g.S.Store.files c.finish-marked.new.store in
    let old = c.args.marker.now in
    let new = c.send_all-sent.new.marker in
    let station = c.send_all-sent.new.station in
    let sets : MarksSent new.file.items station.counted new.name.now mid made = rw c.counted-counted.ensures at c.in_ok-marked.ensures.marked in
    counted_alone (Ok c.in_ok-sent.field-0) (Ok c.in_ok-marked.field-0) old new c.args.station.now station f mid made (rw c.in_ok-sent.was at c.send_all-sent.ensures.marked) tt c.send_all-sent.ensures.count
    (counted_over g.W.Observer.saw_sender (c.args.station.now, (g.L.Line.talk c.args.line.now, g.L.Line.transmissions c.args.line.now), c.args.watch.now) (station, (g.L.Line.talk c.send_all-sent.new.line, g.L.Line.transmissions c.send_all-sent.new.line), c.send_all-sent.new.watch)
    (rw c.in_ok-sent.was at c.send_all-sent.ensures.took)) tt sets tt

pub returns-clause-printed : goal.returns-clause-printed
returns-clause-printed g c = search rules

pub returns-clause-took : goal.returns-clause-took
returns-clause-took g c =
    let took = rw c.in_ok-sent.was at c.send_all-sent.ensures.took in
    record {
      seen = c.send_all-sent.new.watch;
      sends = rw (c.parts_in_step-in_step.ensures.talk, c.parts_in_step-in_step.ensures.none) took;
      end = c.ended.ensures.saw;
    }
