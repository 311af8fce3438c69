-- A sender's turns to the end: which they are, and that each job is marked as it is counted.
-- An invariant over the turns so far and the marks (Marked); each way out adds its last turn (OverLine).
use Rattle.std.proofs.Common.{rules, ◌≡◌, refl, inl, Err, []}
use Rattle.rje_sockets.proofs.Marked.{counts_on, marks_nothing, marks_on}
use Rattle.rje_sockets.proofs.OverLine.{sends_fault, sends_long, sends_on, sends_over, so_far_took}
use Rattle.rje_sockets.proofs.one_way.send_all.Goals as goal

pub loop-init : goal.loop-init
loop-init g c = record {
  marked = marks_nothing c.args.marker.now c.args.station.now.counted (g.S.Store.files c.args.store.now);
  count = inl refl;
  turns = ([], refl, refl);
}

pub returns-in_err-speak_hear_and_mark-clause-fault : goal.returns-in_err-speak_hear_and_mark-clause-fault
returns-in_err-speak_hear_and_mark-clause-fault g c =
    let told : c.from_residual.result ≡ Err c.in_err-speak_hear_and_mark.field-0.0 = search rules in
    rw told (sends_fault g.W.Observer.saw_sender (c.args.station.now, (g.L.Line.talk c.args.line.now, g.L.Line.transmissions c.args.line.now), c.args.watch.now) c.loop.counter (c.loop.station, (g.L.Line.talk c.loop.line, g.L.Line.transmissions c.loop.line), c.loop.watch) c.loop.invariant.turns c.speak_hear_and_mark.new.station _ c.in_err-speak_hear_and_mark.ensures.fault)

pub returns-in_err-speak_hear_and_mark-clause-broken : goal.returns-in_err-speak_hear_and_mark-clause-broken
returns-in_err-speak_hear_and_mark-clause-broken g c =
    let told : c.from_residual.result ≡ Err c.in_err-speak_hear_and_mark.field-0.0 = search rules in
    let kept = c.in_err-speak_hear_and_mark.ensures.unmarked in
    rw (told, kept.0, kept.1) (c.loop.station.counted, c.loop.invariant.marked)

pub returns-in_err-speak_hear_and_mark-clause-count : goal.returns-in_err-speak_hear_and_mark-clause-count
returns-in_err-speak_hear_and_mark-clause-count g c =
    let kept = c.in_err-speak_hear_and_mark.ensures.unmarked in
    rw kept.0 c.loop.invariant.count

pub returns-then-not-branch-clause-count : goal.returns-then-not-branch-clause-count
returns-then-not-branch-clause-count g c =
    let none = c.in_ok-speak_hear_and_mark.ensures.none (search rules) in
    counts_on c.args.station.now c.speak_hear_and_mark.new.station c.args.marker.now.marked c.loop.marker.marked c.speak_hear_and_mark.new.marker.marked
    (rw none.1 (so_far_took g.W.Observer.saw_sender (c.args.station.now, (g.L.Line.talk c.args.line.now, g.L.Line.transmissions c.args.line.now), c.args.watch.now) c.loop.counter (c.loop.station, (g.L.Line.talk c.loop.line, g.L.Line.transmissions c.loop.line), c.loop.watch) c.loop.invariant.turns)) c.loop.invariant.count c.in_ok-speak_hear_and_mark.ensures.count

pub returns-then-not-branch-clause-took : goal.returns-then-not-branch-clause-took
returns-then-not-branch-clause-took g c =
    let none = c.in_ok-speak_hear_and_mark.ensures.none (search rules) in
    rw (none.1, none.2, none.3) (sends_over g.W.Observer.saw_sender (c.args.station.now, (g.L.Line.talk c.args.line.now, g.L.Line.transmissions c.args.line.now), c.args.watch.now) c.loop.counter (c.loop.station, (g.L.Line.talk c.loop.line, g.L.Line.transmissions c.loop.line), c.loop.watch) c.loop.invariant.turns none.0)

pub returns-then-not-branch-clause-marked : goal.returns-then-not-branch-clause-marked
returns-then-not-branch-clause-marked g c =
    marks_on c.args.marker.now c.loop.marker c.speak_hear_and_mark.new.marker c.args.station.now.counted c.loop.station.counted c.speak_hear_and_mark.new.station.counted
    (g.S.Store.files c.args.store.now) (g.S.Store.files c.loop.store) (g.S.Store.files c.speak_hear_and_mark.new.store) c.loop.invariant.marked c.in_ok-speak_hear_and_mark.ensures.marked

pub loop-preserved : goal.loop-preserved
loop-preserved g c =
    let turns = sends_on g.W.Observer.saw_sender (c.args.station.now, (g.L.Line.talk c.args.line.now, g.L.Line.transmissions c.args.line.now), c.args.watch.now) c.loop.counter (c.loop.station, (g.L.Line.talk c.loop.line, g.L.Line.transmissions c.loop.line), c.loop.watch) c.loop.invariant.turns
    (c.speak_hear_and_mark.new.station, (g.L.Line.talk c.speak_hear_and_mark.new.line, g.L.Line.transmissions c.speak_hear_and_mark.new.line), c.speak_hear_and_mark.new.watch) (c.in_ok-speak_hear_and_mark.ensures.turn (search rules)) in record {
      turns = turns;
      marked = marks_on c.args.marker.now c.loop.marker c.speak_hear_and_mark.new.marker c.args.station.now.counted c.loop.station.counted c.speak_hear_and_mark.new.station.counted
          (g.S.Store.files c.args.store.now) (g.S.Store.files c.loop.store) (g.S.Store.files c.speak_hear_and_mark.new.store) c.loop.invariant.marked c.in_ok-speak_hear_and_mark.ensures.marked;
      count =
          counts_on c.args.station.now c.speak_hear_and_mark.new.station c.args.marker.now.marked c.loop.marker.marked c.speak_hear_and_mark.new.marker.marked
          (so_far_took g.W.Observer.saw_sender (c.args.station.now, (g.L.Line.talk c.args.line.now, g.L.Line.transmissions c.args.line.now), c.args.watch.now) _ (c.speak_hear_and_mark.new.station, (g.L.Line.talk c.speak_hear_and_mark.new.line, g.L.Line.transmissions c.speak_hear_and_mark.new.line), c.speak_hear_and_mark.new.watch) turns)
          c.loop.invariant.count c.in_ok-speak_hear_and_mark.ensures.count;
    }

pub returns-clause-took : goal.returns-clause-took
returns-clause-took g c = sends_long g.W.Observer.saw_sender (c.args.station.now, (g.L.Line.talk c.args.line.now, g.L.Line.transmissions c.args.line.now), c.args.watch.now) c.loop.counter (c.loop.station, (g.L.Line.talk c.loop.line, g.L.Line.transmissions c.loop.line), c.loop.watch) c.loop.invariant.turns (search rules)
