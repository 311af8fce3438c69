-- A receiver's turns to the end: which they are, what is kept, and that patience ends them.
-- An invariant over the turns so far and the quiet ones in a row (Patience); each way out adds its last turn.
use Rattle.std.proofs.Common.{rules, ◌≡◌, Err, arith}
use Rattle.rje_sockets.proofs.Answering.{took_answered}
use Rattle.rje_sockets.proofs.Keeping.{goes_nowhere, goes_on_twice}
use Rattle.rje_sockets.proofs.Patience.{hears_first, hears_on, hears_end, hears_quiet, hears_long}
use Rattle.rje_sockets.proofs.one_way.hear_out.Goals as goal

pub loop-init : goal.loop-init
loop-init g c = record {
  turns = hears_first c.args.patience g.W.Observer.saw_receiver (c.args.station.now, (g.L.Line.talk c.args.line.now, g.L.Line.transmissions c.args.line.now), c.args.watch.now) c.requires.patient;
  kept = goes_nowhere c.args.keeper.now c.args.station.now.jobs (g.S.Store.files c.args.store.now);
}

pub returns-in_err-hear_keep_and_speak-clause-broken : goal.returns-in_err-hear_keep_and_speak-clause-broken
returns-in_err-hear_keep_and_speak-clause-broken g c =
    let told : c.from_residual.result ≡ Err c.in_err-hear_keep_and_speak.field-0.0 = search rules in
    let turns = c.loop.invariant.turns in
    rw told (record {
      far = c.loop.station;
      mid = (c.loop.keeper, g.L.Line.transmissions c.loop.line, g.S.Store.files c.loop.store);
      answered = took_answered g.W.Observer.saw_receiver (c.args.station.now, (g.L.Line.talk c.args.line.now, g.L.Line.transmissions c.args.line.now), c.args.watch.now) (c.loop.station, (g.L.Line.talk c.loop.line, g.L.Line.transmissions c.loop.line), c.loop.watch) turns.history turns.took;
      kept = c.loop.invariant.kept;
      breaks = c.in_err-hear_keep_and_speak.ensures.broken;
    })

pub returns-then-not-branch-clause-heard : goal.returns-then-not-branch-clause-heard
returns-then-not-branch-clause-heard g c =
    hears_end c.args.patience g.W.Observer.saw_receiver (c.args.station.now, (g.L.Line.talk c.args.line.now, g.L.Line.transmissions c.args.line.now), c.args.watch.now) c.loop.counter c.loop.quiet (c.loop.station, (g.L.Line.talk c.loop.line, g.L.Line.transmissions c.loop.line), c.loop.watch) c.loop.invariant.turns
    (c.hear_keep_and_speak.new.station, (g.L.Line.talk c.hear_keep_and_speak.new.line, g.L.Line.transmissions c.hear_keep_and_speak.new.line), c.hear_keep_and_speak.new.watch) c.in_ok-hear_keep_and_speak.ensures.turn (search rules)

pub returns-then-not-branch-clause-kept : goal.returns-then-not-branch-clause-kept
returns-then-not-branch-clause-kept g c =
    goes_on_twice c.args.keeper.now c.loop.keeper c.hear_keep_and_speak.new.keeper c.args.station.now.jobs c.loop.station.jobs c.hear_keep_and_speak.new.station.jobs
    (g.S.Store.files c.args.store.now) (g.S.Store.files c.loop.store) (g.S.Store.files c.hear_keep_and_speak.new.store) c.loop.invariant.kept c.in_ok-hear_keep_and_speak.ensures.kept

pub quiet_after-quiet-requires : goal.quiet_after-quiet-requires
quiet_after-quiet-requires g c = record { few = omega (arith, c.loop.invariant.turns.few) }

pub returns-then-quiet-patience-clause-heard : goal.returns-then-quiet-patience-clause-heard
returns-then-quiet-patience-clause-heard g c =
    hears_quiet c.args.patience g.W.Observer.saw_receiver (c.args.station.now, (g.L.Line.talk c.args.line.now, g.L.Line.transmissions c.args.line.now), c.args.watch.now) c.loop.counter c.loop.quiet (c.loop.station, (g.L.Line.talk c.loop.line, g.L.Line.transmissions c.loop.line), c.loop.watch) c.loop.invariant.turns
    (c.hear_keep_and_speak.new.station, (g.L.Line.talk c.hear_keep_and_speak.new.line, g.L.Line.transmissions c.hear_keep_and_speak.new.line), c.hear_keep_and_speak.new.watch) c.in_ok-hear_keep_and_speak.ensures.turn c.quiet_after-quiet.result (search rules) (search rules)

pub returns-then-quiet-patience-clause-kept : goal.returns-then-quiet-patience-clause-kept
returns-then-quiet-patience-clause-kept g c =
    goes_on_twice c.args.keeper.now c.loop.keeper c.hear_keep_and_speak.new.keeper c.args.station.now.jobs c.loop.station.jobs c.hear_keep_and_speak.new.station.jobs
    (g.S.Store.files c.args.store.now) (g.S.Store.files c.loop.store) (g.S.Store.files c.hear_keep_and_speak.new.store) c.loop.invariant.kept c.in_ok-hear_keep_and_speak.ensures.kept

pub loop-preserved : goal.loop-preserved
loop-preserved g c = record {
  turns = hears_on c.args.patience g.W.Observer.saw_receiver (c.args.station.now, (g.L.Line.talk c.args.line.now, g.L.Line.transmissions c.args.line.now), c.args.watch.now) c.loop.counter c.loop.quiet (c.loop.station, (g.L.Line.talk c.loop.line, g.L.Line.transmissions c.loop.line), c.loop.watch) c.loop.invariant.turns
      (c.hear_keep_and_speak.new.station, (g.L.Line.talk c.hear_keep_and_speak.new.line, g.L.Line.transmissions c.hear_keep_and_speak.new.line), c.hear_keep_and_speak.new.watch) c.in_ok-hear_keep_and_speak.ensures.turn c.quiet_after-quiet.result (search rules) (search rules);
  kept = goes_on_twice c.args.keeper.now c.loop.keeper c.hear_keep_and_speak.new.keeper c.args.station.now.jobs c.loop.station.jobs c.hear_keep_and_speak.new.station.jobs
      (g.S.Store.files c.args.store.now) (g.S.Store.files c.loop.store) (g.S.Store.files c.hear_keep_and_speak.new.store) c.loop.invariant.kept c.in_ok-hear_keep_and_speak.ensures.kept;
}

pub returns-clause-heard : goal.returns-clause-heard
returns-clause-heard g c = hears_long c.args.patience g.W.Observer.saw_receiver (c.args.station.now, (g.L.Line.talk c.args.line.now, g.L.Line.transmissions c.args.line.now), c.args.watch.now) c.loop.counter c.loop.quiet (c.loop.station, (g.L.Line.talk c.loop.line, g.L.Line.transmissions c.loop.line), c.loop.watch) c.loop.invariant.turns (search rules)
