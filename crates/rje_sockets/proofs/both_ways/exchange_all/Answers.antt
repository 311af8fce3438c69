-- Both ways at once: what came of all turns, what is marked and kept, and where it broke off.
-- An invariant: the turns so far are those of two ends, with what was kept and marked of them; each way out adds its last turn (BothWays).
use Rattle.std.proofs.Common.{rules, inl, refl}
use Rattle.rje_sockets.specs.declared.transfer_error.TransferError.{TransferError}
use Rattle.rje_sockets.specs.Inside.BothFiles.{BreaksBoth, progress_of}
use Rattle.rje_sockets.proofs.BothFiles.{breaks_others, breaks_own, ended_jobs, goes_on_kept, goes_on_marked, holds_first, others_count, own_jobs, refusal_count, same_count}
use Rattle.rje_sockets.proofs.BothWays.{ends_hung_up, ends_long, ends_over, fails_as, all_quiet, so_first, so_others, so_own, took}
use Rattle.rje_sockets.proofs.LeavingBoth.{came_near, counted_on}
use Rattle.rje_sockets.proofs.both_ways.exchange_all.Goals as goal

pub loop-init : goal.loop-init
loop-init g c = record {
  turns = so_first c.args.patience g.W.Observer.saw_sender g.W.Observer.saw_receiver (c.args.station.now, (g.L.Line.talk c.args.line.now, g.L.Line.transmissions c.args.line.now), c.args.watch.now) c.requires.patient _ c.may_bid_at_once-at_once.ensures;
  holds = holds_first (c.args.marker.now, c.args.keeper.now, g.S.Store.files c.args.store.now) (progress_of c.args.station.now);
  count = inl refl;
}

pub returns-then-is_over-clause-left : goal.returns-then-is_over-clause-left
returns-then-is_over-clause-left g c = ends_over c.args.patience g.W.Observer.saw_sender g.W.Observer.saw_receiver (c.args.station.now, (g.L.Line.talk c.args.line.now, g.L.Line.transmissions c.args.line.now), c.args.watch.now) c.loop.counter c.loop.quiet c.loop.has_listened (c.loop.station, (g.L.Line.talk c.loop.line, g.L.Line.transmissions c.loop.line), c.loop.watch) c.loop.invariant.turns (c.is_over.ensures.over c.if-is_over.true)

pub returns-in_err-take_own_turn-clause-broken : goal.returns-in_err-take_own_turn-clause-broken
returns-in_err-take_own_turn-clause-broken g c =
    let fault = c.in_err-take_own_turn.field-0.0 in
    fails_as c.from_residual.result (TransferError.Line fault)
    (BreaksBoth c.args.station.now c.take_own_turn.new.station (c.args.marker.now, c.args.keeper.now, g.S.Store.files c.args.store.now) (c.take_own_turn.new.marker, c.loop.keeper, g.S.Store.files c.take_own_turn.new.store))
    c.from_residual.ensures.1
    (breaks_own c.args.station.now c.loop.station c.take_own_turn.new.station c.loop.invariant.turns.turns (took c.args.patience g.W.Observer.saw_sender g.W.Observer.saw_receiver (c.args.station.now, (g.L.Line.talk c.args.line.now, g.L.Line.transmissions c.args.line.now), c.args.watch.now) c.loop.counter c.loop.quiet c.loop.has_listened (c.loop.station, (g.L.Line.talk c.loop.line, g.L.Line.transmissions c.loop.line), c.loop.watch) c.loop.invariant.turns) (c.args.marker.now, c.args.keeper.now, g.S.Store.files c.args.store.now) (c.loop.marker, c.loop.keeper, g.S.Store.files c.loop.store) c.loop.invariant.holds
    fault c.take_own_turn.new.marker (g.S.Store.files c.take_own_turn.new.store) (search rules) (search rules) c.in_err-take_own_turn.ensures.fault)

pub returns-in_err-take_own_turn-clause-count : goal.returns-in_err-take_own_turn-clause-count
returns-in_err-take_own_turn-clause-count g c =
    let kept = c.in_err-take_own_turn.ensures.unmarked in
    rw kept.0 c.loop.invariant.count

pub loop-preserved-then-is_own_turn : goal.loop-preserved-then-is_own_turn
loop-preserved-then-is_own_turn g c =
    let takes = c.in_ok-take_own_turn.ensures.takes in
    let turns = so_own c.args.patience g.W.Observer.saw_sender g.W.Observer.saw_receiver (c.args.station.now, (g.L.Line.talk c.args.line.now, g.L.Line.transmissions c.args.line.now), c.args.watch.now) c.loop.counter c.loop.quiet c.loop.has_listened (c.loop.station, (g.L.Line.talk c.loop.line, g.L.Line.transmissions c.loop.line), c.loop.watch) c.loop.invariant.turns
    (c.take_own_turn.new.station, (g.L.Line.talk c.take_own_turn.new.line, g.L.Line.transmissions c.take_own_turn.new.line), c.take_own_turn.new.watch) _ c.may_bid_at_once-at_once.ensures (c.is_own_turn.ensures.bids c.if-is_own_turn.true) c.in_ok-take_own_turn.ensures.takes in record {
      turns = turns;
      holds = goes_on_marked (c.args.marker.now, c.args.keeper.now, g.S.Store.files c.args.store.now) (c.loop.marker, c.loop.keeper, g.S.Store.files c.loop.store) (progress_of c.args.station.now) (progress_of c.loop.station) c.loop.invariant.holds
          c.take_own_turn.new.marker (g.S.Store.files c.take_own_turn.new.store) (progress_of c.take_own_turn.new.station) (own_jobs c.loop.station c.take_own_turn.new.station takes.0 takes.1 takes.2) c.in_ok-take_own_turn.ensures.marked;
      count = counted_on c.args.station.now c.take_own_turn.new.station c.args.marker.now.marked c.loop.marker.marked c.take_own_turn.new.marker.marked
          (came_near c.args.station.now c.take_own_turn.new.station _ (took c.args.patience g.W.Observer.saw_sender g.W.Observer.saw_receiver (c.args.station.now, (g.L.Line.talk c.args.line.now, g.L.Line.transmissions c.args.line.now), c.args.watch.now) _ _ _ (c.take_own_turn.new.station, (g.L.Line.talk c.take_own_turn.new.line, g.L.Line.transmissions c.take_own_turn.new.line), c.take_own_turn.new.watch) turns))
          c.loop.invariant.count c.in_ok-take_own_turn.ensures.count;
    }

pub returns-in_err-take_others_turn-clause-broken : goal.returns-in_err-take_others_turn-clause-broken
returns-in_err-take_others_turn-clause-broken g c =
    let broken = c.in_err-take_others_turn.field-0.0 in
    fails_as c.from_residual-in_err-take_others_turn.result broken
    (BreaksBoth c.args.station.now c.take_others_turn.new.station (c.args.marker.now, c.args.keeper.now, g.S.Store.files c.args.store.now) (c.loop.marker, c.take_others_turn.new.keeper, g.S.Store.files c.take_others_turn.new.store))
    (search rules)
    (breaks_others c.args.station.now c.loop.station c.take_others_turn.new.station c.loop.invariant.turns.turns (took c.args.patience g.W.Observer.saw_sender g.W.Observer.saw_receiver (c.args.station.now, (g.L.Line.talk c.args.line.now, g.L.Line.transmissions c.args.line.now), c.args.watch.now) c.loop.counter c.loop.quiet c.loop.has_listened (c.loop.station, (g.L.Line.talk c.loop.line, g.L.Line.transmissions c.loop.line), c.loop.watch) c.loop.invariant.turns) (c.args.marker.now, c.args.keeper.now, g.S.Store.files c.args.store.now) (c.loop.marker, c.loop.keeper, g.S.Store.files c.loop.store) c.loop.invariant.holds
    broken c.take_others_turn.new.keeper (g.S.Store.files c.take_others_turn.new.store) c.in_err-take_others_turn.ensures.fault c.in_err-take_others_turn.ensures.broken)

pub returns-then-not-branch-clause-left : goal.returns-then-not-branch-clause-left
returns-then-not-branch-clause-left g c =
    let hung_up = c.in_ok-take_others_turn.ensures.hung_up (search rules) in
    ends_hung_up c.args.patience g.W.Observer.saw_sender g.W.Observer.saw_receiver (c.args.station.now, (g.L.Line.talk c.args.line.now, g.L.Line.transmissions c.args.line.now), c.args.watch.now) c.loop.counter c.loop.quiet c.loop.has_listened (c.loop.station, (g.L.Line.talk c.loop.line, g.L.Line.transmissions c.loop.line), c.loop.watch) c.loop.invariant.turns
    c.take_others_turn.new.station (g.L.Line.talk c.take_others_turn.new.line, g.L.Line.transmissions c.take_others_turn.new.line) c.take_others_turn.new.watch hung_up.2 hung_up.0 hung_up.1

pub returns-then-not-branch-clause-holds : goal.returns-then-not-branch-clause-holds
returns-then-not-branch-clause-holds g c =
    let hung_up = c.in_ok-take_others_turn.ensures.hung_up (search rules) in
    goes_on_kept (c.args.marker.now, c.args.keeper.now, g.S.Store.files c.args.store.now) (c.loop.marker, c.loop.keeper, g.S.Store.files c.loop.store) (progress_of c.args.station.now) (progress_of c.loop.station) c.loop.invariant.holds
    c.take_others_turn.new.keeper (g.S.Store.files c.take_others_turn.new.store) (progress_of c.take_others_turn.new.station)
    (refusal_count c.loop.station c.take_others_turn.new.station hung_up.1) c.in_ok-take_others_turn.ensures.kept

pub returns-then-quiet-patience-clause-left : goal.returns-then-quiet-patience-clause-left
returns-then-quiet-patience-clause-left g c =
    all_quiet c.args.patience g.W.Observer.saw_sender g.W.Observer.saw_receiver (c.args.station.now, (g.L.Line.talk c.args.line.now, g.L.Line.transmissions c.args.line.now), c.args.watch.now) c.loop.counter c.loop.quiet c.loop.has_listened (c.loop.station, (g.L.Line.talk c.loop.line, g.L.Line.transmissions c.loop.line), c.loop.watch) c.loop.invariant.turns
    (c.take_others_turn.new.station, (g.L.Line.talk c.take_others_turn.new.line, g.L.Line.transmissions c.take_others_turn.new.line), c.take_others_turn.new.watch) c.quiet_after-quiet.result c.other_ended.new.self (c.is_own_turn.ensures.listens c.if-is_own_turn.false) (c.in_ok-take_others_turn.ensures.takes (search rules)) (search rules) (search rules) c.other_ended.ensures

pub returns-then-quiet-patience-clause-holds : goal.returns-then-quiet-patience-clause-holds
returns-then-quiet-patience-clause-holds g c =
    let takes = (c.in_ok-take_others_turn.ensures.takes (search rules)) in
    goes_on_kept (c.args.marker.now, c.args.keeper.now, g.S.Store.files c.args.store.now) (c.loop.marker, c.loop.keeper, g.S.Store.files c.loop.store) (progress_of c.args.station.now) (progress_of c.loop.station) c.loop.invariant.holds
    c.take_others_turn.new.keeper (g.S.Store.files c.take_others_turn.new.store) (progress_of c.other_ended.new.self)
    (same_count c.take_others_turn.new.station c.other_ended.new.self c.loop.station.sender.counted c.other_ended.ensures (others_count c.loop.station c.take_others_turn.new.station takes.0 takes.1 takes.2))
    (ended_jobs c.loop.keeper c.take_others_turn.new.keeper c.take_others_turn.new.station c.other_ended.new.self c.loop.station.receiver.jobs (g.S.Store.files c.loop.store) (g.S.Store.files c.take_others_turn.new.store) c.other_ended.ensures
    c.in_ok-take_others_turn.ensures.kept)

pub loop-preserved : goal.loop-preserved
loop-preserved g c =
    let takes = (c.in_ok-take_others_turn.ensures.takes (search rules)) in record {
      turns = so_others c.args.patience g.W.Observer.saw_sender g.W.Observer.saw_receiver (c.args.station.now, (g.L.Line.talk c.args.line.now, g.L.Line.transmissions c.args.line.now), c.args.watch.now) c.loop.counter c.loop.quiet c.loop.has_listened (c.loop.station, (g.L.Line.talk c.loop.line, g.L.Line.transmissions c.loop.line), c.loop.watch) c.loop.invariant.turns
          (c.take_others_turn.new.station, (g.L.Line.talk c.take_others_turn.new.line, g.L.Line.transmissions c.take_others_turn.new.line), c.take_others_turn.new.watch) c.quiet_after-quiet.result (c.is_own_turn.ensures.listens c.if-is_own_turn.false) takes (search rules) (search rules);
      holds = goes_on_kept (c.args.marker.now, c.args.keeper.now, g.S.Store.files c.args.store.now) (c.loop.marker, c.loop.keeper, g.S.Store.files c.loop.store) (progress_of c.args.station.now) (progress_of c.loop.station) c.loop.invariant.holds
          c.take_others_turn.new.keeper (g.S.Store.files c.take_others_turn.new.store) (progress_of c.take_others_turn.new.station)
          (others_count c.loop.station c.take_others_turn.new.station takes.0 takes.1 takes.2) c.in_ok-take_others_turn.ensures.kept;
      count = c.loop.invariant.count;
    }

pub returns-clause-left : goal.returns-clause-left
returns-clause-left g c = ends_long c.args.patience g.W.Observer.saw_sender g.W.Observer.saw_receiver (c.args.station.now, (g.L.Line.talk c.args.line.now, g.L.Line.transmissions c.args.line.now), c.args.watch.now) c.loop.counter c.loop.quiet c.loop.has_listened (c.loop.station, (g.L.Line.talk c.loop.line, g.L.Line.transmissions c.loop.line), c.loop.watch) c.loop.invariant.turns (search rules)
