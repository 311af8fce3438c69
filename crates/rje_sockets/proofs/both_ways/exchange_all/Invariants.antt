use Rattle.std.specs.Prelude.{◌≡◌, ◌⊎◌}
use Rattle.rje_sockets.specs.Inside.BothFiles.{GoesOnHolding, progress_of, HasCounted}
use Rattle.rje_sockets.proofs.BothWays.{SoFar}
use Rattle.rje_sockets.proofs.both_ways.exchange_all.Given as goal

abbrev pub invariant-loop : goal.invariant-loop
invariant-loop g l = record {
  turns : SoFar l.initial.patience g.W.Observer.saw_sender g.W.Observer.saw_receiver (l.initial.station, (g.L.Line.talk l.initial.line, g.L.Line.transmissions l.initial.line), l.initial.watch) l.counter l.quiet l.has_listened
      (l.station, (g.L.Line.talk l.line, g.L.Line.transmissions l.line), l.watch);
  holds : GoesOnHolding (l.initial.marker, l.initial.keeper, g.S.Store.files l.initial.store) (l.marker, l.keeper, g.S.Store.files l.store) (progress_of l.initial.station) (progress_of l.station);
  count : (l.marker.marked ≡ l.initial.marker.marked) ⊎ HasCounted l.initial.station l.marker.marked;
}
