use Rattle.std.specs.Prelude.{◌≡◌, ◌⊎◌}
use Rattle.rje_sockets.specs.Inside.Marking.{GoesOnMarking, WereCounted}
use Rattle.rje_sockets.proofs.OverLine.{SendsSoFar}
use Rattle.rje_sockets.proofs.one_way.send_all.Given as goal

abbrev pub invariant-loop : goal.invariant-loop
invariant-loop g l = record {
  marked : GoesOnMarking l.initial.marker l.marker l.initial.station.counted l.station.counted (g.S.Store.files l.initial.store) (g.S.Store.files l.store);
  count : (l.marker.marked ≡ l.initial.marker.marked) ⊎ WereCounted l.initial.station l.marker.marked;
  turns : SendsSoFar g.W.Observer.saw_sender (l.initial.station, (g.L.Line.talk l.initial.line, g.L.Line.transmissions l.initial.line), l.initial.watch) l.counter
      (l.station, (g.L.Line.talk l.line, g.L.Line.transmissions l.line), l.watch);
}
