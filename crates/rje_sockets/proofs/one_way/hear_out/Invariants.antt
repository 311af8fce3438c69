use Rattle.rje_sockets.specs.Inside.Keeping.{GoesOnKeeping}
use Rattle.rje_sockets.proofs.Patience.{HearsSoFar}
use Rattle.rje_sockets.proofs.one_way.hear_out.Given as goal

abbrev pub invariant-loop : goal.invariant-loop
invariant-loop g l = record {
  turns : HearsSoFar l.initial.patience g.W.Observer.saw_receiver (l.initial.station, (g.L.Line.talk l.initial.line, g.L.Line.transmissions l.initial.line), l.initial.watch) l.counter l.quiet
      (l.station, (g.L.Line.talk l.line, g.L.Line.transmissions l.line), l.watch);
  kept : GoesOnKeeping l.initial.keeper l.keeper l.initial.station.jobs l.station.jobs (g.S.Store.files l.initial.store) (g.S.Store.files l.store);
}
