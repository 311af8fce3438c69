use Rattle.std.proofs.Common.{subst}
use Rattle.rje_sockets.specs.Inside.Marking.{GoesOnMarking}
use Rattle.rje_sockets.proofs.one_way.speak_hear_and_mark.Goals as goal

pub returns-clause-marked : goal.returns-clause-marked
returns-clause-marked g c =
    subst (λ n. GoesOnMarking c.args.marker.now c.mark.new.self c.args.station.now.counted n (g.S.Store.files c.args.store.now) (g.S.Store.files c.mark.new.store)) c.counted.ensures
    (c.mark.ensures.marked c.args.station.now.counted)
