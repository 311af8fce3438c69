use Rattle.std.proofs.Common.{ap, subst, ◌∙◌}
use Rattle.rje_station.specs.Sending.{Sending}
use Rattle.rje_sockets.specs.Inside.Marking.{GoesOnMarking}
use Rattle.rje_sockets.proofs.both_ways.take_own_turn.Goals as goal

pub returns-clause-marked : goal.returns-clause-marked
returns-clause-marked g c =
    subst (λ n. GoesOnMarking c.args.marker.now c.mark.new.self c.args.station.now.sender.counted n (g.S.Store.files c.args.store.now) (g.S.Store.files c.mark.new.store))
    (c.counted.ensures ∙ ap (λ (s : Sending). s.counted) c.sender.ensures) (c.mark.ensures.marked c.args.station.now.sender.counted)

pub returns-clause-takes : goal.returns-clause-takes
returns-clause-takes g c =
    let takes = c.in_ok-said.ensures.takes in
    (c.in_ok-said.said, c.in_ok-said.heard, takes.0, takes.1, c.sender_took.ensures.saw)
