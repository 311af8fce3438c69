use Rattle.std.proofs.Common.{rules}
use Rattle.rje_session.proofs.Passed.{hears_other}
use Rattle.rje_session.proofs.turns.hear_other.Goals as goal

pub returns-clause-heard : goal.returns-clause-heard
returns-clause-heard g c =
    hears_other c.args.station.now c.hear_other.new.self c.in-Some.arrival c.in_ok-reply.reply (g.L.Line.talk c.args.line.now) (g.L.Line.talk c.hear_other.new.line) c.in_ok-reply.ensures.live
    c.in_ok-reply.ensures.heard (search rules)
