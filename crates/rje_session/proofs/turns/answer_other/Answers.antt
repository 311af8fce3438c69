use Rattle.std.proofs.Common.{refl, rules}
use Rattle.rje_session.proofs.Passed.{ends_other, replies_other}
use Rattle.rje_session.proofs.turns.answer_other.Goals as goal

pub returns-then-is_over-clause-answers : goal.returns-then-is_over-clause-answers
returns-then-is_over-clause-answers g c =
    ends_other c.args.station.now c.other_ended.new.self (g.L.Line.talk c.args.line.now, g.L.Line.transmissions c.args.line.now) (g.L.Line.talk c.args.line.now, g.L.Line.transmissions c.args.line.now)
    (search rules) c.other_ended.ensures refl

pub returns-clause-answers : goal.returns-clause-answers
returns-clause-answers g c =
    replies_other c.args.station.now c.reply.new.self (g.L.Line.talk c.args.line.now, g.L.Line.transmissions c.args.line.now) (g.L.Line.talk c.reply.new.line, g.L.Line.transmissions c.reply.new.line)
    (search rules) c.in_ok-reply.ensures.state c.in_ok-reply.ensures.sent c.in_ok-reply.ensures.once
