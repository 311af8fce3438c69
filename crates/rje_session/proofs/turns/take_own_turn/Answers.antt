use Rattle.std.proofs.Common.{◌∙◌}
use Rattle.bsc_link.specs.declared.sound.Sound.{Sound}
use Rattle.rje_session.proofs.Passed.{end_passed, end_taken, own_passed, own_taken, said_due, said_once}
use Rattle.rje_session.proofs.turns.take_own_turn.Goals as goal

pub returns-in-End-clause-takes : goal.returns-in-End-clause-takes
returns-in-End-clause-takes g c =
    let s = c.args.station.now in
    let said = c.in_ok-said.said in
    let sent = said_due s said (g.L.Line.talk c.args.line.now) (g.L.Line.talk c.speak.new.line) c.in_ok-said.ensures.said c.requires.due c.in_ok-said.ensures.sent in
    let once = said_once s (g.L.Line.transmissions c.args.line.now) (g.L.Line.transmissions c.speak.new.line) c.requires.due c.in_ok-said.ensures.once in (
      end_taken s c.speak.new.self said c.in_ok-said.ensures.live c.in_ok-said.ensures.said c.in-End.is c.in_ok-said.ensures.state,
      end_passed s.sender.rest (g.L.Line.talk c.args.line.now, g.L.Line.transmissions c.args.line.now) (g.L.Line.talk c.speak.new.line, g.L.Line.transmissions c.speak.new.line) said Sound.Quiet c.in-End.is
          sent once,
    )

pub returns-in_ok-heard-in_default-clause-takes : goal.returns-in_ok-heard-in_default-clause-takes
returns-in_ok-heard-in_default-clause-takes g c =
    let s = c.args.station.now in
    let said = c.in_ok-said.said in
    let heard = c.in_ok-heard-in_default.heard in
    let sent = said_due s said (g.L.Line.talk c.args.line.now) (g.L.Line.talk c.speak.new.line) c.in_ok-said.ensures.said c.requires.due c.in_ok-said.ensures.sent in
    let once = said_once s (g.L.Line.transmissions c.args.line.now) (g.L.Line.transmissions c.speak.new.line) c.requires.due c.in_ok-said.ensures.once in (
      own_taken s c.speak.new.self c.hear_answer.new.self said heard c.in_ok-said.ensures.live c.in_ok-said.ensures.said c.requires.due c.in_default.not-End c.in_ok-said.ensures.state
          c.in_ok-heard-in_default.ensures.state,
      own_passed s c.speak.new.self said heard (g.L.Line.talk c.args.line.now, g.L.Line.transmissions c.args.line.now) (g.L.Line.talk c.hear_answer.new.line, g.L.Line.transmissions c.hear_answer.new.line)
          (g.L.Line.talk c.speak.new.line) c.in_ok-said.ensures.said c.requires.due c.in_default.not-End c.in_ok-said.ensures.state sent (c.in_ok-heard-in_default.ensures.none ∙ once)
          c.in_ok-heard-in_default.ensures.heard,
    )
