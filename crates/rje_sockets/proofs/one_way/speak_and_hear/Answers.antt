use Rattle.std.proofs.Common.{rules, ◌≡◌, ◌∙◌, refl}
use Rattle.bsc_link.specs.declared.say.Say.{Say}
use Rattle.bsc_link.specs.declared.sound.Sound.{Sound}
use Rattle.bsc_link.specs.Sender.{say_in}
use Rattle.rje_session.proofs.Passed.{end_passed, spoke_as, turn_passed}
use Rattle.rje_sockets.proofs.OverLine.{said_more}
use Rattle.rje_sockets.proofs.Watched.{end_turn, more_turn}
use Rattle.rje_sockets.proofs.one_way.speak_and_hear.Goals as goal

pub returns-in-Ok-End-clause-turn : goal.returns-in-Ok-End-clause-turn
returns-in-Ok-End-clause-turn g c is =
    let end : Say.End ≡ say_in c.args.station.now.core.place = search rules in
    end_turn g.W.Observer.saw_sender c.args.station.now c.speak.new.self (g.L.Line.talk c.args.line.now, g.L.Line.transmissions c.args.line.now) (g.L.Line.talk c.speak.new.line, g.L.Line.transmissions c.speak.new.line) c.args.watch.now c.sender_took.new.self (search rules) (search rules) (search rules)
    (end_passed c.args.station.now.rest _ _ Say.End Sound.Quiet refl (spoke_as c.args.station.now.rest _ _ Say.End _ end c.in-Ok-End.ensures.sent) c.in-Ok-End.ensures.once) c.sender_took.ensures.saw

pub returns-in_ok-heard-in-Ok : goal.returns-in_ok-heard-in-Ok
returns-in_ok-heard-in-Ok g c = record {
  none = λ is. absurd cc;
  fault = tt;
  status = tt;
  turn =
      let said = c.in-Ok.said in
      let more = said_more c.args.station.now c.speak.new.self said (search rules) (search rules) (search rules) in
      λ is. more_turn g.W.Observer.saw_sender c.args.station.now c.speak.new.self c.hear.new.self (g.L.Line.talk c.args.line.now, g.L.Line.transmissions c.args.line.now) (g.L.Line.talk c.hear.new.line, g.L.Line.transmissions c.hear.new.line) c.args.watch.now c.sender_took-in-Ok.new.self said c.in_ok-heard-in-Ok.heard
      (search rules) (search rules) (search rules) (search rules) (search rules)
      (turn_passed c.args.station.now.rest _ _ (g.L.Line.talk c.speak.new.line) said c.in_ok-heard-in-Ok.heard more (spoke_as c.args.station.now.rest _ _ said _ (search rules) c.in-Ok.ensures.sent)
      (c.in_ok-heard-in-Ok.ensures.none ∙ c.in-Ok.ensures.once) c.in_ok-heard-in-Ok.ensures.heard) c.sender_took-in-Ok.ensures.saw;
}

pub returns-in-Err : goal.returns-in-Err
returns-in-Err g c = search rules
