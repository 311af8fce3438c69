-- What the line brings is what the fate leaves of the reply that was due.
use Rattle.std.proofs.Common.{rules, ◌≡◌, [], Some, None, Err, refl}
use Rattle.std.specs.List.{flat_map}
use Rattle.bsc_frame.specs.Written.{Written}
use Rattle.rje_station.specs.Receiving.{frame_of}
use Rattle.bsc_history.specs.Fate.{sound_of_reply}
use Rattle.line_world.specs.MemoryLine.{talk_of}
use Rattle.line_world.proofs.ForPairs.{nothing_carried, reply_written, reply_carried, reply_fault, damage_fault, line_hears}
use Rattle.pair_world.proofs.pair_ends.come_back.Goals as goal

pub returns-in_default-clause-back : goal.returns-in_default-clause-back
returns-in_default-clause-back c =
    let none : c.args.listener.now.station.receiver.due ≡ None = search rules in
    let nothing : flat_map (λ p. p) c.put.new.self.waiting ≡ [] = rw (c.put.ensures, c.new.ensures.items) refl in
    let heard = c.hear_answer.ensures.heard in
    record {
      carried = nothing_carried c.args.turn.now.down _ c.put.new.self c.hear_answer.new.self.line c.hear_answer.result none nothing heard;
      speaker = c.hear_answer.ensures.state;
      listener = c.reply.ensures.state;
    }

pub returns-in_err-carry-clause-fault : goal.returns-in_err-carry-clause-fault
returns-in_err-carry-clause-fault c =
    let told : c.from_residual.result ≡ Err c.in_err-carry.field-0.0 = search rules in
    let is : Some c.in-Some.reply ≡ c.args.listener.now.station.receiver.due = search rules in
    let written : Written (frame_of c.in-Some.reply) c.reply.new.self.line.sent = reply_written _ _ _ (talk_of c.reply.new.self.line) is c.reply.ensures.sent in
    rw told (reply_fault c.args.turn.now.down _ c.in-Some.reply c.reply.new.self.line.sent _ is written (c.in_err-carry.ensures.fault (sound_of_reply (Some c.in-Some.reply))))

pub returns-in_err-check_damage-clause-fault : goal.returns-in_err-check_damage-clause-fault
returns-in_err-check_damage-clause-fault c =
    let told : c.from_residual-in_err-check_damage.result ≡ Err c.in_err-check_damage.field-0.0 = search rules in
    let is : Some c.in-Some.reply ≡ c.args.listener.now.station.receiver.due = search rules in
    let written : Written (frame_of c.in-Some.reply) c.reply.new.self.line.sent = reply_written _ _ _ (talk_of c.reply.new.self.line) is c.reply.ensures.sent in
    let heard = c.hear_answer-heard.ensures.heard in
    let hears = line_hears c.carry.new.to c.hear_answer-heard.new.self.line heard.what _ c.in_ok-carry.ensures.comes heard.hearing in
    let wrong = c.in_err-check_damage.ensures.wrong in
    rw told (reply_fault c.args.turn.now.down _ c.in-Some.reply c.reply.new.self.line.sent _ is written
    (rw (← c.sound_of_reply.ensures) (damage_fault _ _ _ _ heard.what _ c.in_err-check_damage.ensures.fault wrong hears heard.sound_is)))

pub returns-clause-back : goal.returns-clause-back
returns-clause-back c =
    let is : Some c.in-Some.reply ≡ c.args.listener.now.station.receiver.due = search rules in
    let written : Written (frame_of c.in-Some.reply) c.reply.new.self.line.sent = reply_written _ _ _ (talk_of c.reply.new.self.line) is c.reply.ensures.sent in
    let may = c.in_ok-check_damage.ensures.may in
    let heard = c.hear_answer-heard.ensures.heard in
    record {
      carried = reply_carried c.args.turn.now.down _ c.in-Some.reply c.reply.new.self.line.sent c.carry.new.to c.hear_answer-heard.new.self.line c.hear_answer-heard.result is written c.in_ok-carry.ensures.fits c.in_ok-carry.ensures.comes heard (rw c.sound_of_reply.ensures at may);
      speaker = c.hear_answer-heard.ensures.state;
      listener = c.reply.ensures.state;
    }
