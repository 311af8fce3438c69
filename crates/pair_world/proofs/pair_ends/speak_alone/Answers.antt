-- Where the reply isn't carried, the turn comes to nothing.
use Rattle.std.proofs.Common.{rules, ◌≡◌, Err}
use Rattle.rje_station.specs.Sending.{IsWrittenOf}
use Rattle.rje_station.specs.Station.{due_at}
use Rattle.pair_world.proofs.PairCarried.{fault_back}
use Rattle.pair_world.proofs.pair_ends.speak_alone.Goals as goal

pub returns-in_err-heard-in_default : goal.returns-in_err-heard-in_default
returns-in_err-heard-in_default c =
    let told : c.from_residual-in_err-heard-in_default.result ≡ Err c.in_err-heard-in_default.field-0.0 = search rules in
    let across = c.in_ok-arrival.ensures.across in
    let written : IsWrittenOf (due_at c.args.speaker.now.station) c.args.speaker.now.station.sender.rest c.say-said.new.self.line.sent = search rules in
    rw told (record {
      spoke = tt;
      fault = fault_back c.args.turn.now c.args.speaker.now.station c.args.listener.now.station c.go_across.new.listener.station c.say-said.new.self.line.sent c.in_ok-arrival.arrival.sound c.in_ok-arrival.arrival.refused c.in_ok-arrival.reply _ written (rw c.say-said.ensures.said at across) c.in_err-heard-in_default.ensures.fault;
    })
