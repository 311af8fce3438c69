-- Where the reply isn't carried, the turn comes to nothing. The lines stay those of which no call fails.
use Rattle.std.proofs.Common.{rules, ◌≡◌, false, Err}
use Rattle.bsc_link.specs.Sender.{say_in}
use Rattle.rje_station.specs.Sending.{is_end}
use Rattle.line_world.proofs.Calm.{stays_calm, not_end}
use Rattle.line_world.proofs.TurnFaults.{fault_down}
use Rattle.line_world.proofs.ends.Ends.take_turn.Goals as goal

pub returns-in_err-heard-in_default : goal.returns-in_err-heard-in_default
returns-in_err-heard-in_default c =
    let told : c.from_residual-in_err-heard-in_default.result ≡ Err c.in_err-heard-in_default.field-0.0 = search rules in
    let up = c.in_ok-arrival.ensures.up in
    rw told (record {
      taken = tt;
      fault = fault_down c.args.turn.now c.args.self.now.sender c.args.self.now.receiver c.go_up.new.self.receiver c.speak.new.line.sent c.in_ok-arrival.arrival.sound c.in_ok-arrival.arrival.refused c.in_ok-arrival.reply _ c.in-Ok.ensures.live c.in-Ok.ensures.sent.0 (rw c.in-Ok.ensures.said at up) c.in_err-heard-in_default.ensures.fault;
    })

pub invariant_of-self-clause-sending_calm : goal.invariant_of-self-clause-sending_calm
invariant_of-self-clause-sending_calm c = stays_calm c.args.self.now.sending_line c.speak.new.line c.speak.ensures.ages (search rules)

pub go_down-requires : goal.go_down-requires
go_down-requires c =
    let more : is_end (say_in c.args.self.now.sender.core.place) ≡ false = not_end (say_in c.args.self.now.sender.core.place) (search rules) in
    search rules
