-- What the line brings is what the fate leaves, and the station tells what was heard of it.
use Rattle.std.proofs.Common.{rules, ◌≡◌, Err}
use Rattle.rje_station.specs.Hearing.{sound_heard}
use Rattle.bsc_history.specs.Fate.{sound_of}
use Rattle.line_world.proofs.ForPairs.{damage_fault, line_hears}
use Rattle.pair_world.proofs.PairCarried.{goes_across, arrived_across}
use Rattle.pair_world.proofs.pair_ends.go_across.Goals as goal

pub returns-in_err-carry-clause-fault : goal.returns-in_err-carry-clause-fault
returns-in_err-carry-clause-fault c =
    let told : c.from_residual.result ≡ Err c.in_err-carry.field-0.0 = search rules in
    rw told (c.in_err-carry.ensures.fault (sound_of c.args.said))

pub returns-in_err-check_damage-clause-fault : goal.returns-in_err-check_damage-clause-fault
returns-in_err-check_damage-clause-fault c =
    let told : c.from_residual-in_err-check_damage.result ≡ Err c.in_err-check_damage.field-0.0 = search rules in
    let heard = c.hear_other-reply.ensures.heard in
    let is : c.hear_other-reply.result.0.sound ≡ sound_heard heard.what = arrived_across _ _ _ _ c.carry.new.to c.hear_other-reply.new.self.line _ heard c.hear_other-reply.ensures.arrival in
    let wrong = c.in_err-check_damage.ensures.wrong in
    rw (told, ← c.sound_of.ensures) (damage_fault _ _ _ _ heard.what _ c.in_err-check_damage.ensures.fault wrong (line_hears c.carry.new.to c.hear_other-reply.new.self.line heard.what _ c.in_ok-carry.ensures.comes heard.told) is)

pub returns-clause-across : goal.returns-clause-across
returns-clause-across c =
    let may = c.in_ok-check_damage.ensures.may in
    goes_across c.args.turn.now (sound_of c.args.said) c.args.speaker.now.line.sent c.args.listener.now.station c.hear_other-reply.new.self.station c.hear_other-reply.result.1 c.carry.new.to c.hear_other-reply.new.self.line
    c.hear_other-reply.result.0 c.in_ok-carry.ensures.fits c.in_ok-carry.ensures.comes c.hear_other-reply.ensures.heard c.hear_other-reply.ensures.arrival (rw c.sound_of.ensures at may)
