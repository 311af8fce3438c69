-- Each turn of the loop is one turn of the conversation.
use Rattle.std.proofs.Common.{rules, ◌≡◌, Some, None, length, slice_get, refl, ◌∙◌}
use Rattle.std.proofs.lemmas.Option.{slice_get_read}
use Rattle.line_world.specs.Inside.Driving.{Takes, TakesTurn}
use Rattle.line_world.proofs.RunLoop.{running_first, running_more, running_over, running_out, running_jobs, drive_fault}
use Rattle.line_world.proofs.RunTurns.{Laws}
use Rattle.line_world.proofs.SoFar.{spoken_length}
use Rattle.line_world.proofs.running.take_turns.Goals as goal

pub loop-turn-init : goal.loop-turn-init
loop-turn-init c = record {
  running = running_first c.args.ends.sender.jobs c.args.turns.now _ _ _ c.new-spoken.ensures.items (c.requires.sender) (c.requires.receiver);
}

pub returns-in-Ok-None : goal.returns-in-Ok-None
returns-in-Ok-None c =
    let laws : Laws = record { one = c.one_hearing.ensures; every = c.every_hearing.ensures; transmits = c.written_is_transmission.ensures; sending = c.stations_keep_history.ensures.sending; receiving = c.stations_keep_history.ensures.receiving; notes = c.trace_goes_on.ensures } in
    let running = c.loop-turn.invariant.running in
    let taken = c.in-Ok-None.ensures.taken in
    let over : Takes None c.turn-item.result _ _ _ _ = rw c.in-Ok-None.field-0-is at taken in
    let drive = running_over laws _ _ _ _ _ _ running over.0 in
    rw (c.driven.ensures.turns, c.driven.ensures.sender, c.driven.ensures.receiver, over.1, over.2) (record { run = drive.run; drive = drive; jobs = running_jobs _ _ _ _ _ _ running; fault = tt })

pub returns-in-Err-clause-fault : goal.returns-in-Err-clause-fault
returns-in-Err-clause-fault c =
    let laws : Laws = record { one = c.one_hearing.ensures; every = c.every_hearing.ensures; transmits = c.written_is_transmission.ensures; sending = c.stations_keep_history.ensures.sending; receiving = c.stations_keep_history.ensures.receiving; notes = c.trace_goes_on.ensures } in
    let running = c.loop-turn.invariant.running in
    let here : slice_get c.args.turns.now c.loop-turn.turn-index ≡ Some c.turn-item.result = slice_get_read _ _ _ _ refl c.loop-turn-test.true c.turn-item.is in
    let long : c.len.result ≡ c.loop-turn.turn-index = c.len.ensures ∙ c.loop-turn.spoken.ok.0 ∙ spoken_length _ _ _ _ running in
    rw (c.at.ensures, long) (drive_fault laws _ _ _ _ _ _ c.turn-item.result c.in-Err.fault running here c.in-Err.ensures.fault)

pub loop-turn-preserved : goal.loop-turn-preserved
loop-turn-preserved c =
    let laws : Laws = record { one = c.one_hearing.ensures; every = c.every_hearing.ensures; transmits = c.written_is_transmission.ensures; sending = c.stations_keep_history.ensures.sending; receiving = c.stations_keep_history.ensures.receiving; notes = c.trace_goes_on.ensures } in
    let running = c.loop-turn.invariant.running in
    let here : slice_get c.args.turns.now c.loop-turn.turn-index ≡ Some c.turn-item.result = slice_get_read _ _ _ _ refl c.loop-turn-test.true c.turn-item.is in
    let taken = c.in-Ok-Some.ensures.taken in
    let took : TakesTurn c.turn-item.result c.loop-turn.ends.sender c.take_turn.new.self.sender c.loop-turn.ends.receiver c.take_turn.new.self.receiver c.in-Ok-Some.one = rw c.in-Ok-Some.field-0-is at taken in
    record { running = running_more laws _ _ _ _ _ _ _ _ _ c.turn-item.result c.in-Ok-Some.one running here took (search rules) }

pub returns : goal.returns
returns c =
    let laws : Laws = record { one = c.one_hearing.ensures; every = c.every_hearing.ensures; transmits = c.written_is_transmission.ensures; sending = c.stations_keep_history.ensures.sending; receiving = c.stations_keep_history.ensures.receiving; notes = c.trace_goes_on.ensures } in
    let running = c.loop-turn.invariant.running in
    let out : c.loop-turn.turn-index ≡ length c.args.turns.now = search rules in
    let drive = running_out laws _ _ _ _ _ _ running out in
    rw (c.driven-2.ensures.turns, c.driven-2.ensures.sender, c.driven-2.ensures.receiver) (record { run = drive.run; drive = drive; jobs = running_jobs _ _ _ _ _ _ running; fault = tt })
