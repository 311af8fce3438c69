-- Each turn of the loop is one turn of the conversation.
use Rattle.std.proofs.Common.{rules, ◌≡◌, Some, None, length, slice_get, refl, ◌∙◌}
use Rattle.std.proofs.lemmas.Option.{slice_get_read}
use Rattle.line_world.proofs.ForPairs.{spoken_length}
use Rattle.pair_world.specs.Inside.PairDriving.{TakesPair}
use Rattle.pair_world.proofs.Alone.{Laws}
use Rattle.pair_world.proofs.PairLoop.{pair_first, pair_more, pair_over, pair_out}
use Rattle.pair_world.proofs.PairFaults.{pair_drive_fault}
use Rattle.pair_world.proofs.pairing.take_turns.Goals as goal

pub loop-turn-init : goal.loop-turn-init
loop-turn-init c = record {
  running = pair_first c.args.primary.sender.jobs c.args.secondary.sender.jobs c.args.turns.now _ _ _ c.new-spoken.ensures.items (search rules) (search rules);
}

pub returns-in-Ok-None : goal.returns-in-Ok-None
returns-in-Ok-None c =
    let laws : Laws = record { one = c.one_hearing.ensures; every = c.every_hearing.ensures; transmits = c.written_is_transmission.ensures; counts = c.counted_blocks_end_counted_jobs.ensures; receiving = c.stations_keep_history.ensures.receiving; notes = c.trace_goes_on.ensures } in
    let running = c.loop-turn.invariant.running in
    let here : slice_get c.args.turns.now c.loop-turn.turn-index ≡ Some c.turn-item.result = slice_get_read _ _ _ _ refl c.loop-turn-test.true c.turn-item.is in
    let taken = c.in-Ok-None.ensures.taken in
    let over : TakesPair None c.turn-item.result c.loop-turn.ends.primary.station c.take_turn.new.self.primary.station c.loop-turn.ends.secondary.station c.take_turn.new.self.secondary.station = rw c.in-Ok-None.field-0-is at taken in
    let drive = pair_over laws _ _ _ _ _ _ _ _ _ c.turn-item.result running here over in
    rw (c.paired.ensures.turns, c.paired.ensures.primary, c.paired.ensures.secondary) (record { run = drive.run; drive = drive; fault = tt })

pub returns-in-Err-clause-fault : goal.returns-in-Err-clause-fault
returns-in-Err-clause-fault c =
    let laws : Laws = record { one = c.one_hearing.ensures; every = c.every_hearing.ensures; transmits = c.written_is_transmission.ensures; counts = c.counted_blocks_end_counted_jobs.ensures; receiving = c.stations_keep_history.ensures.receiving; notes = c.trace_goes_on.ensures } in
    let running = c.loop-turn.invariant.running in
    let here : slice_get c.args.turns.now c.loop-turn.turn-index ≡ Some c.turn-item.result = slice_get_read _ _ _ _ refl c.loop-turn-test.true c.turn-item.is in
    let long : c.len.result ≡ c.loop-turn.turn-index = c.len.ensures ∙ c.loop-turn.spoken.ok.0 ∙ spoken_length _ _ _ _ running in
    rw (c.at.ensures, long) (pair_drive_fault laws _ _ _ _ _ _ _ c.turn-item.result c.in-Err.fault running here c.in-Err.ensures.fault)

pub loop-turn-preserved : goal.loop-turn-preserved
loop-turn-preserved c =
    let laws : Laws = record { one = c.one_hearing.ensures; every = c.every_hearing.ensures; transmits = c.written_is_transmission.ensures; counts = c.counted_blocks_end_counted_jobs.ensures; receiving = c.stations_keep_history.ensures.receiving; notes = c.trace_goes_on.ensures } in
    let running = c.loop-turn.invariant.running in
    let here : slice_get c.args.turns.now c.loop-turn.turn-index ≡ Some c.turn-item.result = slice_get_read _ _ _ _ refl c.loop-turn-test.true c.turn-item.is in
    let taken = c.in-Ok-Some.ensures.taken in
    let took : TakesPair (Some c.in-Ok-Some.one) c.turn-item.result c.loop-turn.ends.primary.station c.take_turn.new.self.primary.station c.loop-turn.ends.secondary.station c.take_turn.new.self.secondary.station = rw c.in-Ok-Some.field-0-is at taken in
    record { running = pair_more laws _ _ _ _ _ _ _ _ _ _ c.turn-item.result c.in-Ok-Some.one running here took (search rules) }

pub returns : goal.returns
returns c =
    let laws : Laws = record { one = c.one_hearing.ensures; every = c.every_hearing.ensures; transmits = c.written_is_transmission.ensures; counts = c.counted_blocks_end_counted_jobs.ensures; receiving = c.stations_keep_history.ensures.receiving; notes = c.trace_goes_on.ensures } in
    let out : c.loop-turn.turn-index ≡ length c.args.turns.now = search rules in
    let drive = pair_out laws _ _ _ _ _ _ _ c.loop-turn.invariant.running out in
    rw (c.paired-2.ensures.turns, c.paired-2.ensures.primary, c.paired-2.ensures.secondary) (record { run = drive.run; drive = drive; fault = tt })
