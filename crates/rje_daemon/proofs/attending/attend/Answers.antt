use Rattle.rje_session.specs.Staying.{GoesOnAsDay}
use Rattle.rje_session.proofs.DayOn.{day_still, day_then}
use Rattle.rje_daemon.proofs.attending.attend.Goals.{in-Call, in-Listen, in_default}
use Rattle.rje_daemon.proofs.attending.attend.Goals as goal

pub loop-preserved : goal.loop-preserved
loop-preserved g c =
    let on : GoesOnAsDay c.loop.day c.match-next.day =
    elim c.match-next.branch [
      | in-Listen w ↦ rw w.day-is w.await_call.ensures.day
      | in-Call w ↦ rw w.day-is w.call.ensures.day
      | in_default w ↦ rw w.day-is (day_still c.loop.day)
    ] in
    day_then c.args.day.now c.loop.day c.match-next.day c.loop.invariant on
