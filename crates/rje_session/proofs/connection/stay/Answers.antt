-- The day goes on as it may, transmission after transmission.
-- An invariant over the loop: the day so far is one (`day_still`), and each step of the loop adds one to it.
use Rattle.std.proofs.Common.{sym, ◌∙◌}
use Rattle.rje_session.specs.Staying.{GoesOnAsDay}
use Rattle.rje_session.proofs.DayOn.{day_still, day_then, gone_step}
use Rattle.rje_session.proofs.connection.stay.Goals.{else-is_of_connection, in-Bid+in_ok-given-in-Bid, in-Hear+in_ok-parting-in-Hear, in_default, then-is_of_connection}
use Rattle.rje_session.proofs.connection.stay.Goals as goal

pub returns-then-not-is_in_step : goal.returns-then-not-is_in_step
returns-then-not-is_in_step g c =
    let on : GoesOnAsDay c.loop.day c.if-is_of_connection.day =
    elim c.if-is_of_connection.branch [
      | then-is_of_connection w ↦
          rw w.day-is (gone_step c.loop.day w.note.new.self c.seen-seen.result c.next-duty.result c.next-duty.ensures.exact (sym c.is_of_connection.ensures ∙ w.if-is_of_connection.true) w.note.ensures.exact)
      | else-is_of_connection w ↦ rw w.day-is (day_still c.loop.day)
    ] in record { day = day_then c.args.day.now c.loop.day c.if-is_of_connection.day c.loop.invariant on }

pub returns-in_err-doubt : goal.returns-in_err-doubt
returns-in_err-doubt g c =
    let on : GoesOnAsDay c.loop.day c.if-is_of_connection.day =
    elim c.if-is_of_connection.branch [
      | then-is_of_connection w ↦
          rw w.day-is (gone_step c.loop.day w.note.new.self c.seen-seen.result c.next-duty.result c.next-duty.ensures.exact (sym c.is_of_connection.ensures ∙ w.if-is_of_connection.true) w.note.ensures.exact)
      | else-is_of_connection w ↦ rw w.day-is (day_still c.loop.day)
    ] in record { day = day_then c.args.day.now c.loop.day c.if-is_of_connection.day c.loop.invariant on }

pub returns-in_err-given-in-Bid : goal.returns-in_err-given-in-Bid
returns-in_err-given-in-Bid g c = record { day = day_then c.args.day.now c.loop.day c.bid.new.day c.loop.invariant c.bid.ensures.day }

pub returns-in_err-parting-in-Hear : goal.returns-in_err-parting-in-Hear
returns-in_err-parting-in-Hear g c = record { day = day_then c.args.day.now c.loop.day c.hear.new.day c.loop.invariant c.hear.ensures.day }

pub loop-preserved : goal.loop-preserved
loop-preserved g c =
    let on : GoesOnAsDay c.loop.day c.match-duty.day =
    elim c.match-duty.branch [
      | in-Bid+in_ok-given-in-Bid w ↦ rw w.day-is w.bid.ensures.day
      | in-Hear+in_ok-parting-in-Hear w ↦ rw w.day-is w.hear.ensures.day
      | in_default w ↦
          rw w.day-is (gone_step c.loop.day w.note-in_default.new.self c.seen-seen.result c.next-duty.result c.next-duty.ensures.exact
          (sym c.is_of_connection-in-loop.ensures ∙ c.if-not-is_of_connection.false) w.note-in_default.ensures.exact)
    ] in
    day_then c.args.day.now c.loop.day c.match-duty.day c.loop.invariant on
