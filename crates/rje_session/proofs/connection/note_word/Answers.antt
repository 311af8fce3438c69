use Rattle.std.proofs.Common.{false}
use Rattle.rje_day.specs.declared.inputs.Inputs.{Inputs}
use Rattle.rje_session.proofs.DayOn.{word_step}
use Rattle.rje_session.proofs.connection.note_word.Goals as goal

pub returns-then-was_answered-clause-day : goal.returns-then-was_answered-clause-day
returns-then-was_answered-clause-day c =
    let seen : Inputs = record { ready = false; held = false; drained = false; call_due = false; line_wanted = false } in
    word_step c.args.day.now c.note.new.self seen c.requires.in_hand c.note.ensures.exact
