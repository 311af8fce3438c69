use Rattle.std.proofs.Common.{◌∙◌}
use Rattle.rje_day.specs.declared.day_event.DayEvent.{DayEvent}
use Rattle.rje_session.proofs.DayOn.{comes_step, day_then}
use Rattle.rje_session.proofs.connection.go_on.Goals as goal

pub returns-in-Ok-clause-day : goal.returns-in-Ok-clause-day
returns-in-Ok-clause-day g c =
    day_then c.args.day.now c.note_word.new.day c.note.new.self c.note_word.ensures.day
    (comes_step c.args.held.now c.go_on.new.self c.in-Ok.event c.note_word.new.day c.note.new.self c.args.seen (c.note_word.ensures.place ∙ c.requires.in_hand) c.in-Ok.ensures.comes c.note.ensures.exact)

pub returns-in-Err-clause-day : goal.returns-in-Err-clause-day
returns-in-Err-clause-day g c =
    day_then c.args.day.now c.note_word-in-Err.new.day c.note-in-Err.new.self c.note_word-in-Err.ensures.day
    (comes_step c.args.held.now c.args.held.now DayEvent.Disconnected c.note_word-in-Err.new.day c.note-in-Err.new.self c.args.seen (c.note_word-in-Err.ensures.place ∙ c.requires.in_hand) tt
    c.note-in-Err.ensures.exact)
