-- The day goes on as it may after one hearing, at each way out.
-- Each way out is one step of the day (`day_then`), or none.
use Rattle.std.proofs.Common.{ap, refl, ◌∙◌}
use Rattle.rje_day.specs.declared.next_action.NextAction.{NextAction}
use Rattle.rje_day.specs.declared.day_event.DayEvent.{DayEvent}
use Rattle.rje_day.specs.Day.{after}
use Rattle.rje_session.specs.Breaking.{is_word}
use Rattle.rje_session.proofs.DayOn.{day_then, free_step, heard_step}
use Rattle.rje_session.proofs.connection.hear.Goals as goal

pub returns-in-Err : goal.returns-in-Err
returns-in-Err g c = record { day = free_step c.args.day.now c.note.new.self c.args.seen NextAction.Hear DayEvent.Disconnected c.requires.next c.requires.free refl refl c.note.ensures.exact }

pub returns-in-Ok-take_others_turn : goal.returns-in-Ok-take_others_turn
returns-in-Ok-take_others_turn g c = record {
  day = day_then c.args.day.now c.note-in-Ok-take_others_turn.new.self c.carry.new.day
      (free_step c.args.day.now c.note-in-Ok-take_others_turn.new.self c.args.seen NextAction.Hear DayEvent.OtherBegan c.requires.next c.requires.free refl refl c.note-in-Ok-take_others_turn.ensures.exact)
      c.carry.ensures.day;
}

pub returns-in_err-carry-in-Ok-take_others_turn : goal.returns-in_err-carry-in-Ok-take_others_turn
returns-in_err-carry-in-Ok-take_others_turn g c = record {
  day = day_then c.args.day.now c.note-in-Ok-take_others_turn.new.self c.carry.new.day
      (free_step c.args.day.now c.note-in-Ok-take_others_turn.new.self c.args.seen NextAction.Hear DayEvent.OtherBegan c.requires.next c.requires.free refl refl c.note-in-Ok-take_others_turn.ensures.exact)
      c.carry.ensures.day;
}

pub returns-in-Ok-2 : goal.returns-in-Ok-2
returns-in-Ok-2 g c = record {
  day = heard_step c.args.day.now c.note-in-Ok-2.new.self c.args.seen (is_word c.in-Ok-take_others_turn.field-0.sound) c.requires.next c.requires.free
      (c.note-in-Ok-2.ensures.exact ∙ ap (λ (e : DayEvent). after e c.args.day.now) c.heard.ensures);
}

pub returns-in-Err-Line : goal.returns-in-Err-Line
returns-in-Err-Line g c = record {
  day = free_step c.args.day.now c.note-in-Err-Line.new.self c.args.seen NextAction.Hear DayEvent.Disconnected c.requires.next c.requires.free refl refl c.note-in-Err-Line.ensures.exact;
}

pub returns-in-Err-TooMuch : goal.returns-in-Err-TooMuch
returns-in-Err-TooMuch g c = record {
  day = free_step c.args.day.now c.note-in-Err-TooMuch.new.self c.args.seen NextAction.Hear DayEvent.Disconnected c.requires.next c.requires.free refl refl c.note-in-Err-TooMuch.ensures.exact;
}

pub returns : goal.returns
returns g c = record {
  day = free_step c.args.day.now c.note-in-Err-Spool.new.self c.args.seen NextAction.Hear DayEvent.Disconnected c.requires.next c.requires.free refl refl c.note-in-Err-Spool.ensures.exact;
}
