use Rattle.rje_session.proofs.DayOn.{day_then}
use Rattle.rje_daemon.proofs.Days.{connected_step, over_step}
use Rattle.rje_daemon.proofs.speaking.speak.Goals as goal

pub returns-in-Ok : goal.returns-in-Ok
returns-in-Ok g c = record {
  day = day_then c.args.day.now c.note.new.self c.speak_over.new.day (connected_step c.args.day.now c.note.new.self c.args.seen c.requires.seeks c.note.ensures.exact) c.speak_over.ensures.day;
}

pub returns-in-Err : goal.returns-in-Err
returns-in-Err g c = record {
  day = day_then c.args.day.now c.note.new.self c.note-in-Err.new.self (connected_step c.args.day.now c.note.new.self c.args.seen c.requires.seeks c.note.ensures.exact)
      (over_step c.note.new.self c.note-in-Err.new.self c.note-in-Err.ensures.exact c.note-in-Err.ensures.stays);
}
