use Rattle.rje_session.proofs.DayOn.{day_then}
use Rattle.rje_daemon.proofs.Days.{over_step}
use Rattle.rje_daemon.proofs.speaking.speak_over.Goals as goal

pub returns-in-Ok : goal.returns-in-Ok
returns-in-Ok g c = record {
  day = day_then c.args.day.now c.stay-stayed.new.day c.note.new.self c.stay-stayed.ensures.day (over_step c.stay-stayed.new.day c.note.new.self c.note.ensures.exact c.note.ensures.stays);
}

pub returns : goal.returns
returns g c = record {
  day = day_then c.args.day.now c.stay-stayed.new.day c.note.new.self c.stay-stayed.ensures.day (over_step c.stay-stayed.new.day c.note.new.self c.note.ensures.exact c.note.ensures.stays);
}
