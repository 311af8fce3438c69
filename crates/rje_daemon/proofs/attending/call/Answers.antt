use Rattle.rje_daemon.proofs.Days.{failed_step}
use Rattle.rje_daemon.proofs.attending.call.Goals as goal

pub returns-in-Err : goal.returns-in-Err
returns-in-Err g c = record { day = failed_step c.args.day.now c.note.new.self c.args.seen c.requires.seeks c.note.ensures.exact }
