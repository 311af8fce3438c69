use Rattle.settle_world.proofs.WorkedDay.{lost_job_makes_a_day}
use Rattle.settle_world.proofs.worked_day.a_day_with_a_lost_job.Goals as goal

pub returns : goal.returns
returns c = record { a_day = lost_job_makes_a_day }
