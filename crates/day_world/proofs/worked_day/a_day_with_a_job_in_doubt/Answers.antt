-- Step by step.
use Rattle.day_world.proofs.WorkedDay.{job_in_doubt_makes_a_day}
use Rattle.day_world.proofs.worked_day.a_day_with_a_job_in_doubt.Goals as goal

pub returns : goal.returns
returns c = record { a_day = search job_in_doubt_makes_a_day }
