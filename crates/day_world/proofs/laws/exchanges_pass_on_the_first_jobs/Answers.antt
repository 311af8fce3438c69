-- From which job may have come over an exchange that isn't counted, and the account of its sender's session.
use Rattle.day_world.proofs.Carried.{pass_on_the_first_jobs}
use Rattle.day_world.proofs.laws.exchanges_pass_on_the_first_jobs.Goals as goal

pub returns : goal.returns
returns c = record { passed_on = search pass_on_the_first_jobs }
