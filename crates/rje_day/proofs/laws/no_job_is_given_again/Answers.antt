use Rattle.rje_day.proofs.GivenOnce.{gives_no_job_again}
use Rattle.rje_day.proofs.laws.no_job_is_given_again.Goals as goal

pub returns : goal.returns
returns c = gives_no_job_again
