use Rattle.rje_jobs.proofs.SoundCards.{deck_job_fits}
use Rattle.rje_jobs.proofs.laws.deck_jobs_fit.Goals as goal

pub returns : goal.returns
returns c = deck_job_fits
