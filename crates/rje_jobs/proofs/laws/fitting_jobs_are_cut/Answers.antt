use Rattle.rje_jobs.proofs.laws.fitting_jobs_are_cut.Goals as goal

pub returns : goal.returns
returns c = record { cut = λ job fits. (c.cut_is_canonical.ensures.is_cut job.select job.mode job.records fits.records, c.cut_is_canonical.ensures.only job.select job.mode job.records) }
