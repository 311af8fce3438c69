-- What holds of jobs beyond the calls that make and write them.
use Rattle.std.specs.Prelude.{◌≡◌, ℕ, List, None}
use Rattle.bsc_codes.specs.declared.block.Block.{Block}
use Rattle.rje_text.specs.declared.mode.Mode.{Mode}
use Rattle.rje_text.specs.declared.select.Select.{Select}
use Rattle.rje_text.specs.PackFault.{RecordsFit}
use Rattle.rje_text.specs.Cut.{IsCut, cut}
use Rattle.rje_jobs.specs.declared.job.Job.{Job}
use Rattle.rje_jobs.specs.Deck.{deck_fault, job_of}
use Rattle.rje_jobs.specs.Fitting.{JobFits}

-- the job of a deck without a fault can be sent
abbrev pub DeckJobsFit : Type 0
DeckJobsFit = (deck : List ℕ) (select : Select) (mode : Mode) → deck_fault deck ≡ None
    → RecordsFit (job_of select mode deck).select (job_of select mode deck).mode (job_of select mode deck).records

-- a job that can be sent has a canonical cut, and no other
abbrev pub FittingJobsAreCut : Type 0
FittingJobsAreCut = (job : Job) → JobFits job
    → IsCut job.select job.mode job.records (cut job.select job.mode job.records)
    × ((blocks : List Block) → IsCut job.select job.mode job.records blocks → blocks ≡ cut job.select job.mode job.records)
