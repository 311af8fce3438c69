-- The blocks that aren't counted yet, as a sending station keeps them: one block, and the place of the record after it. Private
-- functions cite this; no promise rests on it.
use Rattle.std.specs.Prelude.{ℕ, Bool, List, [], ◌∷◌, ◌++◌, length, drop}
use Rattle.std.specs.List.{AllByRecursion}
use Rattle.bsc_codes.specs.declared.block.Block.{Block}
use Rattle.bsc_codes.specs.declared.block.Closing.{Closing}
use Rattle.bsc_frame.specs.declared.frame.Frame.{Frame}
use Rattle.bsc_frame.specs.declared.frame.Frame.TheVariants as frame
use Rattle.rje_text.specs.NextBlock.{blocks_after, IsEnd, IsNextBlock, IsSendable}
use Rattle.rje_jobs.specs.declared.job.Job.{Job}
use Rattle.rje_jobs.specs.Blocks.{blocks}
use Rattle.rje_jobs.specs.Fitting.{JobFits}
use Rattle.rje_station.specs.declared.sending.uncounted.Uncounted.TheInside.{Inside}
use Rattle.rje_station.specs.Sending.{rest_after, counted_after}

-- what is left of the jobs: their blocks that aren't counted, and how many jobs have their last block counted
pub record Remaining : Type 0 where
  pub jobs : List Job
  pub rest : List Block
  pub counted : ℕ

-- all blocks of these jobs
abbrev pub all_uncounted : List Job → Remaining
all_uncounted jobs = record { jobs = jobs; rest = blocks jobs; counted = 0 }

-- after a step that counted the outstanding block, or didn't
abbrev pub after_count : Bool → Remaining → Remaining
after_count counted r = record r { rest = rest_after counted r.rest; counted = counted_after counted r.rest r.counted }

-- the blocks after one of the first of these jobs, where this record comes next
abbrev pub more_in : List Job → Closing → ℕ → List Block
more_in [] closing place = []
more_in (j ∷ js) closing place = blocks_after j.select j.mode j.records closing place ++ blocks js

-- the outstanding block, which is one of the first of these jobs, and those after it; no block is outstanding where it is another frame
abbrev pub rest_in : List Job → Frame → ℕ → List Block
rest_in jobs (frame.Block b) place = b ∷ more_in jobs b.closing place
rest_in jobs _ place = []

-- the record after the outstanding block is one of the job's, or its end
abbrev pub IsPlace : List Job → Closing → ℕ → Type 0
IsPlace [] closing place = ⊥
IsPlace (j ∷ js) closing place = IsEnd closing place (length j.records)

-- so it stands with the outstanding block, which can be written
abbrev pub StandsAt : List Job → Frame → ℕ → Type 0
StandsAt jobs (frame.Block b) place = IsPlace jobs b.closing place × IsSendable b
StandsAt jobs _ place = Unit {0}

-- the block of a job that begins at this record, and goes on to that one, is outstanding
abbrev pub IsOutstanding : Job → ℕ → Frame → ℕ → Type 0
IsOutstanding j from (frame.Block b) to = IsNextBlock j.select j.mode j.records from b to × IsSendable b
IsOutstanding j from _ to = ⊥

-- what the fields stand for
abbrev pub remaining_in : Inside → Remaining
remaining_in a = record {
  jobs = a.jobs.now;
  rest = rest_in (drop a.counted a.jobs.now) a.outstanding a.place;
  counted = a.counted;
}

-- what holds of the fields
pub record IsUncounted (a : Inside) : Type 0 where
  pub fit : AllByRecursion JobFits a.jobs.now
  pub at : StandsAt (drop a.counted a.jobs.now) a.outstanding a.place
