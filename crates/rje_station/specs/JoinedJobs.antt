-- Joining accepted blocks to jobs, one block after another. The law blocks_are_joined says that this gives the jobs of the blocks.
use Rattle.std.specs.Prelude.{Bool, List, [], ◌∷◌, Option, Some, None, if◌then◌else◌}
use Rattle.bsc_codes.specs.declared.block.Block.{Block}
use Rattle.rje_text.specs.declared.unpacked.Unpacked.{Unpacked}
use Rattle.rje_text.specs.Reading.{reading}
use Rattle.rje_jobs.specs.declared.job.Job.{Job}
use Rattle.rje_jobs.specs.Joined.{ends_job, mode_of_begun, with_records}

-- the job that is begun: the last, where it isn't whole
abbrev pub begun_in : List Job → Option Job
begun_in [] = None
begun_in (j ∷ []) = if j.whole then None else Some j
begun_in (j ∷ k ∷ js) = begun_in (k ∷ js)

-- the jobs with what was read of one more block
abbrev pub with_read : List Job → Unpacked → Bool → List Job
with_read [] u whole = with_records None u whole ∷ []
with_read (j ∷ []) u whole = if j.whole then j ∷ with_records None u whole ∷ [] else with_records (Some j) u whole ∷ []
with_read (j ∷ k ∷ js) u whole = j ∷ with_read (k ∷ js) u whole

-- the jobs with one more block
abbrev pub with_block : List Job → Block → List Job
with_block jobs b = elim (reading b (mode_of_begun (begun_in jobs))) [ None ↦ jobs | Some u ↦ with_read jobs u (ends_job b.closing) ]

-- the jobs with more blocks, one after another
abbrev pub with_blocks : List Job → List Block → List Job
with_blocks jobs [] = jobs
with_blocks jobs (b ∷ bs) = with_blocks (with_block jobs b) bs
