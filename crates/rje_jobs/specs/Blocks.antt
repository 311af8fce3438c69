-- The blocks of a list of jobs: the canonical cuts of the jobs, joined (own profile).
use Rattle.std.specs.Prelude.{List}
use Rattle.std.specs.List.{flat_map}
use Rattle.bsc_codes.specs.declared.block.Block.{Block}
use Rattle.rje_text.specs.Cut.{cut}
use Rattle.rje_jobs.specs.declared.job.Job.{Job}

-- the blocks of one job
abbrev pub blocks_of_job : Job → List Block
blocks_of_job job = cut job.select job.mode job.records

-- the blocks of jobs, in order
abbrev pub blocks : List Job → List Block
blocks jobs = flat_map blocks_of_job jobs
