-- Which block of a sending station's jobs is outstanding, and whether it is the last of its job (own profile).
use Rattle.std.specs.Prelude.{◌≡◌, ◌-◌, ℕ, Bool, true, false, List, [], ◌∷◌, ◌++◌, drop, length, slice_get, Option, Some}
use Rattle.bsc_codes.specs.declared.block.Block.{Block}
use Rattle.rje_text.specs.NextBlock.{cut_from}
use Rattle.rje_jobs.specs.declared.job.Job.{Job}
use Rattle.rje_jobs.specs.Blocks.{blocks}
use Rattle.rje_jobs.specs.Joined.{ends_job}
use Rattle.rje_station.specs.declared.event.Event.{Event}
use Rattle.rje_station.specs.declared.event.Event.TheVariants as event
use Rattle.rje_station.specs.Sending.{Sending}

-- the blocks of these jobs, of the first of them only those from this record on
abbrev pub blocks_from : List Job → ℕ → List Block
blocks_from [] from = []
blocks_from (j ∷ jobs) from = cut_from j.select j.mode j.records from ++ blocks jobs

-- the outstanding block begins with this record of the job after those that are counted
abbrev pub BeginsAt : Sending → ℕ → Type 0
BeginsAt s from = s.rest ≡ blocks_from (drop s.counted s.jobs) from

-- the first of these blocks is the last of its job
abbrev pub ends_with : List Block → Bool
ends_with [] = false
ends_with (b ∷ rest) = ends_job b.closing

abbrev pub is_counted : Option Event → Bool
is_counted (Some event.Counted) = true
is_counted _ = false

-- the last thing of a trace is that a block was counted
abbrev pub counts_last : List Event → Bool
counts_last trace = is_counted (slice_get trace (length trace - 1))
