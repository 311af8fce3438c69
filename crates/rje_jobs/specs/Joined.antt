-- The jobs that blocks are joined to: the blocks cut after each one with ETX; each group is a job (own profile).
use Rattle.std.specs.Prelude.{Bool, true, false, List, [], ◌∷◌, ◌++◌, Option, Some, None, option_map, if◌then◌else◌}
use Rattle.std.specs.Option.{option_to_list}
use Rattle.bsc_codes.specs.declared.block.Block.{Block}
use Rattle.bsc_codes.specs.declared.block.Closing.{Closing}
use Rattle.bsc_codes.specs.declared.block.Closing.TheVariants.{Etb, Etx}
use Rattle.rje_text.specs.declared.mode.Mode.{Mode}
use Rattle.rje_text.specs.declared.unpacked.Unpacked.{Unpacked}
use Rattle.rje_text.specs.Reading.{reading}
use Rattle.rje_jobs.specs.declared.job.Job.{Job}

-- a block with ETX is its job's last
abbrev pub ends_job : Closing → Bool
ends_job Etx = true
ends_job Etb = false

-- the mode of a job that is begun, if there is one
abbrev pub mode_of_begun : Option Job → Option Mode
mode_of_begun begun = option_map (λ job. job.mode) begun

-- a job that is begun with the records of one more block; a job's first block gives its selection and mode
abbrev pub with_records : Option Job → Unpacked → Bool → Job
with_records None u whole = record { select = u.select; mode = u.mode; records = u.records; whole = whole }
with_records (Some job) u whole = record job { records = job.records ++ u.records; whole = whole }

-- the jobs of the blocks after a job that is begun; a job whose last block came is whole, and one of which blocks came but not the last one
-- stands last, not whole. A block that can't be read, which no station accepts, is passed over.
abbrev pub joined_behind : Option Job → List Block → List Job
joined_behind begun [] = option_to_list begun
joined_behind begun (b ∷ bs) = elim (reading b (mode_of_begun begun)) [
  | None ↦ joined_behind begun bs
  | Some u ↦ if ends_job b.closing
      then with_records begun u true ∷ joined_behind None bs
      else joined_behind (Some (with_records begun u false)) bs
]

-- the jobs of these blocks
abbrev pub joined : List Block → List Job
joined blocks = joined_behind None blocks
