-- The blocks of jobs as the rules of history see them: by number, and whether each begins a job. Own profile.
use Rattle.std.specs.Prelude.{◌≡◌, ℕ, ◌+◌, ◌-◌, Bool, true, List, [], ◌∷◌, drop, slice_get}
use Rattle.std.specs.List.{flat_map}
use Rattle.std.specs.Option.{option_to_list}
use Rattle.bsc_codes.specs.declared.block.Block.{Block}
use Rattle.rje_jobs.specs.Joined.{ends_job}
use Rattle.rje_station.specs.Sending.{next_in}
use Rattle.bsc_history.specs.History.{Plan, what_follows}

-- behind a block that ends its job the next one begins a job
abbrev pub plan_behind : Bool → List Block → Plan
plan_behind ended [] = []
plan_behind ended (b ∷ bs) = ended ∷ plan_behind (ends_job b.closing) bs

-- the plan of these blocks: the first one begins a job
abbrev pub plan_of : List Block → Plan
plan_of blocks = plan_behind true blocks

-- the blocks with these numbers, counted from 1
abbrev pub numbered : List Block → List ℕ → List Block
numbered blocks numbers = flat_map (λ n. option_to_list (slice_get blocks (n - 1))) numbers

-- what follows the first of the blocks that aren't counted is what the plan says
abbrev pub NextIsPlanned : Type 0
NextIsPlanned = (blocks : List Block) (n : ℕ) → next_in (drop n blocks) ≡ what_follows (plan_of blocks) (n + 1)
