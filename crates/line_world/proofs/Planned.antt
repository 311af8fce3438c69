-- The plan of blocks.
use Rattle.std.proofs.Common.{◌≡◌, ℕ, zero, suc, ◌+◌, ◌<◌, Bool, true, List, [], ◌∷◌, length, drop, refl, ap, ◌∙◌, arith}
use Rattle.bsc_codes.specs.declared.block.Block.{Block}
use Rattle.bsc_codes.specs.declared.block.Closing.{Closing}
use Rattle.bsc_codes.specs.declared.block.Closing.TheVariants.{Etb, Etx}
use Rattle.rje_jobs.specs.declared.job.Job.{Job}
use Rattle.rje_jobs.specs.Blocks.{blocks}
use Rattle.rje_jobs.specs.Joined.{ends_job}
use Rattle.rje_station.specs.Sending.{next_in, next_after}
use Rattle.bsc_history.specs.History.{what_follows, BeginsWithJob}
use Rattle.line_world.specs.Plan.{plan_behind, plan_of, NextIsPlanned}
use Rattle.rje_station.proofs.Uncounted.{blocks_begun}

-- ---- What follows.

next_one : (ended : Bool) (c : Closing) (bs : List Block) → next_after c bs ≡ what_follows (ended ∷ plan_behind (ends_job c) bs) 1
next_one ended c [] = refl
next_one ended Etx (x ∷ bs) = refl
next_one ended Etb (x ∷ bs) = refl

next_behind : (ended : Bool) (bs : List Block) (n : ℕ) → next_in (drop n bs) ≡ what_follows (plan_behind ended bs) (suc n)
next_behind ended [] zero = refl
next_behind ended [] (suc n) = refl
next_behind ended (b ∷ bs) zero = next_one ended b.closing bs
next_behind ended (b ∷ bs) (suc n) = next_behind (ends_job b.closing) bs n

pub next_is_planned : NextIsPlanned
next_is_planned bs n =
    let e : suc n ≡ n + 1 = omega arith in
    next_behind true bs n ∙ ap (what_follows (plan_of bs)) e

-- ---- Jobs have blocks.

pub begins : (jobs : List Job) → 0 < length jobs → BeginsWithJob (plan_of (blocks jobs))
begins jobs h = rw (blocks_begun jobs h).is refl
