-- The blocks by their numbers.
use Rattle.std.proofs.Common.{◌≡◌, ℕ, zero, suc, ◌<◌, ◌≤◌, Bool, true, List, [], ◌∷◌, ◌++◌, length, take, slice_get, Some, refl, ap, sym, ◌∙◌, arith, add-one}
use Rattle.bsc_codes.specs.declared.block.Block.{Block}
use Rattle.rje_jobs.specs.Joined.{ends_job}
use Rattle.bsc_history.specs.Agreement.{first_numbers}
use Rattle.line_world.specs.Plan.{plan_of, plan_behind, numbered}
use Rattle.line_world.proofs.ReceivingTurns.{numbered_more}
use Rattle.line_world.proofs.Telling.{take_one}

length_behind : (ended : Bool) (bs : List Block) → length (plan_behind ended bs) ≡ length bs
length_behind ended [] = refl
length_behind ended (b ∷ bs) = ap suc (length_behind (ends_job b.closing) bs)

pub plan_length : (bs : List Block) → length (plan_of bs) ≡ length bs
plan_length bs = length_behind true bs

get_some : (bs : List Block) (n : ℕ) → n < length bs → (b : Block) × (slice_get bs n ≡ Some b)
get_some [] n l = absurd (omega (arith, l))
get_some (b ∷ bs) zero l = (b, refl)
get_some (b ∷ bs) (suc n) l = get_some bs n (omega (arith, l))

pub numbered_first : (bs : List Block) (n : ℕ) → n ≤ length bs → numbered bs (first_numbers n) ≡ take n bs
numbered_first bs zero l = refl
numbered_first bs (suc n) l =
    let b = get_some bs n (omega (arith, l)) in
    ap (λ k. numbered bs (first_numbers n ++ k ∷ [])) (sym (add-one n))
    ∙ numbered_more bs (first_numbers n) n b.0 b.1
    ∙ ap (λ xs. xs ++ b.0 ∷ []) (numbered_first bs n (omega (arith, l)))
    ∙ sym (take_one n bs b.0 b.1)
