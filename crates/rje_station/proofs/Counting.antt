-- The jobs that counted blocks end.
use Rattle.std.proofs.Common.{◌≡◌, ℕ, zero, suc, ◌+◌, Bool, true, false, if◌then◌else◌, List, [], ◌∷◌, drop, take, refl, ap, ◌∙◌, arith}
use Rattle.bsc_codes.specs.declared.block.Block.{Block}
use Rattle.bsc_codes.specs.declared.block.Closing.{Closing}
use Rattle.bsc_codes.specs.declared.block.Closing.TheVariants.{Etb, Etx}
use Rattle.bsc_link.specs.Sender.{counts_block, line_for}
use Rattle.rje_jobs.specs.declared.job.Job.{Job}
use Rattle.rje_jobs.specs.Blocks.{blocks}
use Rattle.rje_station.specs.Sending.{first_sending, rest_after, counted_after, counted_by, ended_by}
use Rattle.rje_station.specs.Laws.{HasCounted, CountsBlocks}

by_two : (c d : Closing) (m : ℕ) → counted_by d (counted_by c m) ≡ counted_by c (counted_by d m)
by_two Etx Etx m = refl
by_two Etx Etb m = refl
by_two Etb Etx m = refl
by_two Etb Etb m = refl

after_by : (bs : List Block) (c : Closing) (m : ℕ) → counted_after true bs (counted_by c m) ≡ counted_by c (counted_after true bs m)
after_by [] c m = refl
after_by (b ∷ bs) c m = by_two c b.closing m

counts_one : (bs : List Block) (n : ℕ) → counted_after true (drop n bs) (ended_by (take n bs)) ≡ ended_by (take (suc n) bs)
counts_one [] zero = refl
counts_one [] (suc n) = refl
counts_one (b ∷ bs) zero = refl
counts_one (b ∷ bs) (suc n) = after_by (drop n bs) b.closing (ended_by (take n bs)) ∙ ap (counted_by b.closing) (counts_one bs n)

rest_one : (bs : List Block) (n : ℕ) → rest_after true (drop n bs) ≡ drop (suc n) bs
rest_one [] zero = refl
rest_one [] (suc n) = refl
rest_one (b ∷ bs) zero = refl
rest_one (b ∷ bs) (suc n) = rest_one bs n

-- one step, which counts a block or doesn't
step : (c : Bool) (bs rest : List Block) (n m : ℕ) → rest ≡ drop n bs → m ≡ ended_by (take n bs)
    → (rest_after c rest ≡ drop (if c then n + 1 else n) bs) × (counted_after c rest m ≡ ended_by (take (if c then n + 1 else n) bs))
step true bs rest n m r e =
    let more : suc n ≡ n + 1 = omega arith in
    rw (r, e) (rest_one bs n ∙ ap (λ k. drop k bs) more, counts_one bs n ∙ ap (λ k. ended_by (take k bs)) more)
step false bs rest n m r e = (r, e)

first_counted : (jobs : List Job) → HasCounted jobs 0 (first_sending jobs)
first_counted jobs = record { rest = refl; counted = refl }

pub counts_blocks : CountsBlocks
counts_blocks = (
  first_counted,
  λ jobs n s sound pause h.
      let next = step (counts_block (line_for s.core sound pause)) (blocks jobs) s.rest n s.counted h.rest h.counted in
      record { rest = next.0; counted = next.1 },
)
