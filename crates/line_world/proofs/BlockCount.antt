-- How many blocks jobs have, counted one by one.
use Rattle.std.proofs.Common.{◌≡◌, ◌⊎◌, inl, inr, ℕ, ◌+◌, ◌<◌, ◌≤◌, List, ◌∷◌, length, get_or, take, ap, arith}
use Rattle.std.specs.List.{AllByRecursion}
use Rattle.std.proofs.lemmas.List.Folds.{length-flat_map-take}
use Rattle.bsc_codes.specs.declared.block.Block.{Block}
use Rattle.bsc_codes.specs.declared.block.Closing.{Closing}
use Rattle.bsc_codes.specs.declared.block.Closing.TheVariants.{Etb, Etx}
use Rattle.rje_text.specs.NextBlock.{blocks_after, cut_from, IsEnd, IsNextBlock}
use Rattle.rje_jobs.specs.declared.job.Job.{Job}
use Rattle.rje_jobs.specs.Blocks.{blocks, blocks_of_job}
use Rattle.rje_jobs.specs.Fitting.{JobFits}
use Rattle.rje_station.proofs.Uncounted.{cut_is}

-- ---- The blocks of one job.

-- so many blocks end before this record: all of them at the job's end, and else all but those from there on
pub record AreCounted (j : Job) (count place : ℕ) : Type 0 where
  pub few : place < length j.records → count ≤ place
  pub more : place < length j.records → count + length (cut_from j.select j.mode j.records place) ≡ length (blocks_of_job j)
  pub done : length j.records ≤ place → count ≡ length (blocks_of_job j)

counted_by : (j : Job) (count from to : ℕ) (c : Closing) → IsEnd c to (length j.records) → (from < to) ⊎ (length j.records ≡ 0) → count ≤ from
    → count + (1 + length (blocks_after j.select j.mode j.records c to)) ≡ length (blocks_of_job j) → AreCounted j (count + 1) to
counted_by j count from to Etx end forward few all = record {
  few = λ l. absurd (omega (arith, end, l));
  more = λ l. absurd (omega (arith, end, l));
  done = λ l. omega (arith, all);
}
counted_by j count from to Etb end forward few all = record {
  few = λ l. elim forward [ inl on ↦ omega (arith, on, few) | inr none ↦ absurd (omega (arith, none, end)) ];
  more = λ l. omega (arith, all);
  done = λ l. absurd (omega (arith, end, l));
}

-- one block more
counted_next : (j : Job) (count from to : ℕ) (b : Block) → count ≤ from → count + length (cut_from j.select j.mode j.records from) ≡ length (blocks_of_job j) → IsNextBlock j.select j.mode j.records from b to → AreCounted j (count + 1) to
counted_next j count from to b few all next =
    let one : length (b ∷ blocks_after j.select j.mode j.records b.closing to) ≡ 1 + length (blocks_after j.select j.mode j.records b.closing to) = omega arith in
    counted_by j count from to b.closing next.end next.forward few (omega (arith, all, one, ap length next.first))

pub counted_first : (j : Job) (to : ℕ) (b : Block) → IsNextBlock j.select j.mode j.records 0 b to → AreCounted j 1 to
counted_first j to b next = counted_next j 0 0 to b (omega arith) (let same = ap length (cut_is j) in omega (arith, same)) next

-- ---- The blocks of jobs.

-- these jobs, up to this one, can be sent, and have so many blocks
pub record AreCountedTo (jobs : List Job) (many count : ℕ) : Type 0 where
  pub fit : AllByRecursion JobFits (take many jobs)
  pub counted : count ≡ length (blocks (take many jobs))

-- the blocks up to a job, and those of that job, are no more than there are
pub counted_most : (jobs : List Job) (i count : ℕ) (j : Job) → AreCountedTo jobs i count → i < length jobs → j ≡ get_or jobs i j → count + length (blocks_of_job j) ≤ length (blocks jobs)
counted_most jobs i count j a l here =
    let most = length-flat_map-take blocks_of_job jobs i j l in
    omega (arith, a.counted, ap (λ k. length (blocks_of_job k)) here, most)
