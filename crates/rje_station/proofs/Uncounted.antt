-- The blocks that aren't counted: what follows the outstanding one.
use Rattle.std.proofs.Common.{◌≡◌, ℕ, zero, suc, ◌<◌, ◌≤◌, Bool, true, false, leb, List, [], ◌∷◌, ◌++◌, length, drop, get_or, if◌then◌else◌, None, refl, ap, sym, ◌∙◌, subst, arith}
use Rattle.std.specs.List.{AllByRecursion}
use Rattle.bsc_codes.specs.declared.block.Block.{Block}
use Rattle.bsc_codes.specs.declared.block.Closing.{Closing}
use Rattle.bsc_codes.specs.declared.block.Closing.TheVariants.{Etb, Etx}
use Rattle.bsc_frame.specs.declared.frame.Frame.{Frame}
use Rattle.bsc_frame.specs.declared.frame.Frame.TheVariants as frame
use Rattle.bsc_link.specs.declared.next.Next.TheVariants as Next
use Rattle.rje_text.specs.declared.mode.Mode.{Mode}
use Rattle.rje_text.specs.declared.record.Record.{Record}
use Rattle.rje_text.specs.PackFault.{pack_fault}
use Rattle.rje_text.specs.Spelling.{spelling}
use Rattle.rje_text.specs.Cut.{cut, cut_behind}
use Rattle.rje_text.specs.NextBlock.{cut_from, IsNextBlock}
use Rattle.rje_jobs.specs.declared.job.Job.{Job}
use Rattle.rje_jobs.specs.Blocks.{blocks, blocks_of_job}
use Rattle.rje_jobs.specs.Fitting.{JobFits}
use Rattle.rje_station.specs.Sending.{next_after}
use Rattle.rje_station.specs.Inside.Uncounted.{rest_in, more_in, IsPlace, IsOutstanding}

-- ---- Cuts are never empty.

-- there is a first block
pub record Begun (bs : List Block) : Type 0 where
  pub first : Block
  pub more : List Block
  pub is : bs ≡ first ∷ more

pub begun_if : (c : Bool) (a b : List Block) → Begun a → Begun b → Begun (if c then a else b)
begun_if true a b h k = h
begun_if false a b h k = k

pub begun_append : (a b : List Block) → Begun a → Begun (a ++ b)
begun_append a b h = record { first = h.first; more = h.more ++ b; is = ap (λ x. x ++ b) h.is }

pub cut_begun : (mode : Mode) (text : List ℕ) (rs : List Record) → Begun (cut_behind mode text rs)
cut_begun mode text [] = record { first = _; more = []; is = refl }
cut_begun mode text (r ∷ rs) =
    begun_if (leb (length (text ++ spelling mode r)) 510) _ _ (cut_begun mode (text ++ spelling mode r) rs) (record { first = _; more = cut_behind mode (spelling mode r) rs; is = refl })

pub cut_is : (j : Job) → blocks_of_job j ≡ cut_from j.select j.mode j.records 0
unfolding cut
cut_is j = refl

pub blocks_begun : (jobs : List Job) → 0 < length jobs → Begun (blocks jobs)
blocks_begun [] h = absurd (omega (arith, h))
blocks_begun (j ∷ js) h = begun_append (blocks_of_job j) (blocks js) (subst Begun (sym (cut_is j)) (cut_begun j.mode _ j.records))

-- jobs have a block
pub blocks_some : (jobs : List Job) → 0 < length jobs → blocks jobs ≡ [] → ⊥
blocks_some jobs h e = let b = blocks_begun jobs h in let c = sym b.is ∙ e in absurd cc

-- ---- What follows the outstanding block.

next_more : (closing : Closing) (bs : List Block) → closing ≡ Etb → Begun bs → next_after closing bs ≡ Next.Block
next_more closing bs e h = rw (e, h.is) refl

next_job : (closing : Closing) (bs : List Block) → closing ≡ Etx → Begun bs → next_after closing bs ≡ Next.NewJob
next_job closing bs e h = rw (e, h.is) refl

pub next_etb : (js : List Job) (closing : Closing) (place : ℕ) → IsPlace js closing place → closing ≡ Etb → next_after closing (more_in js closing place) ≡ Next.Block
next_etb [] closing place h e = absurd h
next_etb (j ∷ js) closing place h e = rw e (next_more Etb _ refl (begun_append (cut_from j.select j.mode j.records place) (blocks js) (cut_begun j.mode _ (drop place j.records))))

pub next_etx : (js : List Job) (closing : Closing) (place : ℕ) → IsPlace js closing place → closing ≡ Etx → 1 < length js → next_after closing (more_in js closing place) ≡ Next.NewJob
next_etx [] closing place h e l = absurd h
next_etx (j ∷ []) closing place h e l = absurd (omega (arith, l))
next_etx (j ∷ k ∷ js) closing place h e l = rw e (next_job Etx _ refl (blocks_begun (k ∷ js) (omega arith)))

pub next_done : (js : List Job) (closing : Closing) (place : ℕ) → IsPlace js closing place → closing ≡ Etx → length js ≤ 1 → next_after closing (more_in js closing place) ≡ Next.Done
next_done [] closing place h e l = absurd h
next_done (j ∷ []) closing place h e l = rw e refl
next_done (j ∷ k ∷ js) closing place h e l = absurd (omega (arith, l))

-- ---- The first block of a job, and the block after one.

pub begins : (js rest : List Job) (j : Job) (b : Block) (to : ℕ) → js ≡ j ∷ rest → IsNextBlock j.select j.mode j.records 0 b to → b ∷ more_in js b.closing to ≡ blocks js
begins js rest j b to e n = rw e (ap (λ x. x ++ blocks rest) (sym (cut_is j ∙ n.first)))

-- .. as it stands with the outstanding block
pub begins_with : (js rest : List Job) (j : Job) (f : Frame) (to : ℕ) → js ≡ j ∷ rest → IsOutstanding j 0 f to → rest_in js f to ≡ blocks js
begins_with js rest j (frame.Block b) to e n = begins js rest j b to e n.0
begins_with js rest j _ to e n = absurd n

pub more_etx : (jobs : List Job) (at : ℕ) (place : ℕ) → IsPlace (drop at jobs) Etx place → blocks (drop (suc at) jobs) ≡ more_in (drop at jobs) Etx place
more_etx [] zero place h = absurd h
more_etx (j ∷ js) zero place h = refl
more_etx [] (suc at) place h = absurd h
more_etx (j ∷ js) (suc at) place h = more_etx js at place h

-- each of the jobs can be sent
pub fit_at : (jobs : List Job) (at : ℕ) (j : Job) → AllByRecursion JobFits jobs → at < length jobs → j ≡ get_or jobs at j → AllByRecursion (λ r. pack_fault j.select j.mode r ≡ None) j.records
fit_at [] at j h l e = absurd (omega (arith, l))
fit_at (k ∷ js) zero j h l e = rw e h.0.records.sent
fit_at (k ∷ js) (suc at) j h l e = fit_at js at j h.1 (omega (arith, l)) e

pub place_within : (jobs : List Job) (at : ℕ) (closing : Closing) (place : ℕ) → IsPlace (drop at jobs) closing place → at < length jobs
place_within [] zero closing place h = absurd h
place_within (j ∷ js) zero closing place h = omega arith
place_within [] (suc at) closing place h = absurd h
place_within (j ∷ js) (suc at) closing place h = omega (arith, place_within js at closing place h)
