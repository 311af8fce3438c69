-- A job that came and isn't counted is the next one, and its last block was spoken.
use Rattle.std.proofs.Common.{◌≡◌, refl, sym, ap, ◌∙◌, subst, ℕ, zero, suc, ◌+◌, ◌≤◌, Bool, true, false, if◌then◌else◌, List, [], ◌∷◌, length, drop, take, ◌⊎◌, inl, inr, arith, add-one}
use Rattle.std.specs.List.{AllByRecursion}
use Rattle.bsc_codes.specs.declared.block.Block.{Block}
use Rattle.bsc_codes.specs.declared.block.Closing.{Closing}
use Rattle.bsc_codes.specs.declared.block.Closing.TheVariants.{Etb, Etx}
use Rattle.bsc_frame.specs.declared.frame.Frame.{Frame}
use Rattle.bsc_link.specs.declared.rank.Rank.{Rank}
use Rattle.bsc_history.specs.Agreement.{GetsAtMostOneMore, GetsInOrder, KnowsBeforeBlocks, StaysWithinPlan}
use Rattle.bsc_history.specs.Got.{got}
use Rattle.bsc_history.specs.Known.{known}
use Rattle.rje_answers.specs.Law.{GivesOwnAnswers}
use Rattle.rje_jobs.specs.declared.job.Job.{Job}
use Rattle.rje_jobs.specs.Blocks.{blocks}
use Rattle.rje_jobs.specs.Fitting.{JobFits}
use Rattle.rje_jobs.specs.Joined.{ends_job, joined}
use Rattle.rje_text.specs.Laws.{CutReadsBack}
use Rattle.rje_station.specs.Laws.{CountsBlocks}
use Rattle.rje_station.specs.Receiving.{Receiving}
use Rattle.rje_station.specs.Sending.{Sending, counted_by, ended_by}
use Rattle.rje_station.specs.Station.{Contending}
use Rattle.line_world.specs.Headline.{HandsFirst}
use Rattle.line_world.specs.Plan.{numbered, plan_of}
use Rattle.line_world.specs.Turns.{ReceivingTurns}
use Rattle.line_world.proofs.FirstJobs.{hands_first}
use Rattle.line_world.proofs.Numbered.{numbered_first, plan_length}
use Rattle.connection_world.specs.BothWays.{AreConnected, AtEnd, Own, Crosses, Others, EndWent}
use Rattle.connection_world.specs.Connection.{Says, Comes, InVain}
use Rattle.connection_world.specs.LastBlocks.{HandOutWhatWasSaid, HandsFirstWhere, HasSaidLast, IsLastOfJob}
use Rattle.connection_world.proofs.OneWay.{AllSpoken, stand_at_last}
use Rattle.connection_world.proofs.Standing.{NextSpoken, Stood}

-- ---- What was spoken.

-- of a block that is the last one of its job this follows, by how many jobs were counted then
abbrev LastsHold : (ℕ → Type 0) → Frame → Sending → Type 0
LastsHold Holds f s = IsLastOfJob f s → Holds s.counted

lasts_hold : (Holds : ℕ → Type 0) (rank : Rank) (jobs : List Job) (past : List AtEnd) (s : Contending) (went : EndWent rank jobs past s)
    → ((n : ℕ) → HasSaidLast n rank jobs past s went → Holds n) → AllSpoken (LastsHold Holds) rank jobs past s went
lasts_hold Holds rank jobs [] s went all = tt
lasts_hold Holds rank jobs (Own (Says f) ∷ past) s (mid, went, speaks) all =
    (λ last. all mid.sender.counted (inl (refl, last)), lasts_hold Holds rank jobs past mid went (λ n said. all n (inr said)))
lasts_hold Holds rank jobs (Own (Comes a) ∷ past) s (mid, went, listens) all = lasts_hold Holds rank jobs past mid went all
lasts_hold Holds rank jobs (Own (InVain rest) ∷ past) s (mid, went, listens) all = lasts_hold Holds rank jobs past mid went all
lasts_hold Holds rank jobs (Crosses c ∷ past) s (mid, went, listens) all = lasts_hold Holds rank jobs past mid went all
lasts_hold Holds rank jobs (Others e ∷ past) s (mid, went, hears) all = lasts_hold Holds rank jobs past mid went all

-- ---- One block more.

-- it ends one job more where it is the last one of its job
abbrev with_closing : Closing → ℕ → ℕ
with_closing c n = if ends_job c then n + 1 else n

counted_so : (c : Closing) (n : ℕ) → counted_by c n ≡ with_closing c n
counted_so Etx n = refl
counted_so Etb n = refl

counted_on : (c d : Closing) (n : ℕ) → counted_by c (with_closing d n) ≡ with_closing d (counted_by c n)
counted_on Etx Etx n = refl
counted_on Etx Etb n = refl
counted_on Etb d n = refl

first_is : (c : Block) (bs : List Block) (b : Block) (behind : List Block) → c ∷ bs ≡ b ∷ behind → c ≡ b
first_is c bs b behind e = cc

ended_with : (n : ℕ) (bs : List Block) (b : Block) (behind : List Block) → drop n bs ≡ b ∷ behind
    → ended_by (take (suc n) bs) ≡ with_closing b.closing (ended_by (take n bs))
ended_with zero [] b behind e = cc
ended_with (suc n) [] b behind e = cc
ended_with zero (c ∷ bs) b behind e = counted_so c.closing 0 ∙ ap (λ x. with_closing x 0) (ap (λ x. x.closing) (first_is c bs b behind e))
ended_with (suc n) (c ∷ bs) b behind e = ap (counted_by c.closing) (ended_with n bs b behind e) ∙ counted_on c.closing b.closing (ended_by (take n bs))

-- ---- The first jobs.

module _ (back : CutReadsBack) (in_order : GetsInOrder) (within : StaysWithinPlan) (Holds : ℕ → Type 0) (jobs : List Job) (s : Sending) (r : Receiving)
    (fit : AllByRecursion JobFits jobs) (p : Stood (LastsHold Holds) jobs s r) where
  abbrev g : ℕ
  g = length (got p.h)

  abbrev k : ℕ
  k = known p.h

  hands : HandsFirst (ended_by (take g (blocks jobs))) jobs r.jobs
  hands =
      let some : g ≤ length (blocks jobs) = omega (arith, (within (plan_of (blocks jobs)) p.h p.spoken).1, plan_length (blocks jobs)) in
      subst (HandsFirst (ended_by (take g (blocks jobs))) jobs)
      (sym (p.jobs_are ∙ ap joined (ap (numbered (blocks jobs)) (in_order (plan_of (blocks jobs)) p.h p.spoken) ∙ numbered_first (blocks jobs) g some)))
      (hands_first back jobs fit g)

  one_block : g ≡ k + 1 → (next : NextSpoken (LastsHold Holds) jobs k) → ended_by (take g (blocks jobs)) ≡ with_closing next.block.closing s.counted
  one_block ahead next =
      ap (λ n. ended_by (take n (blocks jobs))) (ahead ∙ add-one k)
      ∙ ended_with k (blocks jobs) next.block next.behind (sym next.counted.rest ∙ next.rest)
      ∙ ap (with_closing next.block.closing) (sym p.counted.counted)

  one_more : g ≡ k + 1 → (next : NextSpoken (LastsHold Holds) jobs k) → (last : Bool) → ends_job next.block.closing ≡ last
      → (ended_by (take g (blocks jobs)) ≡ s.counted) ⊎ ((ended_by (take g (blocks jobs)) ≡ s.counted + 1) × Holds s.counted)
  one_more ahead next true is = inr (
    one_block ahead next ∙ ap (λ c. if c then s.counted + 1 else s.counted) is,
    subst Holds (next.counted.counted ∙ sym p.counted.counted)
        (next.spoken (record { block = next.block; behind = next.behind; outstanding = next.rest; said = next.is; last = is })),
  )
  one_more ahead next false is = inl (one_block ahead next ∙ ap (λ c. if c then s.counted + 1 else s.counted) is)

  pub hands_where : HandsFirstWhere (Holds s.counted) s.counted jobs r.jobs
  hands_where = record { whole = ended_by (take g (blocks jobs)); many = which p.got_is; first = hands }
    where
      which : (g ≡ k) ⊎ ((g ≡ k + 1) × NextSpoken (LastsHold Holds) jobs k)
          → (ended_by (take g (blocks jobs)) ≡ s.counted) ⊎ ((ended_by (take g (blocks jobs)) ≡ s.counted + 1) × Holds s.counted)
      which (inl same) = inl (ap (λ n. ended_by (take n (blocks jobs))) same ∙ sym p.counted.counted)
      which (inr (ahead, next)) = one_more ahead next (ends_job next.block.closing) refl

-- ---- Each way.

module _ (own : GivesOwnAnswers) (at_most : GetsAtMostOneMore) (knows : KnowsBeforeBlocks) (in_order : GetsInOrder) (within : StaysWithinPlan)
    (counts : CountsBlocks) (receiving : ReceivingTurns) (back : CutReadsBack) where
  one_way : (rank other : Rank) (jobs others : List Job) (near far : List AtEnd) (p s : Contending) → AllByRecursion JobFits jobs
      → (went : EndWent rank jobs near p)
      → EndWent other others far s → AreConnected rank near far
      → HandsFirstWhere (HasSaidLast p.sender.counted rank jobs near p went) p.sender.counted jobs s.receiver.jobs
  one_way rank other jobs others near far p s fit went went_other c =
      let Holds : ℕ → Type 0 = λ n. HasSaidLast n rank jobs near p went in
      let last =
      stand_at_last own at_most knows counts receiving (LastsHold Holds) jobs rank other others near far p s went went_other c
      (lasts_hold Holds rank jobs near p went (λ n said. said)) in
      subst (λ n. HandsFirstWhere (Holds n) n jobs s.receiver.jobs) last.counted
      (hands_where back in_order within Holds jobs last.near s.receiver fit last.stood)

  pub hand_out_what_was_said : HandOutWhatWasSaid
  hand_out_what_was_said ups downs near far p s fit_ups fit_downs c = (
    one_way Rank.Primary Rank.Secondary ups downs near far p s fit_ups c.primary c.secondary c.up,
    one_way Rank.Secondary Rank.Primary downs ups far near s p fit_downs c.secondary c.primary c.down,
  )
