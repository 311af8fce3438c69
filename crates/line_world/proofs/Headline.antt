-- The headline, from the law of agreement and the law that a cut reads back.
use Rattle.std.proofs.Common.{◌≡◌, ◌⊎◌, inl, inr, ℕ, zero, suc, ◌+◌, ◌≤◌, true, List, [], ◌∷◌, ◌++◌, length, take, drop, slice_get, refl, ap, sym, ◌∙◌, subst, arith, add-one, take-take}
use Rattle.std.specs.List.{AllByRecursion}
use Rattle.std.proofs.lemmas.List.{append_assoc, append-nil, take-append-drop}
use Rattle.std.proofs.lemmas.Grind.{flat_map-append}
use Rattle.bsc_codes.specs.declared.block.Block.{Block}
use Rattle.bsc_codes.specs.declared.block.Closing.{Closing}
use Rattle.bsc_codes.specs.declared.block.Closing.TheVariants.{Etb, Etx}
use Rattle.rje_text.specs.Laws.{CutReadsBack}
use Rattle.rje_jobs.specs.declared.job.Job.{Job}
use Rattle.rje_jobs.specs.Blocks.{blocks}
use Rattle.rje_jobs.specs.Fitting.{JobFits}
use Rattle.rje_jobs.specs.Joined.{joined}
use Rattle.rje_station.specs.Sending.{ended_by, counted_by}
use Rattle.line_world.specs.Headline.{records_of, IsPrefixOf, AreHandedInOrder, AreHandedWhole, IsBegun, HandsFirst, HandsFirstJobs, OfHistories, OfRuns}
use Rattle.bsc_history.specs.Known.{known}
use Rattle.bsc_history.specs.Got.{got}
use Rattle.line_world.specs.Plan.{plan_of, numbered}
use Rattle.bsc_history.proofs.ForRuns.{at_most_one_more, in_order, conversations_may_be_spoken}
use Rattle.line_world.proofs.FirstJobs.{hands_first}
use Rattle.line_world.proofs.Numbered.{plan_length, numbered_first}
use Rattle.bsc_history.proofs.ForRuns.{stays_within_plan}
use Rattle.line_world.proofs.Telling.{drop_one}

-- ---- One block more ends one job more, or none.

counted_one : (c : Closing) (n m : ℕ) → (m ≡ n) ⊎ (m ≡ n + 1) → (counted_by c m ≡ counted_by c n) ⊎ (counted_by c m ≡ counted_by c n + 1)
counted_one Etx n m (inl e) = inl (ap (λ k. k + 1) e)
counted_one Etx n m (inr e) = inr (ap (λ k. k + 1) e)
counted_one Etb n m e = e

one_block : (c : Closing) → (counted_by c 0 ≡ 0) ⊎ (counted_by c 0 ≡ 0 + 1)
one_block Etx = inr refl
one_block Etb = inl refl

ended_one_more : (n : ℕ) (bs : List Block) → (ended_by (take (suc n) bs) ≡ ended_by (take n bs)) ⊎ (ended_by (take (suc n) bs) ≡ ended_by (take n bs) + 1)
ended_one_more zero [] = inl refl
ended_one_more (suc n) [] = inl refl
ended_one_more zero (b ∷ bs) = one_block b.closing
ended_one_more (suc n) (b ∷ bs) = counted_one b.closing (ended_by (take n bs)) (ended_by (take (suc n) bs)) (ended_one_more n bs)

-- ---- The first jobs.

counted_or_more : (bs : List Block) (g k : ℕ) → (g ≡ k) ⊎ (g ≡ k + 1) → (ended_by (take g bs) ≡ ended_by (take k bs)) ⊎ (ended_by (take g bs) ≡ ended_by (take k bs) + 1)
counted_or_more bs g k (inl e) = inl (ap (λ n. ended_by (take n bs)) e)
counted_or_more bs g k (inr e) = subst (λ n. (ended_by (take n bs) ≡ ended_by (take k bs)) ⊎ (ended_by (take n bs) ≡ ended_by (take k bs) + 1)) (sym (e ∙ add-one k)) (ended_one_more k bs)

-- of every history of the law of agreement
pub histories_first_jobs : CutReadsBack → OfHistories HandsFirstJobs
histories_first_jobs back jobs h fit may =
    let bs = blocks jobs in
    let plan = plan_of bs in
    let g = length (got h) in
    let within : g ≤ length bs = omega (arith, (stays_within_plan plan h may).1, plan_length bs) in
    let handed_is : joined (numbered bs (got h)) ≡ joined (take g bs) = ap joined (ap (numbered bs) (in_order plan h may) ∙ numbered_first bs g within) in
    (ended_by (take g bs), counted_or_more bs g (known h) (at_most_one_more plan h may), subst (HandsFirst (ended_by (take g bs)) jobs) (sym handed_is) (hands_first back jobs fit g))

-- so of runs
of_runs : (Holds : ℕ → List Job → List Job → Type 0) → OfHistories Holds → OfRuns Holds
of_runs Holds law jobs turns spoken handed counted ending fit run =
    let may = conversations_may_be_spoken (plan_of (blocks jobs)) run.history run.conversation.conversation.spoken.conversation in
    subst (λ n. Holds n jobs handed) (sym run.counted_is) (subst (Holds (ended_by (take (known run.history) (blocks jobs))) jobs) (sym run.handed_is) (law jobs run.history fit may))

pub first_jobs : CutReadsBack → OfRuns HandsFirstJobs
first_jobs back = of_runs HandsFirstJobs (histories_first_jobs back)

-- ---- Their records.

records_append : (xs ys : List Job) → records_of (xs ++ ys) ≡ records_of xs ++ records_of ys
records_append xs ys = flat_map-append (λ job. job.records) xs ys

split : (w : ℕ) (xs : List Job) → records_of xs ≡ records_of (take w xs) ++ records_of (drop w xs)
split w xs = ap records_of (sym (take-append-drop w xs)) ∙ records_append (take w xs) (drop w xs)

-- what is begun is a prefix of what is left
begun_prefix : (w : ℕ) (given rest : List Job) → IsBegun (slice_get given w) rest → IsPrefixOf (records_of rest) (records_of (drop w given))
begun_prefix w given rest (inl none) = (records_of (drop w given), ap (λ xs. records_of xs ++ records_of (drop w given)) none)
begun_prefix w given rest (inr (job, here, (cut, is, b))) =
    let behind = records_of (drop (suc w) given) in (
      b.records.0 ++ behind,
      ap (λ xs. records_of xs ++ (b.records.0 ++ behind)) is
          ∙ ap (λ xs. xs ++ (b.records.0 ++ behind)) (append-nil cut.records)
          ∙ sym (append_assoc cut.records b.records.0 behind)
          ∙ ap (λ xs. xs ++ behind) b.records.1
          ∙ sym (ap records_of (drop_one w given job here)),
    )

in_order_of : (w : ℕ) (given handed : List Job) → HandsFirst w given handed → AreHandedInOrder given handed
in_order_of w given handed h =
    let rest = begun_prefix w given (drop w handed) h.after in (
      rest.0,
      ap (λ xs. xs ++ rest.0) (split w handed ∙ ap (λ xs. records_of xs ++ records_of (drop w handed)) h.first)
          ∙ append_assoc (records_of (take w given)) (records_of (drop w handed)) rest.0
          ∙ ap (λ xs. records_of (take w given) ++ xs) rest.1
          ∙ sym (split w given),
    )

pub histories_in_order : CutReadsBack → OfHistories (λ counted given handed. AreHandedInOrder given handed)
histories_in_order back jobs h fit may =
    let first = histories_first_jobs back jobs h fit may in
    in_order_of first.0 jobs _ first.2

pub records_in_order : CutReadsBack → OfRuns (λ counted given handed. AreHandedInOrder given handed)
records_in_order back = of_runs (λ counted given handed. AreHandedInOrder given handed) (histories_in_order back)

-- ---- The counted ones.

take_less : (n w : ℕ) (xs ys : List Job) → n ≤ w → take w xs ≡ take w ys → take n xs ≡ take n ys
take_less n w xs ys less same = sym (take-take n w xs less) ∙ ap (take n) same ∙ take-take n w ys less

all_whole : (n : ℕ) (jobs : List Job) → AllByRecursion JobFits jobs → AllByRecursion (λ job. job.whole ≡ true) (take n jobs)
all_whole zero jobs fit = tt
all_whole (suc n) [] fit = tt
all_whole (suc n) (j ∷ jobs) fit = (fit.0.whole, all_whole n jobs fit.1)

pub histories_counted_whole : CutReadsBack → OfHistories AreHandedWhole
histories_counted_whole back jobs h fit may =
    let counted = ended_by (take (known h) (blocks jobs)) in
    let handed = joined (numbered (blocks jobs) (got h)) in
    let first = histories_first_jobs back jobs h fit may in
    let less : counted ≤ first.0 = elim first.1 [ inl e ↦ omega (arith, e) | inr e ↦ omega (arith, e) ] in
    let same : take counted handed ≡ take counted jobs = take_less counted first.0 handed jobs less first.2.first in
    record { within = omega (arith, less, first.2.within); same = same; whole = subst (AllByRecursion (λ job. job.whole ≡ true)) (sym same) (all_whole counted jobs fit) }

pub counted_whole : CutReadsBack → OfRuns AreHandedWhole
counted_whole back = of_runs AreHandedWhole (histories_counted_whole back)
