-- The first blocks of jobs, joined, are the first jobs, and a beginning of the next.
use Rattle.std.proofs.Common.{◌≡◌, ◌⊎◌, inl, inr, ℕ, zero, suc, ◌+◌, true, false, List, [], ◌∷◌, ◌++◌, take, Option, Some, None, refl, ap, sym, ◌∙◌, subst, arith, add-one}
use Rattle.std.specs.List.{AllByRecursion}
use Rattle.bsc_codes.specs.declared.block.Block.{Block}
use Rattle.rje_text.specs.declared.mode.Mode.{Mode}
use Rattle.rje_text.specs.declared.unpacked.Unpacked.{Unpacked}
use Rattle.rje_text.specs.Laws.{AreRead, CutReadsBack}
use Rattle.rje_text.specs.Reading.{reading}
use Rattle.rje_jobs.specs.declared.job.Job.{Job}
use Rattle.rje_jobs.specs.Blocks.{blocks, blocks_of_job}
use Rattle.rje_jobs.specs.Fitting.{JobFits}
use Rattle.rje_jobs.specs.Joined.{mode_of_begun, with_records, joined, joined_behind}
use Rattle.rje_station.specs.Sending.{ended_by, counted_by}
use Rattle.line_world.specs.Headline.{IsBeginningOf, HandsFirst}
use Rattle.line_world.proofs.JobsAgain.{IsOneJob, job_one, job_of, job_is, kept, last_read, next_read, more_of, records_read}

-- ---- A job that is begun.

-- what is begun of a job: nothing, or a beginning of it
abbrev IsBegunOf : Job → Option Job → Type 0
IsBegunOf j None = Unit {0}
IsBegunOf j (Some b) = IsBeginningOf j b

same_some : (j k : Job) → Some j ≡ Some k → j ≡ k
same_some j k e = cc

-- where the rest of a job completes what is begun of it, that is a beginning
begun_of : (b j : Job) (u : Unpacked) (us : List Unpacked) → b.whole ≡ false → job_of (Some b) (u ∷ us) ≡ Some j → IsBeginningOf j b
begun_of b j u us left is =
    let all : record b { records = b.records ++ records_read (u ∷ us); whole = true } ≡ j = same_some _ _ (sym (more_of b u us) ∙ is) in
    record { left = left; select = ap (λ x. x.select) all; mode = ap (λ x. x.mode) all; records = (records_read (u ∷ us), ap (λ x. x.records) all) }

left_of : (begun : Option Job) (u : Unpacked) → (with_records begun u false).whole ≡ false
left_of None u = refl
left_of (Some b) u = refl

-- ---- Handing out.

-- nothing is handed out whole yet
none_yet : (j : Job) (js : List Job) (begun : Option Job) → IsBegunOf j begun → HandsFirst 0 (j ∷ js) (joined_behind begun [])
none_yet j js None b = record { within = omega arith; first = refl; after = inl refl }
none_yet j js (Some c) b = record { within = omega arith; first = refl; after = inr (j, refl, (c, refl, b)) }

-- one job more, in front
one_more : (w : ℕ) (j : Job) (given handed : List Job) → HandsFirst w given handed → HandsFirst (w + 1) (j ∷ given) (j ∷ handed)
one_more w j given handed h = subst (λ n. HandsFirst n (j ∷ given) (j ∷ handed)) (sym (add-one w)) (record { within = omega (arith, h.within); first = ap (λ xs. j ∷ xs) h.first; after = h.after })

same_hands : (w v : ℕ) (given handed others : List Job) → w ≡ v → handed ≡ others → HandsFirst v given others → HandsFirst w given handed
same_hands w v given handed others e f h = subst (λ n. HandsFirst n given handed) (sym e) (subst (HandsFirst v given) (sym f) h)

-- the first of the blocks of a job that is begun, and of those behind it
abbrev FirstOf : List Block → List Job → Type 0
FirstOf bs given = (n : ℕ) → HandsFirst (ended_by (take n bs)) given (joined (take n bs))

within : (mode : Mode) (begun : Option Job) (so_far : Option Mode) (bs rest : List Block) (us : List Unpacked) (j : Job) (js : List Job) (n : ℕ) → IsOneJob bs → mode_of_begun begun ≡ so_far → AreRead so_far bs us
    → AllByRecursion (λ u. u.mode ≡ mode) us → (so_far ≡ None) ⊎ (so_far ≡ Some mode) → job_of begun us ≡ Some j → IsBegunOf j begun → FirstOf rest js
    → HandsFirst (ended_by (take n (bs ++ rest))) (j ∷ js) (joined_behind begun (take n (bs ++ rest)))
within mode begun so_far bs rest us j js zero one same read moded now is b after = none_yet j js begun b
within mode begun so_far [] rest us j js (suc n) one same read moded now is b after = absurd one
within mode begun so_far (x ∷ bs) rest [] j js (suc n) one same read moded now is b after = absurd read
within mode begun so_far (x ∷ []) rest (u ∷ v ∷ us) j js (suc n) one same read moded now is b after = absurd read.1
within mode begun so_far (x ∷ y ∷ bs) rest (u ∷ []) j js (suc n) one same read moded now is b after = absurd read.1
within mode begun so_far (x ∷ []) rest (u ∷ []) j js (suc n) one same read moded now is b after =
    let r : reading x (mode_of_begun begun) ≡ Some u = ap (reading x) same ∙ read.0.0 in
    let e : with_records begun u true ≡ j = cc in
    same_hands _ (ended_by (take n rest) + 1) (j ∷ js) _ (j ∷ joined (take n rest)) (ap (λ c. counted_by c (ended_by (take n rest))) one) (last_read begun x (take n rest) u r one ∙ ap (λ k. k ∷ joined (take n rest)) e)
    (one_more (ended_by (take n rest)) j js (joined (take n rest)) (after n))
within mode begun so_far (x ∷ y ∷ bs) rest (u ∷ v ∷ us) j js (suc n) one same read moded now is b after =
    let r : reading x (mode_of_begun begun) ≡ Some u = ap (reading x) same ∙ read.0.0 in
    let more = take n (y ∷ bs ++ rest) in
    same_hands _ (ended_by more) (j ∷ js) _ (joined_behind (Some (with_records begun u false)) more) (ap (λ c. counted_by c (ended_by more)) one.0) (next_read begun x more u r one.0)
    (within mode (Some (with_records begun u false)) (Some u.mode) (y ∷ bs) rest (v ∷ us) j js n one.1 (kept mode begun so_far u same moded.0 now) read.1 moded.1 (inr (ap (λ k. Some k) moded.0)) is
    (begun_of (with_records begun u false) j v us (left_of begun u) is) after)

-- ---- The first blocks of all jobs.

pub hands_first : CutReadsBack → (jobs : List Job) → AllByRecursion JobFits jobs → FirstOf (blocks jobs) jobs
hands_first back [] fit zero = record { within = omega arith; first = refl; after = inl refl }
hands_first back [] fit (suc n) = record { within = omega arith; first = refl; after = inl refl }
hands_first back (j ∷ js) fit n =
    let r = back j.select j.mode j.records fit.0.records in
    within j.mode None None (blocks_of_job j) (blocks js) r.0 j js n (job_one j) refl r.1 r.2.moded (inl refl) (job_is j r.0 fit.0.whole r.2) tt (hands_first back js fit.1)
