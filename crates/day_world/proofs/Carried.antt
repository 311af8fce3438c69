-- Each way of an exchange is passed on.
use Rattle.std.proofs.Common.{◌≡◌, refl, sym, ap, ◌∙◌, subst, ℕ, zero, suc, ◌<◌, ◌≤◌, Bool, true, false, if◌then◌else◌, nat_le, List, [], ◌∷◌, length, take, Some, inl, inr, arith}
use Rattle.std.specs.List.{AllByRecursion}
use Rattle.std.proofs.lemmas.Grind.{common_steps}
use Rattle.std.proofs.lemmas.Bool.{cases_lt, true≢false}
use Rattle.std.proofs.lemmas.List.{length-map, take-map}
use Rattle.bsc_link.specs.declared.rank.Rank.{Rank}
use Rattle.rje_day.specs.declared.disposition.Disposition.{Disposition}
use Rattle.rje_day.specs.declared.ended.Ended.{Ended}
use Rattle.rje_day.specs.Ended.{disposition_of}
use Rattle.rje_jobs.specs.declared.job.Job.{Job}
use Rattle.rje_jobs.specs.Fitting.{JobFits}
use Rattle.rje_station.specs.Station.{Contending}
use Rattle.rje_session.specs.Keeping.{AreKept}
use Rattle.line_world.specs.Headline.{HandsFirst}
use Rattle.connection_world.specs.BothWays.{AtEnd, EndWent}
use Rattle.connection_world.specs.LastBlocks.{HandOutWhatWasSaid, HandsFirstWhere, HasSaidLast}
use Rattle.day_world.specs.Carried.{HasKept, IsBooked, PassOnTheFirstJobs}
use Rattle.day_world.specs.Passage.{IsPassedOn, Passage, jobs_of}

-- ---- How many were kept.

same_first : (j k : Job) (js ks : List Job) → j ∷ js ≡ k ∷ ks → j ≡ k
same_first j k js ks e = cc

same_rest : (j k : Job) (js ks : List Job) → j ∷ js ≡ k ∷ ks → js ≡ ks
same_rest j k js ks e = cc

not_whole : (j : Job) → j.whole ≡ true → j.whole ≡ false → ⊥
not_whole j whole cut = true≢false (sym whole ∙ cut)

-- where the first w of jobs that are whole are handed out, and then at most a beginning, just these are kept
kept_whole : (n w : ℕ) (given handed : List Job) → AllByRecursion JobFits given → HandsFirst w given handed → AreKept n handed → n ≡ w
kept_whole zero zero given handed fit h kept = refl
kept_whole zero (suc w) [] handed fit h kept = let none = h.within in absurd (omega (arith, none))
kept_whole zero (suc w) (g ∷ given) [] fit h kept = absurd (let e = h.first in cc)
kept_whole zero (suc w) (g ∷ given) (j ∷ handed) fit h kept =
    absurd (not_whole j (ap (λ x. x.whole) (same_first j g (take w handed) (take w given) h.first) ∙ fit.0.whole) kept.0)
kept_whole (suc n) w given [] fit h kept = absurd kept
kept_whole (suc n) zero given (j ∷ handed) fit h kept = elim h.after [
  | inl none ↦ cc
  | inr (job, here, (cut, is, b)) ↦ absurd (not_whole cut (ap (λ x. x.whole) (same_first cut j [] handed (sym is)) ∙ kept.0) b.left)
]
kept_whole (suc n) (suc w) [] (j ∷ handed) fit h kept = let none = h.within in absurd (omega (arith, none))
kept_whole (suc n) (suc w) (g ∷ given) (j ∷ handed) fit h kept =
    ap suc
    (kept_whole n w given handed fit.1
    (record { within = let some = h.within in omega (arith, some); first = same_rest j g (take w handed) (take w given) h.first; after = h.after }) kept.1)

-- ---- How it ended.

abbrev ended_with : (given counted : ℕ) → (may : Bool) → Ended
ended_with given counted may = if nat_le given counted then Ended.Done else (if may then Ended.InDoubt counted else Ended.Early counted)

sent_counted : (given counted k : ℕ) (may : Bool) → k < given → disposition_of (ended_with given counted may) k ≡ Disposition.Sent → k < counted
sent_counted given counted k true within e = grind (arith, common_steps)
sent_counted given counted k false within e = grind (arith, common_steps)

ready_uncounted : (given counted k : ℕ) (may : Bool) → k < given → disposition_of (ended_with given counted may) k ≡ Disposition.Ready → counted ≤ k
ready_uncounted given counted k true within e = grind (arith, common_steps)
ready_uncounted given counted k false within e = grind (arith, common_steps)

-- ---- One way.

module _ (t : Passage) (rank : Rank) (past : List AtEnd) (s : Contending) (went : EndWent rank (jobs_of t.given) past s) (handed : List Job)
    (b : IsBooked t rank past s went) (fit : AllByRecursion JobFits (jobs_of t.given)) (kept : HasKept t.kept handed)
    (h : HandsFirstWhere (HasSaidLast s.sender.counted rank (jobs_of t.given) past s went) s.sender.counted (jobs_of t.given) handed) where
  all_whole : length t.kept ≡ h.whole
  all_whole = kept_whole (length t.kept) h.whole (jobs_of t.given) handed fit h.first kept.many

  many : length b.session.station.sender.jobs ≡ length t.given
  many = ap length b.given ∙ length-map t.given (λ g. g.job)

  is_ended : t.ended ≡ ended_with (length t.given) s.sender.counted b.session.may_have_come
  is_ended =
      b.ended
      ∙ ap (λ n. ended_with n b.session.station.sender.counted b.session.may_have_come) many
      ∙ ap (λ n. ended_with (length t.given) n b.session.may_have_come) b.counted

  became_so : (k : ℕ) (what : Disposition) → disposition_of t.ended k ≡ what
      → disposition_of (ended_with (length t.given) s.sender.counted b.session.may_have_come) k ≡ what
  became_so k what e = ap (λ x. disposition_of x k) (sym is_ended) ∙ e

  -- of a job that lies ready it isn't entered that it may arrive
  not_said : (k : ℕ) → k < length t.given → disposition_of t.ended k ≡ Disposition.Ready → HasSaidLast k rank (jobs_of t.given) past s went → ⊥
  not_said k within e said =
      let there : k < length b.session.station.sender.jobs = subst (λ n. k < n) (sym many) within in
      true≢false (sym (b.entered k said) ∙ b.settled.ready k there (b.settled.all k there ∙ ap Some (ap (λ x. disposition_of x k) (sym b.ended) ∙ e)))

  passed_sent : (k : ℕ) → k < length t.given → disposition_of t.ended k ≡ Disposition.Sent → k < length t.kept
  passed_sent k within e = elim h.many [ inl same ↦ omega (arith, below, same, all_whole) | inr more ↦ omega (arith, below, more.0, all_whole) ]
    where
      below : k < s.sender.counted
      below = sent_counted (length t.given) s.sender.counted k b.session.may_have_come within (became_so k Disposition.Sent e)

  passed_ready : (k : ℕ) → k < length t.given → disposition_of t.ended k ≡ Disposition.Ready → length t.kept ≤ k
  passed_ready k within e = elim h.many [
    | inl same ↦ omega (arith, from, same, all_whole)
    | inr more ↦ elim (cases_lt s.sender.counted k) [
      | inl less ↦ omega (arith, less, more.0, all_whole)
      | inr not ↦ absurd (not_said k within e (subst (λ n. HasSaidLast n rank (jobs_of t.given) past s went) (omega (arith, from, not)) more.1))
    ]
  ]
    where
      from : s.sender.counted ≤ k
      from = ready_uncounted (length t.given) s.sender.counted k b.session.may_have_come within (became_so k Disposition.Ready e)

  pub passed_on : IsPassedOn t
  passed_on = record {
    first =
        kept.same
        ∙ ap (λ n. take n handed) all_whole
        ∙ h.first.first
        ∙ ap (λ n. take n (jobs_of t.given)) (sym all_whole)
        ∙ take-map (λ g. g.job) (length t.kept) t.given;
    sent = passed_sent;
    ready = passed_ready;
  }

pub pass_on_the_first_jobs : HandOutWhatWasSaid → PassOnTheFirstJobs
pass_on_the_first_jobs said up down c =
    let both = said (jobs_of up.given) (jobs_of down.given) c.near c.far c.p c.s c.fit_up c.fit_down c.exchange in (
      passed_on up Rank.Primary c.near c.p c.exchange.primary c.s.receiver.jobs c.booked_up c.fit_up c.kept_up both.0,
      passed_on down Rank.Secondary c.far c.s c.exchange.secondary c.p.receiver.jobs c.booked_down c.fit_down c.kept_down both.1,
    )
