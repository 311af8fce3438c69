-- The worked example of a day, step by step.
use Rattle.std.proofs.Common.{◌≡◌, refl, sym, ap, ◌∙◌, subst, ℕ, zero, suc, ◌<◌, ◌≤◌, ◌&&◌, true, if◌then◌else◌, nat_le, nat_lt, Some, None, List, [], ◌∷◌, ◌++◌, drop, length, take, inl, inr, arith}
use Rattle.std.specs.List.{AllByRecursion}
use Rattle.std.proofs.lemmas.Bool.{true≢false}
use Rattle.std.proofs.lemmas.Grind.{common_steps}
use Rattle.bsc_codes.specs.declared.block.Block.{Block}
use Rattle.bsc_codes.specs.declared.block.Closing.TheVariants.{Etx}
use Rattle.bsc_frame.specs.declared.frame.Frame.TheVariants as frame
use Rattle.bsc_link.specs.declared.rank.Rank.{Rank}
use Rattle.rje_text.specs.declared.unpacked.Unpacked.{Unpacked}
use Rattle.rje_text.specs.Reading.{IsRead}
use Rattle.rje_day.specs.declared.disposition.Disposition.{Disposition}
use Rattle.rje_day.specs.declared.ended.Ended.{Ended}
use Rattle.rje_day.specs.Ended.{disposition_of}
use Rattle.rje_day.specs.Giving.{AllMayOccur, Becomes, Name}
use Rattle.rje_jobs.specs.declared.job.Job.{Job}
use Rattle.rje_jobs.specs.Blocks.{blocks}
use Rattle.rje_jobs.specs.Fitting.{JobFits}
use Rattle.rje_jobs.specs.Joined.{with_records}
use Rattle.rje_station.specs.JoinedJobs.{with_read}
use Rattle.rje_station.specs.Station.{Contending}
use Rattle.rje_session.specs.Account.{SettlesRest, became}
use Rattle.rje_session.specs.Keeping.{AreKept}
use Rattle.rje_session.specs.Ledger.{Entry, Given, Settled}
use Rattle.connection_world.specs.BothWays.{AreConnected, AtEnd, EndWent, IsExchange}
use Rattle.connection_world.specs.CrossingBids.{at_primary, at_secondary}
use Rattle.connection_world.proofs.CrossingBids.{done, down, heard_out, primary_went, secondary_went, up}
use Rattle.connection_world.proofs.LateBid.{comes_whole}
use Rattle.day_world.specs.Books.{CarryWhatIsEntered, Enters, books, kept_by}
use Rattle.day_world.specs.Carried.{HasKept, IsCarried, PassOnTheFirstJobs}
use Rattle.day_world.specs.WorkedDay.{IsOfOneBlock, JobInDoubtMakesADay, passage, worked_day}
use Rattle.day_world.specs.Day.{IsEachOnce, occurrences, passages}
use Rattle.day_world.specs.Passage.{Named, Passage, jobs_of, names_of}
use Rattle.day_world.proofs.Books.{keeps}
use Rattle.day_world.proofs.WholeDay.{given_alone}

-- ---- One job.

-- a block that is its job's last
abbrev whole : Block → Block
whole b = record b { closing = Etx }

-- one that isn't counted is settled so
became_so : (ended : Ended) (before : List Entry) (k : ℕ)
    → became (Settled 0 (disposition_of ended 0) ∷ before) k ≡ (if nat_le 0 k && nat_lt k 1 then Some (disposition_of ended k) else became before k)
became_so ended before zero = refl
became_so ended before (suc k) = grind (arith, common_steps)

settles_one : (ended : Ended) (before : List Entry) → SettlesRest ended 0 1 before (Settled 0 (disposition_of ended 0) ∷ before)
settles_one ended before = record { became_is = became_so ended before; out = λ k. refl }

-- of one that came whole one is kept
some_kept : (kept : List Job) (j : Job) (handed : List Job) → handed ≡ j ∷ [] → j.whole ≡ true → HasKept kept handed → 0 < length kept
some_kept [] j handed is came kept = absurd (let none : AreKept 0 (j ∷ []) = subst (AreKept 0) is kept.many in true≢false (sym came ∙ none.0))
some_kept (k ∷ kept) j handed is came all = omega arith

none_taken : (n : ℕ) → take n (let none : List Named = [] in none) ≡ []
none_taken zero = refl
none_taken (suc n) = refl

one_kept : (g : Named) (kept : List Job) → 0 < length kept → kept ≡ jobs_of (take (length kept) (g ∷ [])) → kept ≡ g.job ∷ []
one_kept g [] some is = absurd (omega (arith, some))
one_kept g (k ∷ kept) some is = is ∙ ap (λ xs. g.job ∷ jobs_of xs) (none_taken (length kept))

-- ---- An exchange in which bids cross and the primary's job comes.

-- whatever has happened since at either end
module _ (carry : CarryWhatIsEntered) (pass : PassOnTheFirstJobs) (g other : Named) (ended : Ended) (u : Unpacked) (near far : List AtEnd) (p s : Contending)
    (exchange : IsExchange (g.job ∷ []) (other.job ∷ []) near far p s) where
  abbrev kept : List Job
  kept = kept_by (books Rank.Secondary (other.job ∷ []) far s exchange.secondary).entered

  abbrev sent : Passage
  sent = passage g ended kept

  abbrev left : Passage
  left = passage other (Ended.Early 0) []

  module _ (fits : JobFits g.job) (fits_other : JobFits other.job) (handed : s.receiver.jobs ≡ with_records None u true ∷ [])
      (primary : Enters sent left Rank.Primary near p exchange.primary) (secondary : Enters left sent Rank.Secondary far s exchange.secondary) where
    carried : IsCarried sent left
    carried = carry sent left (record {
      near = near;
      far = far;
      p = p;
      s = s;
      exchange = exchange;
      fit_up = (fits, tt);
      fit_down = (fits_other, tt);
      primary = primary;
      secondary = secondary;
    })

    -- and what was kept is the job
    job_kept : kept ≡ g.job ∷ []
    job_kept =
        let all : HasKept kept s.receiver.jobs = keeps left sent Rank.Secondary far s exchange.secondary secondary in
        one_kept g kept (some_kept kept (with_records None u true) s.receiver.jobs handed refl all) (pass sent left carried).0.first

    so_carried : IsCarried (passage g ended (g.job ∷ [])) left
    so_carried = subst (λ jobs. IsCarried (passage g ended jobs) left) job_kept carried

-- where it comes, and all is said
module _ (carry : CarryWhatIsEntered) (pass : PassOnTheFirstJobs) (g other : Named) (b : Block) (u : Unpacked) (fits : JobFits g.job)
    (fits_other : JobFits other.job) (one : blocks (g.job ∷ []) ≡ whole b ∷ []) (read : IsRead (whole b) None u) where
  abbrev last : Contending
  last = heard_out other.job (whole b)

  handed_whole : last.receiver.jobs ≡ with_records None u true ∷ []
  handed_whole = ap (λ o. elim o [ None ↦ [] | Some x ↦ with_read [] x true ]) read.0

  abbrev last_went : EndWent Rank.Secondary (other.job ∷ []) (at_secondary (whole b)) last
  last_went = secondary_went other.job (whole b) u read

  abbrev all_said : IsExchange (g.job ∷ []) (other.job ∷ []) (at_primary (whole b)) (at_secondary (whole b)) (done g.job (whole b ∷ [])) last
  all_said = record {
    primary = primary_went g.job (whole b) one;
    secondary = last_went;
    up = up (whole b);
    down = down (whole b);
  }

  carried_whole : IsCarried (passage g Ended.Done (g.job ∷ [])) (passage other (Ended.Early 0) [])
  carried_whole =
      so_carried carry pass g other Ended.Done u (at_primary (whole b)) (at_secondary (whole b)) (done g.job (whole b ∷ [])) last all_said
      fits fits_other handed_whole
      (record {
        begun = Given (g.job ∷ []) ∷ [];
        after = _;
        begins = inl ([], refl);
        ended = refl;
        finishes = record { rest = _; settles = refl; cut = refl };
        kept = refl;
      })
      (record {
        begun = Given (other.job ∷ []) ∷ [];
        after = _;
        begins = inl ([], refl);
        ended = refl;
        finishes = record {
          rest =
              Settled 0 Disposition.Ready
              ∷ (books Rank.Secondary (other.job ∷ []) (at_secondary (whole b)) last last_went).entered
              ++ Given (other.job ∷ []) ∷ [];
          settles = settles_one (Ended.Early 0) _;
          cut = refl;
        };
        kept = refl;
      })

-- where it comes, and no more is said
module _ (carry : CarryWhatIsEntered) (pass : PassOnTheFirstJobs) (g other : Named) (b : Block) (u : Unpacked) (fits : JobFits g.job)
    (fits_other : JobFits other.job) (one : blocks (g.job ∷ []) ≡ whole b ∷ []) (read : IsRead (whole b) None u) where
  abbrev near : List AtEnd
  near = drop 2 (at_primary (whole b))

  abbrev p : Contending
  p = (primary_went g.job (whole b) one).1.0

  abbrev p_went : EndWent Rank.Primary (g.job ∷ []) near p
  p_went = (primary_went g.job (whole b) one).1.1

  abbrev far : List AtEnd
  far = drop 1 (at_secondary (whole b))

  abbrev s : Contending
  s = (secondary_went other.job (whole b) u read).0

  abbrev s_went : EndWent Rank.Secondary (other.job ∷ []) far s
  s_went = (secondary_went other.job (whole b) u read).1

  handed_cut : s.receiver.jobs ≡ with_records None u true ∷ []
  handed_cut = ap (λ o. elim o [ None ↦ [] | Some x ↦ with_read [] x true ]) read.0

  first_answer : (0 ≤ 0) × (0 < 1) × (0 < 2)
  first_answer = (omega arith, omega arith, omega arith)

  up_so_far : AreConnected Rank.Primary near far
  up_so_far = record {
    up = (
      (omega arith, (frame.Block (whole b), inl (refl, refl), comes_whole (frame.Block (whole b)))),
      ((omega arith, (frame.Enq, inr (inl (refl, refl)), comes_whole frame.Enq)), (refl, tt)),
    );
    down = (inr (inl (refl, refl)), tt);
    in_time = (refl, (first_answer, (tt, (refl, tt))));
  }

  down_so_far : AreConnected Rank.Secondary far near
  down_so_far = record { up = tt; down = tt; in_time = (refl, (refl, (tt, (refl, tt)))) }

  abbrev so_far : IsExchange (g.job ∷ []) (other.job ∷ []) near far p s
  so_far = record { primary = p_went; secondary = s_went; up = up_so_far; down = down_so_far }

  carried_in_doubt : IsCarried (passage g (Ended.InDoubt 0) (g.job ∷ [])) (passage other (Ended.Early 0) [])
  carried_in_doubt =
      so_carried carry pass g other (Ended.InDoubt 0) u near far p s so_far fits fits_other handed_cut
      (record {
        begun = Given (g.job ∷ []) ∷ [];
        after = _;
        begins = inl ([], refl);
        ended = refl;
        finishes = record {
          rest = Settled 0 Disposition.InDoubt ∷ (books Rank.Primary (g.job ∷ []) near p p_went).entered ++ Given (g.job ∷ []) ∷ [];
          settles = settles_one (Ended.InDoubt 0) _;
          cut = refl;
        };
        kept = refl;
      })
      (record {
        begun = Given (other.job ∷ []) ∷ [];
        after = _;
        begins = inl ([], refl);
        ended = refl;
        finishes = record {
          rest = Settled 0 Disposition.Ready ∷ (books Rank.Secondary (other.job ∷ []) far s s_went).entered ++ Given (other.job ∷ []) ∷ [];
          settles = settles_one (Ended.Early 0) _;
          cut = refl;
        };
        kept = refl;
      })

-- ---- The day.

-- of any block that is its job's last
of_whole : (Carried : Type 0) (job : Job) (o : IsOfOneBlock job)
    → ((b : Block) (u : Unpacked) → blocks (job ∷ []) ≡ whole b ∷ [] → IsRead (whole b) None u → Carried) → Carried
of_whole Carried job o carried =
    subst (λ (x : Block). blocks (job ∷ []) ≡ x ∷ [] → IsRead x None o.content → Carried) (sym (ap (λ c. record (o.block) { closing = c }) o.last))
    (carried o.block o.content) o.is o.read

-- what is in doubt, or was given alone, is known by its name
only_one : (g : Named) (ended : Ended) (what : Disposition) (name : Name) → Becomes what name (record { jobs = g.name ∷ []; ended = ended })
    → (g.name ≡ name) × (disposition_of ended 0 ≡ what)
only_one g ended what name (zero, here, is) = (given_alone g.name name (0, here), is)
only_one g ended what name (suc k, here, is) = cc

module _ (first second other : Named) (apart : first.name ≡ second.name → ⊥) where
  ready : (rank : Rank) → AllMayOccur (occurrences rank (worked_day first second other))
  ready Rank.Primary = (
    λ name given.
        let is : second.name ≡ name = given_alone second.name name given in
        (inl is, λ what became. absurd (apart ((only_one first (Ended.InDoubt 0) what name became).0 ∙ sym is))),
    (λ name given. inr (inl (given_alone first.name name given)), ((λ put. elim put [ inl same ↦ apart same | inr none ↦ none ]), ((λ put. put), tt))),
  )
  ready Rank.Secondary = (
    λ name given. (inl (given_alone other.name name given), λ what became. sym (only_one other (Ended.Early 0) what name became).1),
    (λ name given. inl (given_alone other.name name given), ((λ put. put), tt)),
  )

  once : (rank : Rank) → AllByRecursion (λ t. IsEachOnce (names_of t.given)) (passages rank (worked_day first second other))
  once Rank.Primary = ((λ is. is, tt), ((λ is. is, tt), tt))
  once Rank.Secondary = ((λ is. is, tt), ((λ is. is, tt), tt))

pub job_in_doubt_makes_a_day : CarryWhatIsEntered → PassOnTheFirstJobs → JobInDoubtMakesADay
job_in_doubt_makes_a_day carry pass first second other one two fits apart = record {
  carried = (
    of_whole _ second.job two (λ b u is read. carried_whole carry pass second other b u two.fits fits is read),
    (of_whole _ first.job one (λ b u is read. carried_in_doubt carry pass first other b u one.fits fits is read), tt),
  );
  ready = ready first second other apart;
  once = once first second other apart;
}
