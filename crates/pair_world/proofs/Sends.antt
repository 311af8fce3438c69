-- Where a sending station stands after a history, whatever counts for giving up.
use Rattle.std.proofs.Common.{◌≡◌, ◌≢◌, inl, inr, ℕ, ◌<◌, ◌==◌, Bool, true, false, ◌||◌, List, [], ◌∷◌, length, if◌then◌else◌, refl, ap, sym, ◌∙◌, subst, arith, rules}
use Rattle.std.proofs.lemmas.Bool.{cases_Bool}
use Rattle.bsc_link.specs.declared.say.Say.{Say}
use Rattle.bsc_link.specs.declared.sender_place.SenderPlace.{SenderPlace}
use Rattle.bsc_link.specs.Sender.{SenderState, say_in, sender_sent_end, sender_yielded, is_enough}
use Rattle.rje_jobs.specs.declared.job.Job.{Job}
use Rattle.rje_jobs.specs.Blocks.{blocks}
use Rattle.rje_station.specs.Laws.{CountsBlocks, HasCounted}
use Rattle.rje_station.specs.Sending.{Sending, first_sending, is_done, after_speaking, after_hearing}
use Rattle.bsc_history.specs.declared.spoken_turn.SpokenTurn.{SpokenTurn}
use Rattle.bsc_history.specs.History.{Plan, History, is_over}
use Rattle.bsc_history.specs.Known.{known, has_grant, tries_on, holds_on}
use Rattle.bsc_history.specs.SayingRule.{saying}
use Rattle.bsc_history.specs.Conversation.{Follows}
use Rattle.bsc_history.specs.Cores.{hears_after}
use Rattle.line_world.specs.Plan.{plan_of}
use Rattle.line_world.specs.Turns.{after_turn}
use Rattle.bsc_history.proofs.ForRuns.{quiet-after_end, Matches, sender-step, counts-step}
use Rattle.line_world.proofs.ForPairs.{begins, cases_end, core_on, counted_last, counted_on, done_is, turn_ends, turn_hears}

-- b: it gave up before its last turn; m, n: the tries and the holds that count
pub record SendsBy (jobs : List Job) (h : History) (b : Bool) (m n : ℕ) (s : Sending) : Type 0 where
  pub jobs_are : s.jobs ≡ jobs
  pub core : Matches (plan_of (blocks jobs)) h b m n s.core
  pub counted : HasCounted jobs (known h) s
  pub over : s.over ≡ ((length jobs == 0) || is_over h)

pub none_not : (j : Job) (js : List Job) → (length (j ∷ js) == 0) ≡ false
none_not j js = search rules

pub sends_first : (jobs : List Job) → SendsBy jobs [] false 0 0 (first_sending jobs)
sends_first [] = record {
  jobs_are = refl;
  core = record { parity = refl; rvi = refl; tried = λ g l. refl; held = λ g l. refl; says = refl; ends = refl; early = λ none. refl };
  counted = record { rest = refl; counted = refl };
  over = refl;
}
sends_first (j ∷ jobs) = record {
  jobs_are = refl;
  core = record { parity = refl; rvi = refl; tried = λ g l. refl; held = λ g l. refl; says = refl; ends = refl; early = λ none. refl };
  counted = record { rest = refl; counted = refl };
  over = rw (none_not j jobs) refl;
}

-- ---- One turn.

pub some_jobs : (jobs : List Job) (over : Bool) → 0 < length jobs → ((length jobs == 0) || over) ≡ over
some_jobs [] over l = absurd (omega arith)
some_jobs (j ∷ js) over l = rw (none_not j js) refl

module _ (law : CountsBlocks) (jobs : List Job) (h : History) (b : Bool) (m n : ℕ) (s : Sending) (t : SpokenTurn) (l : 0 < length jobs) (p : SendsBy jobs h b m n s)
    (f : Follows (plan_of (blocks jobs)) (is_enough m n) h t) where
  abbrev plan : Plan
  plan = plan_of (blocks jobs)

  said : say_in s.core.place ≡ t.said
  said = p.core.says ∙ sym f.said

  core_after : Matches plan (t ∷ h) (is_enough m n) (tries_on m h t) (holds_on n h t) (hears_after plan (known h) s.core t.said t.heard t.pause)
  core_after = sender-step plan h b m n s.core t (begins jobs l) p.core f.goes_on f.said (quiet-after_end plan (is_enough m n) h t f)

  -- with EOT it ends
  ends : t.said ≡ Say.End → SendsBy jobs (t ∷ h) (is_enough m n) (tries_on m h t) (holds_on n h t) (after_speaking s)
  ends end =
      let due : say_in s.core.place ≡ Say.End = said ∙ end in
      let core : hears_after plan (known h) s.core t.said t.heard t.pause ≡ sender_sent_end s.core = rw end refl in
      record {
        jobs_are = p.jobs_are;
        core = subst (Matches plan (t ∷ h) (is_enough m n) (tries_on m h t) (holds_on n h t)) core core_after;
        counted = counted_last jobs h s t p.counted end;
        over = sym (some_jobs jobs _ l ∙ rw (due, end) refl);
      }

  -- after all else it hears
  hears : t.said ≢ Say.End → SendsBy jobs (t ∷ h) (is_enough m n) (tries_on m h t) (holds_on n h t) (after_hearing (after_speaking s) t.heard t.pause)
  hears more =
      let matches : Matches plan (t ∷ h) (is_enough m n) (tries_on m h t) (holds_on n h t) (after_hearing (after_speaking s) t.heard t.pause).core =
      subst (Matches plan (t ∷ h) (is_enough m n) (tries_on m h t) (holds_on n h t)) (sym (core_on jobs h s t p.counted said more)) core_after in
      record {
        jobs_are = p.jobs_are;
        core = matches;
        counted = counted_on jobs h s t p.counted law said more (counts-step plan h b m n s.core t p.core f.goes_on f.said);
        over = sym (some_jobs jobs _ l ∙ sym (ap is_done matches.says ∙ done_is plan _ (t ∷ h)));
      }

  pub sends_turn : SendsBy jobs (t ∷ h) (is_enough m n) (tries_on m h t) (holds_on n h t) (after_turn s t)
  sends_turn = elim (cases_end t.said) [
    | inl end ↦ subst (SendsBy jobs (t ∷ h) (is_enough m n) (tries_on m h t) (holds_on n h t)) (sym (turn_ends s t end)) (ends end)
    | inr more ↦ subst (SendsBy jobs (t ∷ h) (is_enough m n) (tries_on m h t) (holds_on n h t)) (sym (turn_hears s t t.said refl more)) (hears more)
  ]

-- ---- It gives way.

-- while a sender isn't over, has no grant and hasn't given up, it is to bid
bids-on : (plan : Plan) (own : History) → is_over own ≡ false → has_grant own ≡ false → saying plan false own ≡ Say.Bid
bids-on plan own goes none = rw (goes, none) refl

gives-up-on : (plan : Plan) (own : History) → saying plan true own ≢ Say.Bid
gives-up-on plan own = elim (cases_Bool (is_over own)) [ inl o ↦ rw o (λ e. cc) | inr o ↦ rw o (λ e. cc) ]

kept : (plan : Plan) (own : History) (b : Bool) (m n : ℕ) (s : SenderState) → is_enough m n ≡ false → (is_over own ≡ false → has_grant own ≡ false) → say_in s.place ≢ Say.Bid → Matches plan own b m n s → Matches plan own b 0 0 s
kept plan own b m n s few none other p =
    let says : say_in s.place ≡ saying plan false own = rw few at p.says in
    record {
      parity = p.parity;
      rvi = p.rvi;
      tried = λ g l. absurd (other (says ∙ bids-on plan own g (none g)));
      held = λ g l. absurd (other (says ∙ bids-on plan own g (none g)));
      says = says;
      ends = rw few at p.ends;
      early = p.early;
    }

yields-at : (plan : Plan) (own : History) (b : Bool) (m n : ℕ) (place : SenderPlace) (odd noted : Bool) (i j : ℕ) → is_enough m n ≡ false → (is_over own ≡ false → has_grant own ≡ false)
    → Matches plan own b m n (record { place = place; odd_counted = odd; rvi_noted = noted; tries = i; holds = j }) → Matches plan own b 0 0 (sender_yielded (record { place = place; odd_counted = odd; rvi_noted = noted; tries = i; holds = j }))
yields-at plan own b m n SenderPlace.Bid odd noted i j few none p = record {
  parity = p.parity;
  rvi = p.rvi;
  tried = λ g l. refl;
  held = λ g l. refl;
  says = rw few at p.says;
  ends = rw few at p.ends;
  early = p.early;
}
yields-at plan own b m n place odd noted i j few none p = kept plan own b m n _ few none (λ e. cc) p

-- one that has given up goes on to its end
spent-at : (plan : Plan) (own : History) (b : Bool) (m n : ℕ) (place : SenderPlace) (odd noted : Bool) (i j : ℕ) → is_enough m n ≡ true
    → Matches plan own b m n (record { place = place; odd_counted = odd; rvi_noted = noted; tries = i; holds = j }) → Matches plan own b m n (sender_yielded (record { place = place; odd_counted = odd; rvi_noted = noted; tries = i; holds = j }))
spent-at plan own b m n SenderPlace.Bid odd noted i j enough p = absurd (gives-up-on plan own (sym (rw enough at p.says)))
spent-at plan own b m n place odd noted i j enough p = p

-- its counts begin again, unless they are enough
abbrev pub again : ℕ → ℕ → ℕ → ℕ
again m n k = if is_enough m n then k else 0

yields : (plan : Plan) (own : History) (b : Bool) (m n : ℕ) (s : SenderState) → (is_over own ≡ false → has_grant own ≡ false) → Matches plan own b m n s → Matches plan own b (again m n m) (again m n n) (sender_yielded s)
yields plan own b m n s none p = elim (cases_Bool (is_enough m n)) [
  | inl enough ↦ rw enough (spent-at plan own b m n s.place s.odd_counted s.rvi_noted s.tries s.holds enough p)
  | inr few ↦ rw few (yields-at plan own b m n s.place s.odd_counted s.rvi_noted s.tries s.holds few none p)
]

pub sends_yielded : (jobs : List Job) (h : History) (b : Bool) (m n : ℕ) (s : Sending) → (is_over h ≡ false → has_grant h ≡ false) → SendsBy jobs h b m n s → SendsBy jobs h b (again m n m) (again m n n) (record s { core = sender_yielded s.core })
sends_yielded jobs h b m n s none p = record {
  jobs_are = p.jobs_are;
  core = yields (plan_of (blocks jobs)) h b m n s.core none p.core;
  counted = record { rest = p.counted.rest; counted = p.counted.counted };
  over = p.over;
}
