-- What a session enters turn by turn books what it sends, and keeps what came whole.
use Rattle.std.proofs.Common.{◌≡◌, refl, sym, ap, ◌∙◌, subst, ℕ, zero, suc, ◌+◌, ◌<◌, ◌==◌, Bool, true, false, not, ◌&&◌, ◌||◌, if◌then◌else◌, MatchBool, Option, Some, None, List, [], ◌∷◌, ◌++◌, length, take, slice_get, nat_lt, ◌⊎◌, inl, inr, arith, add-one, append_assoc}
use Rattle.std.proofs.lemmas.Bool.{cases_Bool, eq-eqb, eqb-true, ltb-false, ltb-true, true≢false}
use Rattle.std.proofs.lemmas.Grind.{common_steps}
use Rattle.bsc_codes.specs.declared.block.Block.{Block}
use Rattle.bsc_frame.specs.declared.frame.Frame.{Frame}
use Rattle.bsc_frame.specs.declared.frame.Frame.TheVariants as frame
use Rattle.bsc_frame.specs.declared.heard.Heard.{Heard}
use Rattle.bsc_frame.specs.declared.heard.Heard.TheVariants as heard
use Rattle.bsc_link.specs.declared.rank.Rank.{Rank}
use Rattle.bsc_link.specs.declared.receiver_place.ReceiverPlace.{ReceiverPlace}
use Rattle.bsc_link.specs.declared.reply.Reply.{Reply}
use Rattle.bsc_link.specs.declared.say.Say.{Say}
use Rattle.bsc_link.specs.declared.sound.Sound.{Sound}
use Rattle.bsc_link.specs.declared.wish.Wish.{Wish}
use Rattle.bsc_link.specs.Contender.{ContenderState}
use Rattle.bsc_link.specs.Receiver.{receiver_news}
use Rattle.bsc_link.specs.Sender.{counts_block, line_for}
use Rattle.rje_day.specs.declared.disposition.Disposition.{Disposition}
use Rattle.rje_answers.specs.declared.given.Given.{Given}
use Rattle.rje_answers.specs.Law.{Answer}
use Rattle.rje_text.specs.declared.unpacked.Unpacked.{Unpacked}
use Rattle.rje_text.specs.Reading.{reading}
use Rattle.rje_jobs.specs.declared.job.Job.{Job}
use Rattle.rje_jobs.specs.Joined.{ends_job, mode_of_begun, with_records}
use Rattle.rje_station.specs.Hearing.{sound_heard}
use Rattle.rje_station.specs.JoinedJobs.{begun_in, with_block, with_read}
use Rattle.rje_station.specs.Receiving.{Receiving, jobs_after, sound_taken}
use Rattle.rje_station.specs.Sending.{Sending, after_hearing}
use Rattle.rje_station.specs.Station.{Contending, after_answer, after_other, contender_answered, due_at, lets_in}
use Rattle.line_world.proofs.Telling.{take_one}
use Rattle.rje_session.specs.Account.{IsInStep, IsSettled, SettlesRest, ended_of, may_arrive}
use Rattle.rje_session.specs.Keeping.{AreKept, cutting, keeping, kept_with}
use Rattle.rje_session.specs.Ledger.{Entry, Kept, KeptCut, MayArrive, Settled}
use Rattle.rje_session.specs.Outstanding.{ends_with}
use Rattle.rje_session.specs.Turns.{Carried, announcing, goes_out, is_of_block, settling}
use Rattle.rje_session.proofs.LedgerInStep.{Stays, CountsOneAtMost, counts_one, first_in_step, none_in_step, others_in_step, own_fault_in_step, settled_none, settled_on, settled_rest}
use Rattle.rje_session.proofs.Keeps.{others_kept}
use Rattle.connection_world.specs.BothWays.{AtEnd, Own, Crosses, Others, EndGoes, EndWent, HearsOther, ListensOwn, SpeaksOwn}
use Rattle.connection_world.specs.Connection.{AtReceiver, Says, Comes, InVain, OneHearing, hearing_of, sound_given}
use Rattle.connection_world.specs.LastBlocks.{HasSaidLast, IsLastOfJob}
use Rattle.connection_world.proofs.OneWay.{MayYield, listened_aside, passed_other, receiver_after_other, receiver_left, sender_after_other, speaks_own, spoke_aside, taken_other, with_own}
use Rattle.connection_world.proofs.SideBySide.{FarGoes}
use Rattle.connection_world.proofs.Stations.{said_of_block}
use Rattle.day_world.specs.Books.{BeginsWith, Books, CarryWhatIsEntered, Enters, announced, answered, books, in_hand, kept_by, kept_next}
use Rattle.day_world.specs.Carried.{HasKept, IsBooked}
use Rattle.day_world.specs.Passage.{Passage, jobs_of}

-- ---- The sending side, step by step.

spoken_stays : (f : Frame) (s s' : Contending) → SpeaksOwn f s s' → Stays s.sender s'.sender
spoken_stays f s s' speaks = let own = speaks_own f s s' speaks in (ap (λ x. x.jobs) own.state, ap (λ x. x.counted) own.state)

own_steps : (say : Say) (s : Contending) (x : Sending) (c : ContenderState) → CountsOneAtMost s.sender x → CountsOneAtMost s.sender (with_own say s x c).sender
own_steps Say.Nothing s x c steps = (refl, inl refl)
own_steps _ s x c steps = steps

answer_steps : (s : Contending) (sound : Sound) (pause : Bool) → CountsOneAtMost s.sender (after_answer s sound pause).sender
answer_steps s sound pause =
    own_steps (due_at s) s (after_hearing s.sender sound pause) (contender_answered (due_at s) sound s.contender)
    (refl, counts_one (counts_block (line_for s.sender.core sound pause)) s.sender.rest s.sender.counted)

listened_steps : (given : Given Answer) (s s' : Contending) → ListensOwn given s s' → CountsOneAtMost s.sender s'.sender
listened_steps Given.Nothing s s' listens = subst (λ (x : Contending). CountsOneAtMost s.sender x.sender) (sym listens) (refl, inl refl)
listened_steps (Given.Answer a) s s' listens =
    subst (λ (x : Contending). CountsOneAtMost s.sender x.sender) (sym listens.1) (answer_steps s (sound_given (Given.Answer a)) listens.0)
listened_steps Given.Bid s s' listens = subst (λ (x : Contending). CountsOneAtMost s.sender x.sender) (sym listens.1) (answer_steps s (sound_given Given.Bid) listens.0)
listened_steps Given.End s s' listens = subst (λ (x : Contending). CountsOneAtMost s.sender x.sender) (sym listens.1) (answer_steps s (sound_given Given.End) listens.0)
listened_steps (Given.InVain rest) s s' listens =
    subst (λ (x : Contending). CountsOneAtMost s.sender x.sender) (sym listens.1) (answer_steps s (sound_given (Given.InVain rest)) listens.0)

yield_stays : (s s' : Sending) → MayYield s s' → Stays s s'
yield_stays s s' (inl is) = (ap (λ x. x.jobs) is, ap (λ x. x.counted) is)
yield_stays s s' (inr is) = (ap (λ x. x.jobs) is, ap (λ x. x.counted) is)

-- ---- What is entered.

-- a job that may arrive still may, whatever is entered
out_announced : (goes : Bool) (job n : ℕ) (ledger : List Entry) → may_arrive ledger n ≡ true
    → may_arrive ((if goes then MayArrive job ∷ [] else []) ++ ledger) n ≡ true
out_announced false job n ledger out = out
out_announced true job n ledger out = either (job == n)
  where
    either : (same : Bool) → (if same then true else may_arrive ledger n) ≡ true
    either true = refl
    either false = out

out_settled : (before after n : ℕ) (ledger : List Entry) → may_arrive ledger n ≡ true → may_arrive (settling before after ++ ledger) n ≡ true
out_settled before after n ledger out = either (before == after)
  where
    either : (same : Bool) → may_arrive ((if same then [] else Settled before Disposition.Sent ∷ []) ++ ledger) n ≡ true
    either true = out
    either false = out

out_kept : (next : Option Job) (n : ℕ) (ledger : List Entry) → may_arrive ledger n ≡ true → may_arrive (keeping next ++ ledger) n ≡ true
out_kept None n ledger out = out
out_kept (Some job) n ledger out = either job.whole
  where
    either : (whole : Bool) → may_arrive ((if whole then Kept job ∷ [] else []) ++ ledger) n ≡ true
    either true = out
    either false = out

out_cut : (next : Option Job) (n : ℕ) (ledger : List Entry) → may_arrive ledger n ≡ true → may_arrive (cutting next ++ ledger) n ≡ true
out_cut None n ledger out = out
out_cut (Some job) n ledger out = either job.whole
  where
    either : (whole : Bool) → may_arrive ((if whole then [] else KeptCut job ∷ []) ++ ledger) n ≡ true
    either true = out
    either false = out

-- one that goes out may arrive from then on
out_now : (c : Carried) (ledger : List Entry) → goes_out c ≡ true → may_arrive (announcing c ++ ledger) c.station.sender.counted ≡ true
out_now c ledger goes =
    ap (λ b. may_arrive ((if b then MayArrive c.station.sender.counted ∷ [] else []) ++ ledger) c.station.sender.counted) goes
    ∙ ap (λ b. if b then true else may_arrive ledger c.station.sender.counted) (eq-eqb c.station.sender.counted c.station.sender.counted refl)

answered_in_step : (c c' : Carried) (before after : List Entry) → CountsOneAtMost c.station.sender c'.station.sender
    → after ≡ settling c.station.sender.counted c'.station.sender.counted ++ before
    → c'.may_have_come ≡ (c.may_have_come && (c.station.sender.counted == c'.station.sender.counted)) → IsInStep c before → IsInStep c' after
answered_in_step c c' before after steps is may in_step = record {
  sent = λ job within.
      let there : job < length c.station.sender.jobs = rw (sym steps.0) within in
      let sent = in_step.sent job there in grind (arith, common_steps);
  out = λ job within from.
      let there : job < length c.station.sender.jobs = rw (sym steps.0) within in
      let out = in_step.out job there in grind (arith, common_steps);
}

-- ---- The receiving side, step by step.

-- what a core accepts is the same whatever is wished
core_accepts : (place : ReceiverPlace) (odd : Bool) (last : Option Reply) (rvi : Bool) (sound : Sound) (wish : Wish)
    → (receiver_news (record { place = place; odd_accepted = odd; last_reply = last; rvi_made = rvi }) sound wish).accepted
    ≡ (receiver_news (record { place = place; odd_accepted = odd; last_reply = last; rvi_made = rvi }) sound Wish.Go).accepted
core_accepts ReceiverPlace.Idle odd last rvi Sound.Enq Wish.Hold = refl
core_accepts ReceiverPlace.Idle odd last rvi Sound.Enq Wish.Go = refl
core_accepts ReceiverPlace.Idle odd last rvi Sound.Enq Wish.Turn = refl
core_accepts ReceiverPlace.Idle odd last rvi _ wish = refl
core_accepts ReceiverPlace.InTransmission odd last rvi Sound.Block wish = refl
core_accepts ReceiverPlace.InTransmission odd last rvi Sound.Enq wish = refl
core_accepts ReceiverPlace.InTransmission odd last rvi _ wish = refl
core_accepts ReceiverPlace.Ended odd last rvi sound wish = refl

-- and so are the jobs
heard_jobs : (h : OneHearing) (s s' : Contending) → HearsOther h s s' → s'.receiver.jobs ≡ (after_other s h.what h.refused Wish.Go).receiver.jobs
heard_jobs h s s' hears =
    ap (λ x. x.receiver.jobs) hears.state ∙ ap (λ x. x.jobs) (receiver_left (after_other s h.what h.refused h.wish)) ∙ whatever
  where
    whatever : (after_other s h.what h.refused h.wish).receiver.jobs ≡ (after_other s h.what h.refused Wish.Go).receiver.jobs
    whatever = elim (cases_Bool (lets_in s.contender (sound_heard h.what))) [
      | inl e ↦
          ap (λ x. x.receiver.jobs) (taken_other s h e)
          ∙ ap (λ a. jobs_after h.what a s.receiver.jobs)
          (core_accepts s.receiver.core.place s.receiver.core.odd_accepted s.receiver.core.last_reply s.receiver.core.rvi_made
          (sound_taken h.what h.refused) h.wish)
          ∙ sym (ap (λ x. x.receiver.jobs) (taken_other s (record h { wish = Wish.Go }) e))
      | inr e ↦ ap (λ x. x.receiver.jobs) (passed_other s h e) ∙ sym (ap (λ x. x.receiver.jobs) (passed_other s (record h { wish = Wish.Go }) e))
    ]

-- all that came whole stay kept
heard_kept : (h : OneHearing) (s s' : Contending) (n : ℕ) → HearsOther h s s' → AreKept n s.receiver.jobs
    → AreKept (kept_with n (slice_get s'.receiver.jobs n)) s'.receiver.jobs
heard_kept h s s' n hears kept =
    let jobs = heard_jobs h s s' hears in
    let now : ℕ = kept_with n (slice_get s'.receiver.jobs n) in
    subst (AreKept now) (sym jobs)
    (others_kept n now s (after_other s h.what h.refused Wish.Go) s'.receiver.jobs h.what h.refused refl jobs kept refl)

-- and as they were
read_same : (n : ℕ) (jobs : List Job) (u : Unpacked) (w : Bool) → AreKept n jobs → take n (with_read jobs u w) ≡ take n jobs
read_same zero jobs u w kept = refl
read_same (suc n) [] u w kept = absurd kept
read_same (suc zero) (j ∷ []) u w kept =
    ap (λ b. take 1 (if b then j ∷ with_records None u w ∷ [] else with_records (Some j) u w ∷ [])) kept.0
read_same (suc (suc n)) (j ∷ []) u w kept = absurd kept.1
read_same (suc n) (j ∷ k ∷ jobs) u w kept = ap (λ xs. j ∷ xs) (read_same n (k ∷ jobs) u w kept.1)

block_same : (n : ℕ) (jobs : List Job) (b : Block) → AreKept n jobs → take n (with_block jobs b) ≡ take n jobs
block_same n jobs b kept =
    elim (reading b (mode_of_begun (begun_in jobs))) as (λ o. take n (elim o [ None ↦ jobs | Some u ↦ with_read jobs u (ends_job b.closing) ]) ≡ take n jobs) [
      | None ↦ refl
      | Some u ↦ read_same n jobs u (ends_job b.closing) kept
    ]

jobs_same : (n : ℕ) (jobs : List Job) (what : Heard) (accepted : Bool) → AreKept n jobs → take n (jobs_after what accepted jobs) ≡ take n jobs
jobs_same n jobs (heard.Frame (frame.Block b)) true kept = block_same n jobs b kept
jobs_same n jobs (heard.Frame (frame.Block b)) false kept = refl
jobs_same n jobs (heard.Frame _) accepted kept = refl
jobs_same n jobs _ accepted kept = refl

heard_same : (h : OneHearing) (s s' : Contending) (n : ℕ) → HearsOther h s s' → AreKept n s.receiver.jobs → take n s'.receiver.jobs ≡ take n s.receiver.jobs
heard_same h s s' n hears kept = came (receiver_after_other h s s' hears)
  where
    came : FarGoes h s.receiver s'.receiver → take n s'.receiver.jobs ≡ take n s.receiver.jobs
    came (inl (may, reply, state)) =
        ap (λ x. take n x.jobs) state
        ∙ jobs_same n s.receiver.jobs h.what (receiver_news s.receiver.core (sound_taken h.what h.refused) h.wish).accepted kept
    came (inr (none, state)) = ap (λ x. take n x.jobs) state

-- the next of them is entered where it came whole
kept_more : (n : ℕ) (next : Option Job) (jobs : List Job) (entered : List Entry) → slice_get jobs n ≡ next → kept_by entered ≡ take n jobs
    → kept_by (keeping next ++ entered) ≡ take (kept_with n next) jobs
kept_more n None jobs entered e same = same
kept_more n (Some job) jobs entered e same = either job.whole
  where
    either : (whole : Bool) → kept_by ((if whole then Kept job ∷ [] else []) ++ entered) ≡ take (if whole then n + 1 else n) jobs
    either true = ap (λ xs. xs ++ job ∷ []) same ∙ sym (take_one n jobs job e) ∙ ap (λ m. take m jobs) (sym (add-one n))
    either false = same

-- what else is entered says nothing of what is kept
kept_announced : (goes : Bool) (job : ℕ) (entered : List Entry) → kept_by ((if goes then MayArrive job ∷ [] else []) ++ entered) ≡ kept_by entered
kept_announced true job entered = refl
kept_announced false job entered = refl

kept_settled : (same : Bool) (job : ℕ) (entered : List Entry) → kept_by ((if same then [] else Settled job Disposition.Sent ∷ []) ++ entered) ≡ kept_by entered
kept_settled true job entered = refl
kept_settled false job entered = refl

-- ---- All along.

or_left : (x y : Bool) → (x || y) ≡ true → y ≡ false → x ≡ true
or_left true y or not_so = refl
or_left false y or not_so = absurd (true≢false (sym or ∙ not_so))

or_not : (x y z : Bool) → y ≡ true → z ≡ true → (x || (not x && (y && z))) ≡ true
or_not true y z a b = refl
or_not false y z a b = ap (λ v. v && z) a ∙ b

both_so : (may : Bool) (n m : ℕ) → (may && (n == m)) ≡ true → (may ≡ true) × (n ≡ m)
both_so true n m both = (refl, eqb-true n m both)
both_so false n m both = absurd (true≢false (sym both))

-- what the books of an end come to, over the ledger with which its transmission began
module _ (rank : Rank) (jobs : List Job) (begun : List Entry) where
  abbrev ledger : Books → List Entry
  ledger b = b.entered ++ begun

  record Along (past : List AtEnd) (s : Contending) (went : EndWent rank jobs past s) (b : Books) : Type 0 where
    given : s.sender.jobs ≡ jobs
    in_step : IsInStep (in_hand s b) (ledger b)
    out : b.may_have_come ≡ true → may_arrive (ledger b) s.sender.counted ≡ true
    said : (n : ℕ) → HasSaidLast n rank jobs past s went → may_arrive (ledger b) n ≡ true
    kept : AreKept b.kept s.receiver.jobs
    kept_are : kept_by b.entered ≡ take b.kept s.receiver.jobs

  first_along : BeginsWith jobs begun → (s : Contending) (went : EndWent rank jobs [] s) → Along [] s went (books rank jobs [] s went)
  first_along begins s went = record {
    given = given;
    in_step = elim begins [
      | inl just ↦
          subst (IsInStep (in_hand s (books rank jobs [] s went))) (sym just.1)
          (first_in_step (in_hand s (books rank jobs [] s went)) jobs just.0 (ap (λ x. x.sender.counted) went) refl)
      | inr none ↦ none_in_step (in_hand s (books rank jobs [] s went)) begun (given ∙ none)
    ];
    out = λ may. absurd (true≢false (sym may));
    said = λ n said. absurd said;
    kept = subst (λ (x : Contending). AreKept 0 x.receiver.jobs) (sym went) tt;
    kept_are = refl;
  }
    where
      given : s.sender.jobs ≡ jobs
      given = ap (λ x. x.sender.jobs) went

  -- it spoke
  module _ (f : Frame) (past : List AtEnd) (s s' : Contending) (went : EndWent rank jobs past s) (speaks : SpeaksOwn f s s') (b : Books)
      (a : Along past s went b) where
    abbrev c : Carried
    c = in_hand s b

    stays : Stays s.sender s'.sender
    stays = spoken_stays f s s' speaks

    entered : ledger (announced s b) ≡ announcing c ++ ledger b
    entered = append_assoc (announcing c) b.entered begun

    -- where the last block of a job goes out, or went out
    out_then : (b.may_have_come || goes_out c) ≡ true → may_arrive (announcing c ++ ledger b) s.sender.counted ≡ true
    out_then may = elim (cases_Bool (goes_out c)) [
      | inl goes ↦ out_now c (ledger b) goes
      | inr stay ↦ out_announced (goes_out c) s.sender.counted s.sender.counted (ledger b) (a.out (or_left b.may_have_come (goes_out c) may stay))
    ]

    says_last : IsLastOfJob f s.sender → (b.may_have_come || goes_out c) ≡ true
    says_last last = or_not b.may_have_come (is_of_block (due_at s)) (ends_with s.sender.rest) of_block (ap ends_with last.outstanding ∙ last.last)
      where
        of_block : is_of_block (due_at s) ≡ true
        of_block = elim (said_of_block (due_at s) s.sender.rest f last.block speaks.due last.said) [
          | inl first ↦ ap is_of_block first
          | inr again ↦ ap is_of_block again
        ]

    said_then : (n : ℕ) → HasSaidLast n rank jobs (Own (Says f) ∷ past) s' (s, went, speaks) → may_arrive (announcing c ++ ledger b) n ≡ true
    said_then n (inl (same, last)) = subst (λ m. may_arrive (announcing c ++ ledger b) m ≡ true) same (out_then (says_last last))
    said_then n (inr before) = out_announced (goes_out c) s.sender.counted n (ledger b) (a.said n before)

    spoke_along : Along (Own (Says f) ∷ past) s' (s, went, speaks) (announced s b)
    spoke_along = record {
      given = stays.0 ∙ a.given;
      in_step = own_fault_in_step c (in_hand s' (announced s b)) (ledger b) (ledger (announced s b)) stays refl entered a.in_step;
      out = λ may.
          subst (λ (l : List Entry). may_arrive l s'.sender.counted ≡ true) (sym entered)
          (subst (λ n. may_arrive (announcing c ++ ledger b) n ≡ true) (sym stays.1) (out_then may));
      said = λ n said. subst (λ (l : List Entry). may_arrive l n ≡ true) (sym entered) (said_then n said);
      kept = subst (λ (r : Receiving). AreKept b.kept r.jobs) (sym (spoke_aside f s s' speaks)) a.kept;
      kept_are = kept_announced (goes_out c) s.sender.counted b.entered ∙ a.kept_are ∙ ap (λ r. take b.kept r.jobs) (sym (spoke_aside f s s' speaks));
    }

  -- it listened
  module _ (given : Given Answer) (past : List AtEnd) (s s' : Contending) (went : EndWent rank jobs past s) (listens : ListensOwn given s s') (b : Books)
      (a : Along past s went b) where
    record Listened : Type 0 where
      given_are : s'.sender.jobs ≡ jobs
      in_step : IsInStep (in_hand s' (answered s s' b)) (ledger (answered s s' b))
      out : (answered s s' b).may_have_come ≡ true → may_arrive (ledger (answered s s' b)) s'.sender.counted ≡ true
      said : (n : ℕ) → HasSaidLast n rank jobs past s went → may_arrive (ledger (answered s s' b)) n ≡ true
      kept : AreKept b.kept s'.receiver.jobs
      kept_are : kept_by (answered s s' b).entered ≡ take b.kept s'.receiver.jobs

    steps : CountsOneAtMost s.sender s'.sender
    steps = listened_steps given s s' listens

    settled : ledger (answered s s' b) ≡ settling s.sender.counted s'.sender.counted ++ ledger b
    settled = append_assoc (settling s.sender.counted s'.sender.counted) b.entered begun

    listened_along : Listened
    listened_along = record {
      given_are = steps.0 ∙ a.given;
      in_step = answered_in_step (in_hand s b) (in_hand s' (answered s s' b)) (ledger b) (ledger (answered s s' b)) steps settled refl a.in_step;
      out = λ may.
          let both = both_so b.may_have_come s.sender.counted s'.sender.counted may in
          subst (λ (l : List Entry). may_arrive l s'.sender.counted ≡ true) (sym settled)
          (out_settled s.sender.counted s'.sender.counted s'.sender.counted (ledger b) (subst (λ n. may_arrive (ledger b) n ≡ true) both.1 (a.out both.0)));
      said = λ n said.
          subst (λ (l : List Entry). may_arrive l n ≡ true) (sym settled) (out_settled s.sender.counted s'.sender.counted n (ledger b) (a.said n said));
      kept = subst (λ (r : Receiving). AreKept b.kept r.jobs) (sym (listened_aside given s s' listens)) a.kept;
      kept_are =
          kept_settled (s.sender.counted == s'.sender.counted) s.sender.counted b.entered
          ∙ a.kept_are ∙ ap (λ r. take b.kept r.jobs) (sym (listened_aside given s s' listens));
    }

  -- it heard the other station
  module _ (e : AtReceiver) (past : List AtEnd) (s s' : Contending) (went : EndWent rank jobs past s) (goes : EndGoes rank past (Others e) s s') (b : Books)
      (a : Along past s went b) where
    abbrev next : Option Job
    next = slice_get s'.receiver.jobs b.kept

    other_stays : Stays s.sender s'.sender
    other_stays = yield_stays s.sender s'.sender (sender_after_other (hearing_of e) s s' goes.1)

    kept_now : ledger (kept_next s' b) ≡ keeping next ++ ledger b
    kept_now = append_assoc (keeping next) b.entered begun

    heard_along : Along (Others e ∷ past) s' (s, went, goes) (kept_next s' b)
    heard_along = record {
      given = other_stays.0 ∙ a.given;
      in_step = others_in_step (in_hand s b) (in_hand s' (kept_next s' b)) next (ledger b) (ledger (kept_next s' b)) other_stays refl kept_now a.in_step;
      out = λ may.
          subst (λ (l : List Entry). may_arrive l s'.sender.counted ≡ true) (sym kept_now)
          (out_kept next s'.sender.counted (ledger b) (subst (λ n. may_arrive (ledger b) n ≡ true) (sym other_stays.1) (a.out may)));
      said = λ n said. subst (λ (l : List Entry). may_arrive l n ≡ true) (sym kept_now) (out_kept next n (ledger b) (a.said n said));
      kept = heard_kept (hearing_of e) s s' b.kept goes.1 a.kept;
      kept_are = kept_more b.kept next s'.receiver.jobs b.entered refl (a.kept_are ∙ sym (heard_same (hearing_of e) s s' b.kept goes.1 a.kept));
    }

  along : BeginsWith jobs begun → (past : List AtEnd) (s : Contending) (went : EndWent rank jobs past s) → Along past s went (books rank jobs past s went)
  along begins [] s went = first_along begins s went
  along begins (Own (Says f) ∷ past) s (mid, went, speaks) = spoke_along f past mid s went speaks (books rank jobs past mid went) (along begins past mid went)
  along begins (Own (Comes x) ∷ past) s (mid, went, listens) =
      let l = listened_along _ past mid s went listens (books rank jobs past mid went) (along begins past mid went) in
      record { given = l.given_are; in_step = l.in_step; out = l.out; said = l.said; kept = l.kept; kept_are = l.kept_are }
  along begins (Own (InVain rest) ∷ past) s (mid, went, listens) =
      let l = listened_along _ past mid s went listens (books rank jobs past mid went) (along begins past mid went) in
      record { given = l.given_are; in_step = l.in_step; out = l.out; said = l.said; kept = l.kept; kept_are = l.kept_are }
  along begins (Crosses c ∷ past) s (mid, went, listens) =
      let l = listened_along _ past mid s went listens (books rank jobs past mid went) (along begins past mid went) in
      record { given = l.given_are; in_step = l.in_step; out = l.out; said = l.said; kept = l.kept; kept_are = l.kept_are }
  along begins (Others e ∷ past) s (mid, went, goes) = heard_along e past mid s went goes (books rank jobs past mid went) (along begins past mid went)

-- ---- Once it is over.

rest_so : (c : Carried) (before rest : List Entry) (less : Bool) → nat_lt c.station.sender.counted (length c.station.sender.jobs) ≡ less → IsInStep c before
    → MatchBool less (SettlesRest (ended_of c) c.station.sender.counted (length c.station.sender.jobs) before rest) (rest ≡ before)
    → IsSettled c rest × ((n : ℕ) → may_arrive before n ≡ true → may_arrive rest n ≡ true)
rest_so c before rest true e in_step settles =
    (settled_rest c before rest (ltb-true c.station.sender.counted (length c.station.sender.jobs) e) settles in_step, λ n out. settles.out n ∙ out)
rest_so c before rest false e in_step is = (
  settled_none c rest (ltb-false c.station.sender.counted (length c.station.sender.jobs) e) (subst (λ (l : List Entry). IsInStep c l) (sym is) in_step),
  λ n out. ap (λ l. may_arrive l n) is ∙ out,
)

kept_length : (n : ℕ) (jobs : List Job) → AreKept n jobs → length (take n jobs) ≡ n
kept_length zero jobs kept = refl
kept_length (suc n) [] kept = absurd kept
kept_length (suc n) (j ∷ jobs) kept = ap suc (kept_length n jobs kept.1)

keeps_all : (kept : List Job) (n : ℕ) (jobs : List Job) → AreKept n jobs → kept ≡ take n jobs → HasKept kept jobs
keeps_all kept n jobs are same =
    let many : length kept ≡ n = ap length same ∙ kept_length n jobs are in
    record { many = subst (λ m. AreKept m jobs) (sym many) are; same = same ∙ ap (λ m. take m jobs) (sym many) }

-- one end
module _ (own other : Passage) (rank : Rank) (past : List AtEnd) (s : Contending) (went : EndWent rank (jobs_of own.given) past s)
    (e : Enters own other rank past s went) where
  abbrev last : Books
  last = books rank (jobs_of own.given) past s went

  a : Along rank (jobs_of own.given) e.begun past s went last
  a = along rank (jobs_of own.given) e.begun e.begins past s went

  so : IsSettled (in_hand s last) e.finishes.rest × ((n : ℕ) → may_arrive (last.entered ++ e.begun) n ≡ true → may_arrive e.finishes.rest n ≡ true)
  so =
      rest_so (in_hand s last) (last.entered ++ e.begun) e.finishes.rest (nat_lt s.sender.counted (length s.sender.jobs)) refl a.in_step e.finishes.settles

  booked : IsBooked own rank past s went
  booked = record {
    session = in_hand s last;
    ledger = e.after;
    given = a.given;
    counted = refl;
    ended = e.ended;
    settled = settled_on (in_hand s last) (slice_get s.receiver.jobs last.kept) e.finishes.rest e.after e.finishes.cut so.0;
    entered = λ n said.
        subst (λ (l : List Entry). may_arrive l n ≡ true) (sym e.finishes.cut)
        (out_cut (slice_get s.receiver.jobs last.kept) n e.finishes.rest (so.1 n (a.said n said)));
  }

  pub keeps : HasKept other.kept s.receiver.jobs
  keeps = keeps_all other.kept last.kept s.receiver.jobs a.kept (e.kept ∙ a.kept_are)

pub carry_what_is_entered : CarryWhatIsEntered
carry_what_is_entered up down c = record {
  near = c.near;
  far = c.far;
  p = c.p;
  s = c.s;
  exchange = c.exchange;
  fit_up = c.fit_up;
  fit_down = c.fit_down;
  booked_up = booked up down Rank.Primary c.near c.p c.exchange.primary c.primary;
  booked_down = booked down up Rank.Secondary c.far c.s c.exchange.secondary c.secondary;
  kept_up = keeps down up Rank.Secondary c.far c.s c.exchange.secondary c.secondary;
  kept_down = keeps up down Rank.Primary c.near c.p c.exchange.primary c.primary;
}
