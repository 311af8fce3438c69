-- The ledger stays in step with a transmission in hand, turn by turn.
use Rattle.std.proofs.Common.{slice_get, if◌then◌else◌, ◌≡◌, ◌≢◌, ◌⊎◌, inl, inr, ℕ, ◌+◌, ◌≤◌, ◌<◌, Bool, true, false, not, ◌||◌, List, [], ◌∷◌, ◌++◌, length, Option, Some, None, Result, Ok, Err, IfErr, OnOk, refl, ap, sym, ◌∙◌, subst, arith}
use Rattle.std.proofs.lemmas.Grind.{common_steps}
use Rattle.std.proofs.lemmas.Bool.{true≢false}
use Rattle.std.specs.Result.{IsErrAnd}
use Rattle.bsc_codes.specs.declared.block.Block.{Block}
use Rattle.bsc_codes.specs.declared.block.Closing.{Closing}
use Rattle.bsc_codes.specs.declared.block.Closing.TheVariants.{Etb, Etx}
use Rattle.bsc_frame.specs.declared.heard.Heard.{Heard}
use Rattle.bsc_link.specs.declared.rank.Rank.{Rank}
use Rattle.bsc_link.specs.declared.reply.Reply.{Reply}
use Rattle.bsc_link.specs.declared.say.Say.{Say}
use Rattle.bsc_link.specs.declared.sound.Sound.{Sound}
use Rattle.bsc_link.specs.declared.wish.Wish.{Wish}
use Rattle.bsc_link.specs.Sender.{counts_block, line_for}
use Rattle.rje_day.specs.declared.ended.Ended.{Ended}
use Rattle.rje_day.specs.declared.day_event.DayEvent.{DayEvent}
use Rattle.rje_day.specs.Ended.{disposition_of}
use Rattle.rje_jobs.specs.declared.job.Job.{Job}
use Rattle.rje_station.specs.declared.arrival.Arrival.{Arrival}
use Rattle.rje_station.specs.declared.station_fault.StationFault.{StationFault}
use Rattle.rje_station.specs.declared.station_fault.StationFault.TheVariants as fault
use Rattle.rje_station.specs.Hearing.{sound_heard}
use Rattle.rje_station.specs.Sending.{Sending, after_hearing, counted_after, counted_by}
use Rattle.rje_station.specs.Station.{Contending, after_answer, after_other, after_other_ended, after_other_refusal, after_own_refusal, after_own_speaking, due_at, gives_way, lets_in}
use Rattle.rje_station.proofs.Due.{answered_of_due, spoken_of_due}
use Rattle.rje_session.specs.declared.leaving.Leaving.{Leaving}
use Rattle.rje_session.specs.Account.{ComesOf, UnlessSpoolFailed, IsAccounted, IsInStep, IsSettled, KeepsCut, SettlesRest, became, ended_of, may_arrive}
use Rattle.rje_session.specs.Keeping.{cutting, keeping}
use Rattle.rje_session.specs.Ledger.{Entry, Given}
use Rattle.rje_session.specs.Staying.{AreSettled}
use Rattle.rje_session.specs.Stations.{FailsInOwn, TakesOthers, TakesOwn, after_answering_other, after_own_turn}
use Rattle.rje_session.specs.Turns.{Carried, EntersLeavingOthers, EntersLeavingOwn, LeavesOthers, LeavesOwn, announcing, goes_out, may_come_after, settling}

-- ---- A turn counts one job at most.

abbrev pub CountsOneAtMost : Sending → Sending → Type 0
CountsOneAtMost s s' = (s'.jobs ≡ s.jobs) × ((s'.counted ≡ s.counted) ⊎ (s'.counted ≡ s.counted + 1))

by_one : (closing : Closing) (n : ℕ) → (counted_by closing n ≡ n) ⊎ (counted_by closing n ≡ n + 1)
by_one Etx n = inr refl
by_one Etb n = inl refl

pub counts_one : (counts : Bool) (rest : List Block) (n : ℕ) → (counted_after counts rest n ≡ n) ⊎ (counted_after counts rest n ≡ n + 1)
counts_one false rest n = inl refl
counts_one true [] n = inl refl
counts_one true (b ∷ rest) n = by_one b.closing n

hearing_steps : (s : Sending) (heard : Sound) → CountsOneAtMost s (after_hearing s heard false)
hearing_steps s heard = (refl, counts_one (counts_block (line_for s.core heard false)) s.rest s.counted)

answer_at : (s : Contending) (heard : Sound) (say : Say) → due_at s ≡ say → CountsOneAtMost s.sender (after_answer s heard false).sender
answer_at s heard Say.Nothing e = rw (e, after_answer) (refl, inl refl)
answer_at s heard Say.Bid e = rw (answered_of_due s Say.Bid heard false e (λ x. cc)) (hearing_steps s.sender heard)
answer_at s heard Say.Block e = rw (answered_of_due s Say.Block heard false e (λ x. cc)) (hearing_steps s.sender heard)
answer_at s heard Say.Again e = rw (answered_of_due s Say.Again heard false e (λ x. cc)) (hearing_steps s.sender heard)
answer_at s heard Say.Delay e = rw (answered_of_due s Say.Delay heard false e (λ x. cc)) (hearing_steps s.sender heard)
answer_at s heard Say.Ask e = rw (answered_of_due s Say.Ask heard false e (λ x. cc)) (hearing_steps s.sender heard)
answer_at s heard Say.End e = rw (answered_of_due s Say.End heard false e (λ x. cc)) (hearing_steps s.sender heard)

-- speaking counts none
abbrev pub Stays : Sending → Sending → Type 0
Stays s s' = (s'.jobs ≡ s.jobs) × (s'.counted ≡ s.counted)

spoken_at : (s : Contending) (say : Say) → due_at s ≡ say → say ≢ Say.Nothing → Stays s.sender (after_own_speaking s).sender
spoken_at s say e due = rw (spoken_of_due s say e due) (refl, refl)

turn_at : (s : Contending) (said : Say) (heard : Sound) → due_at s ≢ Say.Nothing → CountsOneAtMost s.sender (after_own_turn s said heard).sender
turn_at s said heard due =
    turn_of said where
      stays_on : Stays s.sender (after_own_speaking s).sender → CountsOneAtMost (after_own_speaking s).sender (after_answer (after_own_speaking s) heard false).sender
          → CountsOneAtMost s.sender (after_answer (after_own_speaking s) heard false).sender
      stays_on stays steps =
          subst (λ (n : ℕ). ((after_answer (after_own_speaking s) heard false).sender.jobs ≡ s.sender.jobs)
          × (((after_answer (after_own_speaking s) heard false).sender.counted ≡ n) ⊎ ((after_answer (after_own_speaking s) heard false).sender.counted ≡ n + 1)))
          stays.1 (steps.0 ∙ stays.0, steps.1)

      heard_on : CountsOneAtMost s.sender (after_answer (after_own_speaking s) heard false).sender
      heard_on = stays_on (spoken_at s (due_at s) refl due) (answer_at (after_own_speaking s) heard (due_at (after_own_speaking s)) refl)

      turn_of : (said : Say) → CountsOneAtMost s.sender (after_own_turn s said heard).sender
      turn_of Say.End = let stays = spoken_at s (due_at s) refl due in (stays.0, inl stays.1)
      turn_of Say.Bid = heard_on
      turn_of Say.Block = heard_on
      turn_of Say.Again = heard_on
      turn_of Say.Delay = heard_on
      turn_of Say.Ask = heard_on
      turn_of Say.Nothing = heard_on

pub own_steps : (s s' : Contending) (said : Say) (heard : Sound) → TakesOwn s s' said heard → CountsOneAtMost s.sender s'.sender
own_steps s s' said heard takes =
    subst (λ (x : Contending). CountsOneAtMost s.sender x.sender) (sym takes.state) (turn_at s said heard (λ none. takes.due (takes.said_is ∙ none)))

-- ---- Its own turn.

pub own_in_step : (c c' : Carried) (before after : List Entry) → CountsOneAtMost c.station.sender c'.station.sender
    → after ≡ settling c.station.sender.counted c'.station.sender.counted ++ announcing c ++ before → c'.may_have_come ≡ may_come_after c c'.station → IsInStep c before → IsInStep c' after
own_in_step c c' before after steps is may in_step = record {
  sent = λ job within. let there : job < length c.station.sender.jobs = rw (sym steps.0) within in let sent = in_step.sent job there in grind (arith, common_steps);
  out = λ job within from. let there : job < length c.station.sender.jobs = rw (sym steps.0) within in let out = in_step.out job there in grind (arith, common_steps);
}

-- ---- The other's turn, and faults.

-- the jobs that are sent, and how many are counted, stay
abbrev pub StaysSo : Contending → Contending → Type 0
StaysSo s s' = Stays s.sender s'.sender

way_stays : (rank : Rank) (sound : Sound) (s : Sending) → Stays s (gives_way rank sound s)
way_stays Rank.Secondary Sound.Enq s = (refl, refl)
way_stays _ _ s = (refl, refl)

let_in_stays : (s : Contending) (what : Heard) (refused b : Bool) → lets_in s.contender (sound_heard what) ≡ b → StaysSo s (after_other s what refused Wish.Go)
let_in_stays s what refused true is = rw is (way_stays s.contender.rank (sound_heard what) s.sender)
let_in_stays s what refused false is = rw is (refl, refl)

answering_stays : (s : Contending) (over : Bool) → s.receiver.over ≡ over → StaysSo s (after_answering_other s)
answering_stays s true is = rw is (refl, refl)
answering_stays s false is = rw is (refl, refl)

pub stays_along : (s mid s' : Contending) → StaysSo s mid → StaysSo mid s' → StaysSo s s'
stays_along s mid s' a b = (b.0 ∙ a.0, b.1 ∙ a.1)

pub others_stay : (s s' : Contending) (arrival : Arrival) (reply : Option Reply) → TakesOthers s s' arrival reply → StaysSo s s'
others_stay s s' arrival reply takes =
    let mid = after_other s takes.what arrival.refused Wish.Go in
    subst (λ (x : Contending). StaysSo s x) (sym takes.state)
    (stays_along s mid (after_answering_other mid) (let_in_stays s takes.what arrival.refused _ refl) (answering_stays mid mid.receiver.over refl))

refusal_at : (fault : StationFault) (s : Contending) → StaysSo s (after_other_refusal fault s)
refusal_at fault.Over s = (refl, refl)
refusal_at _ s = (refl, refl)

pub refusal_stays : (fault : StationFault) (s s' : Contending) → s' ≡ after_other_refusal fault s → StaysSo s s'
refusal_stays fault s s' is = subst (λ (x : Contending). StaysSo s x) (sym is) (refusal_at fault s)

pub heard_stays : (s : Contending) (what : Heard) (refused : Bool) → StaysSo s (after_other s what refused Wish.Go)
heard_stays s what refused = let_in_stays s what refused _ refl

ended_at : (s : Contending) (over : Bool) → s.receiver.over ≡ over → StaysSo s (after_other_ended s)
ended_at s true is = (refl, refl)
ended_at s false is = (refl, refl)

pub ended_stays : (s s' : Contending) → s' ≡ after_other_ended s → StaysSo s s'
ended_stays s s' is = subst (λ (x : Contending). StaysSo s x) (sym is) (ended_at s s.receiver.over refl)

-- nor does it where it heard something, and left without a reply
unanswered_stays : (s s' : Contending) (what : Heard) (refused : Bool) → s' ≡ after_other_ended (after_other s what refused Wish.Go) → StaysSo s s'
unanswered_stays s s' what refused is =
    stays_along s (after_other s what refused Wish.Go) s' (heard_stays s what refused) (ended_stays (after_other s what refused Wish.Go) s' is)

own_refusal_at : (fault : StationFault) (s : Contending) → StaysSo s (after_own_refusal fault s)
own_refusal_at fault.Over s = (refl, refl)
own_refusal_at _ s = (refl, refl)

spoken_stays : (s : Contending) (say : Say) → due_at s ≡ say → StaysSo s (after_own_speaking s)
spoken_stays s Say.Nothing e = rw (e, after_own_speaking) (refl, refl)
spoken_stays s Say.Bid e = spoken_at s Say.Bid e (λ x. cc)
spoken_stays s Say.Block e = spoken_at s Say.Block e (λ x. cc)
spoken_stays s Say.Again e = spoken_at s Say.Again e (λ x. cc)
spoken_stays s Say.Delay e = spoken_at s Say.Delay e (λ x. cc)
spoken_stays s Say.Ask e = spoken_at s Say.Ask e (λ x. cc)
spoken_stays s Say.End e = spoken_at s Say.End e (λ x. cc)

pub own_fault_stays : (fault : StationFault) (s s' : Contending) → FailsInOwn s s' fault → StaysSo s s'
own_fault_stays fault s s' (inl is) = subst (λ (x : Contending). StaysSo s x) (sym is) (own_refusal_at fault s)
own_fault_stays fault s s' (inr is) =
    subst (λ (x : Contending). StaysSo s x) (sym is)
    (stays_along s (after_own_speaking s) (after_own_refusal fault (after_own_speaking s)) (spoken_stays s (due_at s) refl) (own_refusal_at fault (after_own_speaking s)))

-- what is entered of a job that came says nothing of those that are sent
kept_same : (next : Option Job) (before : List Entry) (job : ℕ) → (became (keeping next ++ before) job ≡ became before job) × (may_arrive (keeping next ++ before) job ≡ may_arrive before job)
kept_same None before job = (refl, refl)
kept_same (Some came) before job = came_same came.whole refl where
  came_same : (whole : Bool) → came.whole ≡ whole → (became (keeping (Some came) ++ before) job ≡ became before job) × (may_arrive (keeping (Some came) ++ before) job ≡ may_arrive before job)
  came_same true is = rw is (refl, refl)
  came_same false is = rw is (refl, refl)

pub others_in_step : (c c' : Carried) (next : Option Job) (before after : List Entry) → StaysSo c.station c'.station → c'.may_have_come ≡ c.may_have_come → after ≡ keeping next ++ before
    → IsInStep c before → IsInStep c' after
others_in_step c c' next before after stays may is in_step = record {
  sent = λ job within.
      let there : job < length c.station.sender.jobs = rw (sym stays.0) within in let sent = in_step.sent job there in let same = kept_same next before job in grind (arith, common_steps);
  out = λ job within from.
      let there : job < length c.station.sender.jobs = rw (sym stays.0) within in let out = in_step.out job there in let same = kept_same next before job in grind (arith, common_steps);
}

-- where nothing is entered
pub still_in_step : (c c' : Carried) (ledger : List Entry) → StaysSo c.station c'.station → c'.may_have_come ≡ c.may_have_come → IsInStep c ledger → IsInStep c' ledger
still_in_step c c' ledger stays may in_step = others_in_step c c' None ledger ledger stays may refl in_step

-- a fault of the line in its own turn
pub own_fault_in_step : (c c' : Carried) (before after : List Entry) → StaysSo c.station c'.station → c'.may_have_come ≡ (c.may_have_come || goes_out c) → after ≡ announcing c ++ before → IsInStep c before
    → IsInStep c' after
own_fault_in_step c c' before after stays may is in_step = record {
  sent = λ job within. let there : job < length c.station.sender.jobs = rw (sym stays.0) within in let sent = in_step.sent job there in grind (arith, common_steps);
  out = λ job within from. let there : job < length c.station.sender.jobs = rw (sym stays.0) within in let out = in_step.out job there in grind (arith, common_steps);
}

others_left : {F : Type 0} (unsaid : Type 0) (c c' : Carried) (next : Option Job) (before after : List Entry) (leaving : Leaving F) → LeavesOthers unsaid c c' leaving → c'.may_have_come ≡ c.may_have_come
    → EntersLeavingOthers unsaid next before after leaving → IsInStep c before → UnlessSpoolFailed leaving (IsInStep c' after)
others_left unsaid c c' next before after (Leaving.Spool fault) left may enters in_step = tt
others_left unsaid c c' next before after Leaving.TooMuch (unsaid_is, (what, refused, may_refuse, is)) may enters in_step =
    subst (λ (l : List Entry). IsInStep c' l) (sym enters) (still_in_step c c' before (unanswered_stays c.station c'.station what refused is) may in_step)
others_left {F = F} unsaid c c' next before after (Leaving.Line fault) left may enters in_step = entered enters where
  stays_of : LeavesOthers {F = F} unsaid c c' (Leaving.Line fault) → StaysSo c.station c'.station
  stays_of (inl is) = refusal_stays fault c.station c'.station is
  stays_of (inr (what, refused, may, is)) =
      stays_along c.station (after_other c.station what refused Wish.Go) c'.station (heard_stays c.station what refused) (refusal_stays fault (after_other c.station what refused Wish.Go) c'.station is)

  entered : EntersLeavingOthers {F = F} unsaid next before after (Leaving.Line fault) → IsInStep c' after
  entered (inl (none, is)) = subst (λ (l : List Entry). IsInStep c' l) (sym is) (still_in_step c c' before (stays_of left) may in_step)
  entered (inr is) = others_in_step c c' next before after (stays_of left) may is in_step

-- a turn of the other's that fails is left so
pub others_leave : {A F : Type 0} (unsaid : Type 0) (c c' : Carried) (next : Option Job) (before after : List Entry) (r : Result A (Leaving F)) → IfErr r (LeavesOthers unsaid c c')
    → c'.may_have_come ≡ c.may_have_come → IfErr r (EntersLeavingOthers unsaid next before after) → IsInStep c before → IfErr r (λ leaving. UnlessSpoolFailed leaving (IsInStep c' after))
others_leave unsaid c c' next before after (Ok x) left may enters in_step = tt
others_leave unsaid c c' next before after (Err leaving) left may enters in_step = others_left unsaid c c' next before after leaving left may enters in_step

own_left : {F : Type 0} (unsaid : Type 0) (c c' : Carried) (before after : List Entry) (leaving : Leaving F) → LeavesOwn unsaid c c' leaving → EntersLeavingOwn c c' before after leaving → IsInStep c before
    → UnlessSpoolFailed leaving (IsInStep c' after)
own_left unsaid c c' before after (Leaving.Spool fault) left enters in_step = tt
own_left unsaid c c' before after Leaving.TooMuch left enters in_step = absurd left
own_left unsaid c c' before after (Leaving.Line fault) left enters in_step =
    own_fault_in_step c c' before after (own_fault_stays fault c.station c'.station left.0) left.1 enters in_step

-- the jobs stay, where the line fails
others_left_jobs : {F : Type 0} (unsaid : Type 0) (c c' : Carried) (leaving : Leaving F) → LeavesOthers unsaid c c' leaving → UnlessSpoolFailed leaving (c'.station.sender.jobs ≡ c.station.sender.jobs)
others_left_jobs unsaid c c' (Leaving.Spool fault) left = tt
others_left_jobs unsaid c c' Leaving.TooMuch (unsaid_is, (what, refused, may_refuse, is)) = (unanswered_stays c.station c'.station what refused is).0
others_left_jobs unsaid c c' (Leaving.Line fault) (inl is) = (refusal_stays fault c.station c'.station is).0
others_left_jobs unsaid c c' (Leaving.Line fault) (inr (what, refused, may, is)) =
    (stays_along c.station (after_other c.station what refused Wish.Go) c'.station (heard_stays c.station what refused) (refusal_stays fault (after_other c.station what refused Wish.Go) c'.station is)).0

own_left_jobs : {F : Type 0} (unsaid : Type 0) (c c' : Carried) (leaving : Leaving F) → LeavesOwn unsaid c c' leaving → UnlessSpoolFailed leaving (c'.station.sender.jobs ≡ c.station.sender.jobs)
own_left_jobs unsaid c c' (Leaving.Spool fault) left = tt
own_left_jobs unsaid c c' Leaving.TooMuch left = absurd left
own_left_jobs unsaid c c' (Leaving.Line fault) left = (own_fault_stays fault c.station c'.station left.0).0

left_along : {F : Type 0} (leaving : Leaving F) (a b d : List Job) → a ≡ b → UnlessSpoolFailed leaving (d ≡ a) → UnlessSpoolFailed leaving (d ≡ b)
left_along (Leaving.Spool fault) a b d e left = tt
left_along Leaving.TooMuch a b d e left = left ∙ e
left_along (Leaving.Line fault) a b d e left = left ∙ e

pub others_leave_jobs : {A F : Type 0} (unsaid : Type 0) (c c' : Carried) (jobs : List Job) (r : Result A (Leaving F)) → c.station.sender.jobs ≡ jobs → IfErr r (LeavesOthers unsaid c c')
    → IfErr r (λ leaving. UnlessSpoolFailed leaving (c'.station.sender.jobs ≡ jobs))
others_leave_jobs unsaid c c' jobs (Ok x) same left = tt
others_leave_jobs unsaid c c' jobs (Err leaving) same left = left_along leaving c.station.sender.jobs jobs c'.station.sender.jobs same (others_left_jobs unsaid c c' leaving left)

pub own_leaves_jobs : {A F : Type 0} (unsaid : Type 0) (c c' : Carried) (jobs : List Job) (r : Result A (Leaving F)) → c.station.sender.jobs ≡ jobs → IfErr r (LeavesOwn unsaid c c')
    → IfErr r (λ leaving. UnlessSpoolFailed leaving (c'.station.sender.jobs ≡ jobs))
own_leaves_jobs unsaid c c' jobs (Ok x) same left = tt
own_leaves_jobs unsaid c c' jobs (Err leaving) same left = left_along leaving c.station.sender.jobs jobs c'.station.sender.jobs same (own_left_jobs unsaid c c' leaving left)

-- and so is its own
pub own_leaves : {A F : Type 0} (unsaid : Type 0) (c c' : Carried) (before after : List Entry) (r : Result A (Leaving F)) → IfErr r (LeavesOwn unsaid c c') → IfErr r (EntersLeavingOwn c c' before after)
    → IsInStep c before → IfErr r (λ leaving. UnlessSpoolFailed leaving (IsInStep c' after))
own_leaves unsaid c c' before after (Ok x) left enters in_step = tt
own_leaves unsaid c c' before after (Err leaving) left enters in_step = own_left unsaid c c' before after leaving left enters in_step

-- what holds of an error holds where it is handed on
pub fails_on : {A X F : Type 0} (r : Result A F) (e : F) (s : Result X F) (P : F → Type 0) → r ≡ Err e → IfErr r P → IsErrAnd s (λ x. x ≡ e) → IfErr s P
fails_on r e (Ok x) P is holds same = tt
fails_on {A = A} r e (Err x) P is holds same = let here : IfErr {T = A} (Err e) P = subst (λ (y : Result A _). IfErr y P) is holds in subst P (sym same) here

-- as many quiet turns in a row as turns at most
pub few_quiet : (now quiet n : ℕ) (b : Bool) → now ≡ (if b then quiet + 1 else 0) → quiet ≤ n → now ≤ n + 1
few_quiet now quiet n true is few = omega (arith, is, few)
few_quiet now quiet n false is few = omega (arith, is, few)

-- ---- Once it is over.

pub on_ok : {A F : Type 0} (r : Result A F) (P Q : Type 0) → (P → Q) → OnOk r P → OnOk r Q
on_ok (Ok x) P Q on holds = on holds
on_ok (Err e) P Q on holds = tt

cut_same : (next : Option Job) (before : List Entry) (job : ℕ) → (became (cutting next ++ before) job ≡ became before job) × (may_arrive (cutting next ++ before) job ≡ may_arrive before job)
cut_same None before job = (refl, refl)
cut_same (Some came) before job = cut_at came.whole refl where
  cut_at : (whole : Bool) → came.whole ≡ whole → (became (cutting (Some came) ++ before) job ≡ became before job) × (may_arrive (cutting (Some came) ++ before) job ≡ may_arrive before job)
  cut_at true is = rw is (refl, refl)
  cut_at false is = rw is (refl, refl)

pub rest_as : (ended ended' : Ended) (first first' last last' : ℕ) (before after : List Entry) → ended ≡ ended' → first ≡ first' → last ≡ last' → SettlesRest ended first last before after
    → SettlesRest ended' first' last' before after
rest_as ended ended' first first' last last' before after a b c rest = rw (sym a, sym b, sym c) rest

pub settled_rest : (c : Carried) (before after : List Entry) → c.station.sender.counted < length c.station.sender.jobs
    → SettlesRest (ended_of c) c.station.sender.counted (length c.station.sender.jobs) before after → IsInStep c before → IsSettled c after
settled_rest c before after some rest in_step = record {
  all = λ job within. let sent = in_step.sent job within in let now = rest.became_is job in grind (arith, common_steps);
  ready = λ job within is. let sent = in_step.sent job within in let out = in_step.out job within in let now = rest.became_is job in let same = rest.out job in grind (arith, common_steps);
  doubt = λ job within is. let sent = in_step.sent job within in let out = in_step.out job within in let now = rest.became_is job in let same = rest.out job in grind (arith, common_steps);
}

pub settled_none : (c : Carried) (ledger : List Entry) → length c.station.sender.jobs ≤ c.station.sender.counted → IsInStep c ledger → IsSettled c ledger
settled_none c ledger none in_step = record {
  all = λ job within. let sent = in_step.sent job within in grind (arith, common_steps);
  ready = λ job within is. let sent = in_step.sent job within in grind (arith, common_steps);
  doubt = λ job within is. let sent = in_step.sent job within in grind (arith, common_steps);
}

pub settled_on : (c : Carried) (next : Option Job) (before after : List Entry) → after ≡ cutting next ++ before → IsSettled c before → IsSettled c after
settled_on c next before after is settled =
    subst (λ (l : List Entry). IsSettled c l) (sym is) (record {
      all = λ job within. (cut_same next before job).0 ∙ settled.all job within;
      ready = λ job within lies. (cut_same next before job).1 ∙ settled.ready job within (sym (cut_same next before job).0 ∙ lies);
      doubt = λ job within lies. (cut_same next before job).1 ∙ settled.doubt job within (sym (cut_same next before job).0 ∙ lies);
    })

-- ---- At first.

-- a transmission that begins is in step with a ledger in which it was just given its jobs
pub first_in_step : (c : Carried) (jobs : List Job) (past : List Entry) → c.station.sender.counted ≡ 0 → c.may_have_come ≡ false → IsInStep c (Given jobs ∷ past)
first_in_step c jobs past none not = record {
  sent = λ job within. grind (arith, common_steps);
  out = λ job within from. grind (arith, common_steps);
}

-- one with no jobs is so with any
pub none_in_step : (c : Carried) (ledger : List Entry) → c.station.sender.jobs ≡ [] → IsInStep c ledger
none_in_step c ledger none = record {
  sent = λ job within. absurd (omega (arith, ap (λ (l : List Job). length l) none));
  out = λ job within from. absurd (omega (arith, ap (λ (l : List Job). length l) none));
}

-- ---- At the end.

pub settled_else : (event : DayEvent) (c : Carried) (ledger : List Entry) → (event ≡ DayEvent.OtherBegan → ⊥) → IsAccounted event c ledger → IsSettled c ledger
settled_else DayEvent.OtherBegan c ledger not accounted = absurd (not refl)
settled_else DayEvent.OtherEnded c ledger not accounted = accounted
settled_else DayEvent.Disconnected c ledger not accounted = accounted
settled_else (DayEvent.OwnEnded ended) c ledger not accounted = accounted
settled_else DayEvent.Connected c ledger not accounted = accounted
settled_else DayEvent.NoConnection c ledger not accounted = accounted
settled_else DayEvent.Quiet c ledger not accounted = accounted
settled_else DayEvent.Heard c ledger not accounted = accounted
settled_else DayEvent.OwnBegan c ledger not accounted = accounted

-- what was cut is kept as the last entry, unless the other end's transmission begins
pub keeps_cut : (event : DayEvent) (c : Carried) (ledger : List Entry) → ((past : List Entry) × (ledger ≡ cutting (slice_get c.station.receiver.jobs c.kept) ++ past)) → KeepsCut event c ledger
keeps_cut DayEvent.OtherBegan c ledger cut = tt
keeps_cut DayEvent.OtherEnded c ledger cut = cut
keeps_cut DayEvent.Disconnected c ledger cut = cut
keeps_cut (DayEvent.OwnEnded ended) c ledger cut = cut
keeps_cut DayEvent.Connected c ledger cut = cut
keeps_cut DayEvent.NoConnection c ledger cut = cut
keeps_cut DayEvent.Quiet c ledger cut = cut
keeps_cut DayEvent.Heard c ledger cut = cut
keeps_cut DayEvent.OwnBegan c ledger cut = cut

pub begun_cut : (event : DayEvent) (c : Carried) (ledger : List Entry) → event ≡ DayEvent.OtherBegan → KeepsCut event c ledger
begun_cut event c ledger is = subst (λ (e : DayEvent). KeepsCut e c ledger) (sym is) tt

-- the other end's transmission doesn't begin while it is in hand
pub begins_once : (first second : DayEvent) (c near c' : Carried) → first ≡ DayEvent.OtherBegan → ComesOf c near first → ComesOf near c' second → second ≡ DayEvent.OtherBegan → ⊥
begins_once first second c near c' is comes later again =
    let one : ComesOf c near DayEvent.OtherBegan = subst (λ (e : DayEvent). ComesOf c near e) is comes in
    let two : ComesOf near c' DayEvent.OtherBegan = subst (λ (e : DayEvent). ComesOf near c' e) again later in
    true≢false (sym one.1 ∙ two.0)

pub still_begun : (event : DayEvent) (c : Carried) (ledger : List Entry) → event ≡ DayEvent.OtherBegan → IsAccounted event c ledger → IsInStep c ledger
still_begun event c ledger is accounted = subst (λ (e : DayEvent). IsAccounted e c ledger) is accounted

-- each job that was given is settled
pub given_settled : (c : Carried) (jobs : List Job) (ledger : List Entry) (given : ℕ) → c.station.sender.jobs ≡ jobs → given ≡ length jobs → IsSettled c ledger
    → AreSettled given (ended_of c) ledger
given_settled c jobs ledger given are long settled job within =
    let there : job < length c.station.sender.jobs = rw are (rw (sym long) within) in settled.all job there
