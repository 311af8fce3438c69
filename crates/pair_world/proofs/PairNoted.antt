-- What two stations that both have jobs note of a turn.
use Rattle.std.proofs.Common.{◌≡◌, ◌≢◌, inl, inr, ℕ, Bool, true, false, not, List, [], ◌∷◌, ◌++◌, Some, None, if◌then◌else◌, refl, ap, sym, ◌∙◌, append-nil}
use Rattle.std.proofs.lemmas.Bool.{cases_Bool}
use Rattle.std.proofs.lemmas.List.{append_assoc}
use Rattle.bsc_link.specs.declared.rank.Rank.{Rank}
use Rattle.bsc_link.specs.declared.receiver_place.ReceiverPlace.{ReceiverPlace}
use Rattle.bsc_link.specs.declared.say.Say.{Say}
use Rattle.bsc_link.specs.declared.sound.Sound.{Sound}
use Rattle.bsc_link.specs.declared.wish.Wish.{Wish}
use Rattle.bsc_link.specs.Contender.{takes_enq}
use Rattle.bsc_link.specs.Receiver.{ReceiverState, receiver_hears, receiver_news}
use Rattle.bsc_link.specs.Sender.{is_enough}
use Rattle.rje_jobs.specs.declared.job.Job.{Job}
use Rattle.rje_jobs.specs.Blocks.{blocks}
use Rattle.rje_station.specs.declared.event.Event.{Event}
use Rattle.rje_station.specs.declared.event.Event.TheVariants as event
use Rattle.rje_station.specs.Hearing.{sound_heard}
use Rattle.rje_station.specs.JoinedJobs.{begun_in}
use Rattle.rje_station.specs.Laws.{TraceGoesOn}
use Rattle.rje_station.specs.Receiving.{sound_taken, received_events, after_receiving, trace_after_reply}
use Rattle.rje_station.specs.Sending.{Sending}
use Rattle.rje_station.specs.Station.{Contending, after_own_reply, after_passing, gives_way, lets_in}
use Rattle.rje_station.specs.Trace.{last_events, IsTraceOf}
use Rattle.bsc_history.specs.declared.spoken_turn.SpokenTurn.{SpokenTurn}
use Rattle.bsc_history.specs.History.{Plan, History, is_over}
use Rattle.bsc_history.specs.Got.{brings_block}
use Rattle.bsc_history.specs.Conversation.{Follows, MayBeSpoken}
use Rattle.bsc_history.specs.Cores.{taken, receiver_after}
use Rattle.bsc_history.specs.Pair.{sound_counted, as_counted}
use Rattle.bsc_history.proofs.ForRuns.{counts-step}
use Rattle.line_world.specs.declared.spoken.Spoken.{Spoken}
use Rattle.line_world.specs.declared.turn.Turn.{Turn}
use Rattle.pair_world.specs.Inside.PairDriving.{SpeaksAlone, after_end_of}
use Rattle.line_world.specs.Plan.{plan_of}
use Rattle.line_world.specs.Traces.{sender_events, heard_events}
use Rattle.pair_world.specs.PairTraces.{ended_events, listener_events}
use Rattle.line_world.specs.Turns.{after_turn}
use Rattle.pair_world.proofs.Alone.{other_than_enq, listener_rests}
use Rattle.line_world.proofs.ForPairs.{ended_early, turn_noted, hearing_noted, answer_noted, taken_is, taken_eot, no_eot, accepted_is, turn_of, unanswered}
use Rattle.rje_station.proofs.PassedOver.{passed_enq, passed_unrefused}
use Rattle.pair_world.proofs.Sends.{SendsBy}

-- ---- The sender.

pub sends_noted : TraceGoesOn → (jobs : List Job) (h : History) (b : Bool) (m n : ℕ) (s : Sending) (t : SpokenTurn) → SendsBy jobs h b m n s → Follows (plan_of (blocks jobs)) (is_enough m n) h t → IsTraceOf (sender_events h) s.trace
    → IsTraceOf (sender_events (t ∷ h)) (after_turn s t).trace
sends_noted law jobs h b m n s t p f noted = turn_noted law h s t (p.core.says ∙ sym f.said) noted (λ more. counts-step (plan_of (blocks jobs)) h b m n s.core t p.core f.goes_on f.said)

way_kept : (rank : Rank) (sound : Sound) (s : Sending) → (gives_way rank sound s).trace ≡ s.trace
way_kept Rank.Secondary Sound.Enq s = refl
way_kept rank sound s = refl

-- giving way isn't noted
pub way_noted : (let_in : Bool) (rank : Rank) (sound : Sound) (s : Sending) → (if let_in then gives_way rank sound s else s).trace ≡ s.trace
way_noted true rank sound s = way_kept rank sound s
way_noted false rank sound s = refl

-- ---- The end.

abbrev is_eot : Sound → Bool
is_eot Sound.Eot = true
is_eot _ = false

-- a receiving station that is over just where EOT arrived is told of the end where it didn't
ended_noted : TraceGoesOn → (say : Say) (arrived : Sound) (x : Contending) (events : List Event) → x.receiver.over ≡ is_eot arrived → IsTraceOf events x.receiver.trace → IsTraceOf (events ++ ended_events say arrived) (after_end_of say x).receiver.trace
ended_noted law Say.End Sound.Eot x events over p = rw over (p ∙ ap last_events (sym (append-nil events)))
ended_noted law Say.End _ x events over p = rw over (law events (event.Over ∷ []) x.receiver.trace p)
ended_noted law _ arrived x events over p = p ∙ ap last_events (sym (append-nil events))

over_owes : (b : Bool) (x : Contending) → x.receiver.over ≡ b → x.receiver.due ≡ None → (after_end_of Say.End x).receiver.due ≡ None
over_owes true x over silent = rw over silent
over_owes false x over silent = rw over refl

pub ended_silent : (say : Say) (x : Contending) → x.receiver.due ≡ None → (after_end_of say x).receiver.due ≡ None
ended_silent Say.End x silent = over_owes x.receiver.over x refl silent
ended_silent _ x silent = silent

-- of a turn in which both spoke
pub vain_noted : TraceGoesOn → (u : SpokenTurn) (x : Contending) (events : List Event) → u.arrived ≡ Sound.Quiet → x.receiver.over ≡ false → IsTraceOf events x.receiver.trace → IsTraceOf (events ++ ended_events u.said u.arrived) (after_end_of u.said x).receiver.trace
vain_noted law u x events quiet live p = ended_noted law u.said u.arrived x events (live ∙ sym (ap is_eot quiet)) p

-- ---- The receiver ends at an EOT alone.

place_on : (s : ReceiverState) (sound : Sound) (wish : Wish) (place : ReceiverPlace) → s.place ≡ place → place ≢ ReceiverPlace.Ended → sound ≢ Sound.Eot → (receiver_hears s sound wish).place ≢ ReceiverPlace.Ended
place_on s sound wish ReceiverPlace.Ended e n m = absurd (n refl)
place_on s Sound.Eot wish place e n m = absurd (m refl)
place_on s Sound.Enq Wish.Hold ReceiverPlace.Idle e n m = rw e (λ x. cc)
place_on s Sound.Enq Wish.Go ReceiverPlace.Idle e n m = rw e (λ x. cc)
place_on s Sound.Enq Wish.Turn ReceiverPlace.Idle e n m = rw e (λ x. cc)
place_on s _ wish ReceiverPlace.Idle e n m = rw e (λ x. cc)
place_on s _ wish ReceiverPlace.InTransmission e n m = rw e (λ x. cc)

never_ended : (plan : Plan) (h : History) → MayBeSpoken plan h → is_over h ≡ false → (receiver_after h).place ≢ ReceiverPlace.Ended
never_ended plan [] spoken goes = λ e. cc
never_ended plan (t ∷ past) spoken goes =
    place_on (receiver_after past) (taken t.arrived t.refused) t.wish (receiver_after past).place refl (never_ended plan past spoken.1 spoken.0.1.goes_on) (taken_eot t.arrived t.refused (no_eot plan t past spoken goes))

ended_at : (s : ReceiverState) (sound : Sound) (wish : Wish) (place : ReceiverPlace) → s.place ≡ place → place ≢ ReceiverPlace.Ended → (receiver_news s sound wish).ended ≡ is_eot sound
ended_at s sound wish ReceiverPlace.Ended e n = absurd (n refl)
ended_at s Sound.Eot wish ReceiverPlace.Idle e n = rw e refl
ended_at s Sound.Eot wish ReceiverPlace.InTransmission e n = rw e refl
ended_at s sound wish place e n = ended_early s sound wish place e (λ x. cc)

eot_taken : (arrived : Sound) (refused : Bool) → is_eot (taken arrived refused) ≡ is_eot arrived
eot_taken Sound.Block true = refl
eot_taken Sound.Block false = refl
eot_taken _ refused = refl

-- ---- The listener, where the other speaks alone.

brings_by : (bid_out : Bool) (u : SpokenTurn) (arrived : Sound) → u.arrived ≡ arrived → brings_block (as_counted bid_out u) ≡ brings_block u
brings_by false u arrived e = refl
brings_by true u Sound.Enq e = rw e refl
brings_by true u _ e = rw e refl

-- an ENQ that isn't taken is all that is noted
enq_noted : (u : SpokenTurn) → u.arrived ≡ Sound.Enq → u.refused ≡ false → ◌≡◌ {A = List Event} (event.Heard u.arrived ∷ received_events (brings_block u) u.refused) (event.Heard Sound.Enq ∷ [])
enq_noted u e f = rw (e, f) refl

module _ (law : TraceGoesOn) (plan : Plan) (own : History) (g bid_out : Bool) (s s' l l' : Contending) (turn : Turn) (t : Spoken) (core : l.receiver.core ≡ receiver_after own) (live : l.receiver.over ≡ false) (may_own : MayBeSpoken plan own)
    (takes : takes_enq l.contender ≡ not bid_out) (f : Follows plan g own (as_counted bid_out (turn_of turn t))) (took : SpeaksAlone turn s s' l l' t) where
  abbrev u : SpokenTurn
  u = turn_of turn t

  abbrev v : SpokenTurn
  v = as_counted bid_out u

  -- what is known of the listener after it heard
  record HasHeard (events : List Event) : Type 0 where
    noted : IsTraceOf (events ++ event.Heard t.arrived ∷ received_events (brings_block u) t.refused) took.middle.receiver.trace
    over : took.middle.receiver.over ≡ is_eot t.arrived

  hears_it : (events : List Event) → IsTraceOf events l.receiver.trace → lets_in l.contender (sound_heard took.across.what) ≡ true → HasHeard events
  hears_it events p yea =
      let is : took.middle.receiver ≡ after_receiving l.receiver took.across.what t.refused turn.wish = ap (λ x. x.receiver) took.across.state ∙ rw yea refl in
      let arrived : v.arrived ≡ sound_heard took.across.what = ap (sound_counted bid_out) took.across.arrived_is ∙ other_than_enq l.contender (sound_heard took.across.what) bid_out takes yea in
      let accepts = accepted_is plan own l.receiver v took.across.what core ((g, f), may_own) arrived took.across.may ∙ brings_by bid_out u u.arrived refl in
      let place : l.receiver.core.place ≢ ReceiverPlace.Ended = λ e. never_ended plan own may_own f.goes_on (sym (ap (λ x. x.place) core) ∙ e) in
      record {
        noted = ap (λ x. x.trace) is ∙ hearing_noted law events l.receiver took.across.what u took.across.arrived_is accepts p;
        over =
            ap (λ x. x.over) is ∙ ended_at l.receiver.core (sound_taken took.across.what t.refused) turn.wish l.receiver.core.place refl place
            ∙ ap is_eot (taken_is took.across.what _ t.refused took.across.may) ∙ eot_taken (sound_heard took.across.what) t.refused ∙ ap is_eot (sym took.across.arrived_is);
      }

  passes_it : (events : List Event) → IsTraceOf events l.receiver.trace → lets_in l.contender (sound_heard took.across.what) ≡ false → HasHeard events
  passes_it events p out =
      let enq = passed_enq l.contender (sound_heard took.across.what) out in
      let none = passed_unrefused took.across.what (begun_in l.receiver.jobs) t.refused enq took.across.may in
      let is : took.middle.receiver ≡ after_passing l.receiver = ap (λ x. x.receiver) took.across.state ∙ rw out refl in
      let arrived : t.arrived ≡ Sound.Enq = took.across.arrived_is ∙ enq in
      record {
        noted = ap (λ x. x.trace) is ∙ law events (event.Heard Sound.Enq ∷ []) l.receiver.trace p ∙ ap (λ x. last_events (events ++ x)) (sym (enq_noted u arrived none));
        over = ap (λ x. x.over) is ∙ live ∙ sym (ap is_eot arrived);
      }

  has_heard : (events : List Event) → IsTraceOf events l.receiver.trace → HasHeard events
  has_heard events p = elim (cases_Bool (lets_in l.contender (sound_heard took.across.what))) [ inl yea ↦ hears_it events p yea | inr out ↦ passes_it events p out ]

  is_resting : took.after ≡ after_own_reply took.middle
  is_resting = listener_rests turn s s' l l' t (λ end. unanswered own t.said v.arrived t.refused t.reply turn.wish end f.arrived f.replied) took

  is_ended : l' ≡ after_end_of t.said took.after
  is_ended = took.ended ∙ ap (λ x. after_end_of x took.after) (sym took.said)

  pub alone_silent : l'.receiver.due ≡ None
  alone_silent = ap (λ x. x.receiver.due) is_ended ∙ ended_silent t.said took.after (ap (λ x. x.receiver.due) is_resting)

  pub alone_noted : (events : List Event) → IsTraceOf events l.receiver.trace → IsTraceOf (events ++ listener_events (Some u) None) l'.receiver.trace
  alone_noted events p =
      let heard = has_heard events p in
      let after : IsTraceOf (events ++ heard_events u) took.after.receiver.trace =
      ap (λ x. x.receiver.trace) is_resting ∙ ap (λ x. trace_after_reply x took.middle.receiver.trace) (sym took.across.reply_is) ∙ answer_noted law events u took.middle.receiver.trace heard.noted in
      ap (λ x. x.receiver.trace) is_ended ∙ ended_noted law t.said t.arrived took.after (events ++ heard_events u) (ap (λ x. x.receiver.over) is_resting ∙ heard.over) after
      ∙ ap last_events (append_assoc events (heard_events u) (ended_events t.said t.arrived))
