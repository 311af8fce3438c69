-- One turn of two stations is one turn of the conversation.
use Rattle.std.proofs.Common.{◌≡◌, inl, inr, ℕ, ◌<◌, Bool, false, ◌&&◌, List, [], ◌∷◌, ◌++◌, length, take, slice_get, Option, Some, None, refl, ap, sym, ◌∙◌, subst, arith, length-append}
use Rattle.bsc_frame.specs.Laws.{OneHearing, EveryHearing, WrittenIsTransmission}
use Rattle.bsc_link.specs.declared.reply.Reply.{Reply}
use Rattle.bsc_link.specs.declared.sound.Sound.{Sound}
use Rattle.bsc_link.specs.Sender.{say_in, counts_block, line_for}
use Rattle.rje_jobs.specs.declared.job.Job.{Job}
use Rattle.rje_jobs.specs.Blocks.{blocks}
use Rattle.rje_station.specs.declared.event.Event.TheVariants as event
use Rattle.rje_station.specs.Laws.{TraceGoesOn}
use Rattle.rje_station.specs.Receiving.{Receiving, received_events, after_replying, trace_after_reply}
use Rattle.rje_station.specs.Sending.{Sending, IsWrittenOf}
use Rattle.rje_station.specs.Trace.{IsTraceOf}
use Rattle.bsc_history.specs.declared.sound_turn.SoundTurn.{SoundTurn}
use Rattle.line_world.specs.declared.spoken.Spoken.{Spoken}
use Rattle.line_world.specs.declared.turn.Turn.{Turn}
use Rattle.bsc_history.specs.History.{Plan, History, is_over}
use Rattle.bsc_history.specs.Known.{known, gives_up_now}
use Rattle.bsc_history.specs.Conversation.{IsAt, IsSpokenOver, MayBeSpoken, is_block}
use Rattle.bsc_history.specs.Got.{brings_block}
use Rattle.line_world.specs.Inside.Driving.{GoesUp, TakesTurn}
use Rattle.bsc_history.specs.Fate.{sound_of, after_fate}
use Rattle.line_world.specs.Plan.{plan_of}
use Rattle.bsc_history.specs.ReplyRule.{replying}
use Rattle.bsc_history.specs.SayingRule.{saying}
use Rattle.line_world.specs.Run.{TellsTurn, TellsSchedule, IsDue, AllFit}
use Rattle.line_world.specs.Traces.{sender_events, receiver_events}
use Rattle.line_world.specs.Turns.{StandsSending, StandsReceiving, SendingTurns, ReceivingTurns, after_turn}
use Rattle.bsc_history.proofs.ForRuns.{conversations_may_be_spoken, conversations_are_spoken, spoken-more, sender_core_says, sender_core_counts}
use Rattle.line_world.proofs.Comings.{Told, said_told}
use Rattle.line_world.proofs.OneDirection.{ToldDown, no_reply_told, outstanding_is, replies_by, reply_told_as, rested, sent_is_due, turn_of, unanswered}
use Rattle.line_world.proofs.Planned.{begins}
use Rattle.line_world.proofs.Noted.{turn_noted, hearing_noted, answer_noted}
use Rattle.line_world.proofs.ReceivingTurns.{refused_block, accepted_is}
use Rattle.line_world.proofs.SendingTurns.{after_end, after_more, turn_ends, turn_hears, cases_end}
use Rattle.line_world.proofs.Telling.{told_on, get_seam, spoken_longer}

-- the laws of the crates below
pub record Laws : Type 0 where
  pub one : OneHearing
  pub every : EveryHearing
  pub transmits : WrittenIsTransmission
  pub sending : SendingTurns
  pub receiving : ReceivingTurns
  pub notes : TraceGoesOn

-- the turns so far were spoken over what the schedule tells of them, and both stations stand where they left them
pub record StandsRun (jobs : List Job) (turns : List Turn) (h : History) (s : Sending) (r : Receiving) : Type 0 where
  pub before : List SoundTurn
  pub told : TellsSchedule (take (length h) turns) before
  pub spoken : IsSpokenOver (plan_of (blocks jobs)) before h
  pub long : length before ≡ length h
  pub fits : AllFit (blocks jobs) turns h
  pub sends : StandsSending jobs h s
  pub receives : StandsReceiving (blocks jobs) h r
  pub silent : r.due ≡ None
  pub said : IsTraceOf (sender_events h) s.trace
  pub heard : IsTraceOf (receiver_events h) r.trace

-- what stands so is due by the saying rule
pub due_is : (jobs : List Job) (turns : List Turn) (h : History) (s : Sending) (r : Receiving) → 0 < length jobs → StandsRun jobs turns h s r → say_in s.core.place ≡ saying (plan_of (blocks jobs)) (gives_up_now h) h
due_is jobs turns h s r l p =
    ap (λ x. say_in x.place) p.sends.core ∙ (sender_core_says (plan_of (blocks jobs)) h (begins jobs l) (conversations_are_spoken (plan_of (blocks jobs)) h p.spoken.conversation)).0

pub sent_is : (jobs : List Job) (turns : List Turn) (h : History) (s : Sending) (r : Receiving) (sent : List ℕ) → 0 < length jobs → StandsRun jobs turns h s r → IsWrittenOf (say_in s.core.place) s.rest sent → IsDue (blocks jobs) (gives_up_now h) h sent
sent_is jobs turns h s r sent l p w = sent_is_due (blocks jobs) (gives_up_now h) h (say_in s.core.place) s.rest sent (due_is jobs turns h s r l p) p.sends.counted.rest w

pub goes_on : (jobs : List Job) (turns : List Turn) (h : History) (s : Sending) (r : Receiving) → StandsRun jobs turns h s r → s.over ≡ false → is_over h ≡ false
goes_on jobs turns h s r p live = sym p.sends.over ∙ live

-- what goes up is answered by the reply rule
pub answer_is : (jobs : List Job) (turns : List Turn) (h : History) (s : Sending) (r : Receiving) (turn : Turn) (said : Sound) (sent : List ℕ) (middle : Receiving) (arrived : Sound) (refused : Bool) (reply : Option Reply)
    → StandsRun jobs turns h s r → is_over h ≡ false → GoesUp turn said sent r middle arrived refused reply → reply ≡ replying h arrived refused turn.wish
answer_is jobs turns h s r turn said sent middle arrived refused reply p goes up =
    up.reply_is ∙ ap (λ x. x.due) up.state ∙ replies_by (plan_of (blocks jobs)) h r up.what arrived refused turn.wish p.receives.core up.may up.arrived_is (conversations_may_be_spoken (plan_of (blocks jobs)) h p.spoken.conversation) goes

-- ---- One turn.

module _ (laws : Laws) (jobs : List Job) (turns : List Turn) (h : History) (s s' : Sending) (r r' : Receiving) (turn : Turn) (t : Spoken)
    (l : 0 < length jobs) (p : StandsRun jobs turns h s r) (here : slice_get turns (length h) ≡ Some turn) (took : TakesTurn turn s s' r r' t) where
  abbrev plan : Plan
  plan = plan_of (blocks jobs)

  goes : is_over h ≡ false
  goes = goes_on jobs turns h s r p took.live

  said : t.said ≡ saying plan (gives_up_now h) h
  said = took.said ∙ due_is jobs turns h s r l p

  abbrev up_told : Told turn.up (sound_of (say_in s.core.place)) t.arrived
  up_told = said_told laws.one laws.transmits turn.up (say_in s.core.place) s.rest took.sent took.up.what t.arrived took.written took.up.carried took.up.arrived_is

  up_after : after_fate up_told.told (sound_of t.said) ≡ Some t.arrived
  up_after = ap (λ x. after_fate up_told.told (sound_of x)) took.said ∙ up_told.after

  replied : t.reply ≡ replying h t.arrived t.refused turn.wish
  replied = answer_is jobs turns h s r turn _ took.sent took.middle t.arrived t.refused t.reply p goes took.up

  -- but for EOT the sender hears, and the receiver rests
  record IsDown : Type 0 where
    down : ToldDown turn.down t.reply t.heard
    sender : s' ≡ after_turn s (turn_of turn t)
    receiver : r' ≡ after_replying took.middle

  abbrev is_down : IsDown
  is_down = elim (cases_end t.said) [
    | inl end ↦
        let none : t.reply ≡ None = unanswered h t.said t.arrived t.refused t.reply turn.wish end (up_told.told, up_after) replied in
        let down = after_end _ _ (say_in s.core.place) (sym took.said ∙ end) took.down in
        record {
          down = no_reply_told laws.every turn.down t.reply t.heard none down.2;
          sender = down.0 ∙ sym (turn_ends s (turn_of turn t) end);
          receiver = down.1 ∙ sym (rested took.middle (sym took.up.reply_is ∙ none));
        }
    | inr more ↦
        let down = after_more _ _ (say_in s.core.place) (λ e. more (took.said ∙ e)) took.down in
        record {
          down = reply_told_as laws.one laws.every laws.transmits turn.down t.reply took.middle.due t.heard took.up.reply_is down.carried;
          sender = down.sender ∙ sym (turn_hears s (turn_of turn t) t.said refl more);
          receiver = down.receiver;
        }
  ]

  abbrev place : SoundTurn
  place = record { up = up_told.told; down = is_down.down.told.told; refused = t.refused; wish = turn.wish; pause = turn.pause }

  is_at : IsAt place (turn_of turn t)
  is_at = record {
    up = up_after;
    refused = refused_block took.up.what _ t.refused took.up.may ∙ ap (λ x. t.refused && is_block x) (sym took.up.arrived_is);
    down = is_down.down.told.after;
    wish = refl;
    pause = refl;
  }

  abbrev longer : List SoundTurn
  longer = p.before ++ place ∷ []

  there : slice_get longer (length h) ≡ Some place
  there = subst (λ n. slice_get longer n ≡ Some place) p.long (get_seam p.before place [])

  spoken : IsSpokenOver plan longer (turn_of turn t ∷ h)
  spoken = spoken-more plan longer h place (turn_of turn t) (spoken_longer plan p.before (place ∷ []) h p.spoken) goes there is_at said replied

  tells : TellsSchedule (take (length (turn_of turn t ∷ h)) turns) longer
  tells = told_on TellsTurn turns (length h) p.before p.told turn place here (record { up = up_told.tells; down = is_down.down.told.tells; wish = refl; pause = refl })

  may_be : MayBeSpoken plan (turn_of turn t ∷ h)
  may_be = conversations_may_be_spoken plan (turn_of turn t ∷ h) spoken.conversation

  received : StandsReceiving (blocks jobs) (turn_of turn t ∷ h) took.middle
  received = subst (StandsReceiving (blocks jobs) (turn_of turn t ∷ h)) (sym took.up.state)
      (laws.receiving (blocks jobs) h r (turn_of turn t) took.up.what p.receives may_be took.up.arrived_is took.up.may
      (outstanding_is laws.one laws.transmits turn.up (say_in s.core.place) s.rest (blocks jobs) (known h) took.sent took.up.what took.written took.up.carried p.sends.counted.rest))

  long_on : length longer ≡ length (turn_of turn t ∷ h)
  long_on = omega (arith, length-append p.before (place ∷ []), p.long)

  said_noted : IsTraceOf (sender_events (turn_of turn t ∷ h)) s'.trace
  said_noted =
      ap (λ x. x.trace) is_down.sender
      ∙ turn_noted laws.notes h s (turn_of turn t) (sym took.said) p.said
      (λ more. ap (λ x. counts_block (line_for x t.heard turn.pause)) p.sends.core ∙ sender_core_counts plan (turn_of turn t) h (begins jobs l) (conversations_are_spoken plan (turn_of turn t ∷ h) spoken.conversation))

  heard_noted : IsTraceOf (receiver_events (turn_of turn t ∷ h)) r'.trace
  heard_noted =
      let middle : IsTraceOf (receiver_events h ++ event.Heard t.arrived ∷ received_events (brings_block (turn_of turn t)) t.refused) took.middle.trace =
      ap (λ x. x.trace) took.up.state
      ∙ hearing_noted laws.notes (receiver_events h) r took.up.what (turn_of turn t) took.up.arrived_is (accepted_is plan h r (turn_of turn t) took.up.what p.receives.core may_be took.up.arrived_is took.up.may) p.heard in
      ap (λ x. x.trace) is_down.receiver ∙ ap (λ x. trace_after_reply x took.middle.trace) (sym took.up.reply_is) ∙ answer_noted laws.notes (receiver_events h) (turn_of turn t) took.middle.trace middle

  pub turn_more : StandsRun jobs turns (turn_of turn t ∷ h) s' r'
  turn_more = record {
    before = longer;
    told = tells;
    spoken = spoken;
    long = long_on;
    fits = ((turn, here, record { up = (took.sent, sent_is jobs turns h s r took.sent l p took.written, took.up.carried.fits); down = is_down.down.fits }), p.fits);
    sends = subst (StandsSending jobs (turn_of turn t ∷ h)) (sym is_down.sender) (laws.sending jobs h s (turn_of turn t) l p.sends (conversations_are_spoken plan (turn_of turn t ∷ h) spoken.conversation));
    receives = subst (StandsReceiving (blocks jobs) (turn_of turn t ∷ h)) (sym is_down.receiver) (record { core = received.core; jobs = received.jobs; over = received.over });
    silent = ap (λ x. x.due) is_down.receiver;
    said = said_noted;
    heard = heard_noted;
  }
