-- One station speaks alone: one turn of its direction.
use Rattle.std.proofs.Common.{◌≡◌, ◌≢◌, inl, inr, ℕ, ◌<◌, Bool, true, false, not, ◌&&◌, List, ◌∷◌, length, drop, slice_get, Some, None, if◌then◌else◌, refl, ap, sym, ◌∙◌}
use Rattle.std.proofs.lemmas.Bool.{true≢false, cases_Bool}
use Rattle.bsc_codes.specs.declared.block.Block.{Block}
use Rattle.bsc_frame.specs.declared.frame.Frame.TheVariants as frame
use Rattle.bsc_frame.specs.declared.heard.Heard.{Heard}
use Rattle.bsc_frame.specs.declared.heard.Heard.TheVariants as heard
use Rattle.bsc_frame.specs.Laws.{OneHearing, EveryHearing, WrittenIsTransmission}
use Rattle.bsc_link.specs.declared.receiver_place.ReceiverPlace.{ReceiverPlace}
use Rattle.bsc_link.specs.declared.say.Say.{Say}
use Rattle.bsc_link.specs.declared.sound.Sound.{Sound}
use Rattle.bsc_link.specs.declared.wish.Wish.{Wish}
use Rattle.bsc_link.specs.Contender.{ContenderState, takes_enq, after_other_end}
use Rattle.bsc_link.specs.Receiver.{ReceiverState, receiver_hears, receiver_news}
use Rattle.bsc_link.specs.Sender.{is_enough}
use Rattle.rje_jobs.specs.declared.job.Job.{Job}
use Rattle.rje_jobs.specs.Blocks.{blocks}
use Rattle.rje_station.specs.Hearing.{sound_heard}
use Rattle.rje_station.specs.JoinedJobs.{begun_in}
use Rattle.rje_station.specs.Laws.{CountsBlocks, TraceGoesOn}
use Rattle.rje_station.specs.Receiving.{Receiving, MayRefuse, after_receiving, after_abandon}
use Rattle.rje_station.specs.Sending.{after_speaking, after_hearing, IsWrittenOf}
use Rattle.rje_station.specs.Station.{Contending, due_at, after_own_speaking, after_answer, after_other, after_passing, after_own_reply, lets_in, gives_way, contender_said, contender_answered, contender_hears}
use Rattle.bsc_history.specs.declared.sound_turn.SoundTurn.{SoundTurn}
use Rattle.line_world.specs.declared.spoken.Spoken.{Spoken}
use Rattle.bsc_history.specs.declared.spoken_turn.SpokenTurn.{SpokenTurn}
use Rattle.line_world.specs.declared.turn.Turn.{Turn}
use Rattle.bsc_history.specs.History.{Plan, History, is_over}
use Rattle.bsc_history.specs.Known.{known}
use Rattle.bsc_history.specs.Conversation.{Follows, IsAt, MayBeSpoken, is_block}
use Rattle.bsc_history.specs.Fate.{sound_of, sound_of_reply, after_fate, MayBeHeardAs}
use Rattle.line_world.specs.Plan.{plan_of}
use Rattle.bsc_history.specs.ReplyRule.{replying}
use Rattle.line_world.specs.Run.{TellsTurn}
use Rattle.bsc_history.specs.SayingRule.{saying}
use Rattle.line_world.specs.Turns.{StandsReceiving, ReceivingTurns, after_turn}
use Rattle.line_world.proofs.ForPairs.{Told, ToldDown, after_end, after_more, cases_end, no_reply_told, outstanding_is, refused_block, replies_by, reply_told_as, rested, said_told, sent_is_due, turn_ends, turn_hears, turn_of, unanswered}
use Rattle.bsc_history.proofs.ForRuns.{counted-brought, is_block-sound}
use Rattle.pair_world.specs.Contending.{own_turn, other_turn, other_heard}
use Rattle.bsc_history.specs.Pair.{without_enq, as_counted}
use Rattle.pair_world.specs.Inside.PairDriving.{GoesAcross, SpeaksAlone, after_end_of}
use Rattle.pair_world.specs.PairDrive.{ReceivesAfter}
use Rattle.line_world.specs.Run.{FitsTurn}
use Rattle.rje_station.proofs.Due.{spoken_of_due, answered_of_due, due_kept}
use Rattle.rje_station.proofs.PassedOver.{passed_enq, passed_unrefused}
use Rattle.pair_world.proofs.PairCalm.{other_live}
use Rattle.pair_world.proofs.Sends.{SendsBy}

-- the laws of the crates below
pub record Laws : Type 0 where
  pub one : OneHearing
  pub every : EveryHearing
  pub transmits : WrittenIsTransmission
  pub counts : CountsBlocks
  pub receiving : ReceivingTurns
  pub notes : TraceGoesOn

-- ---- What is passed over.

-- what comes to the receiver
abbrev pub heard_of : Bool → Heard → Heard
heard_of let_in what = if let_in then what else heard.Quiet

pub quiet_place : (s : ReceiverState) (wish : Wish) (place : ReceiverPlace) → s.place ≡ place → receiver_hears s Sound.Quiet wish ≡ s
quiet_place s wish ReceiverPlace.Idle e = rw e refl
quiet_place s wish ReceiverPlace.InTransmission e = rw e refl
quiet_place s wish ReceiverPlace.Ended e = rw e refl

quiet_news : (s : ReceiverState) (wish : Wish) (place : ReceiverPlace) → s.place ≡ place → ((receiver_news s Sound.Quiet wish).reply ≡ None) × ((receiver_news s Sound.Quiet wish).ended ≡ false)
quiet_news s wish ReceiverPlace.Idle e = rw e (refl, refl)
quiet_news s wish ReceiverPlace.InTransmission e = rw e (refl, refl)
quiet_news s wish ReceiverPlace.Ended e = rw e (refl, refl)

-- but for the trace they are the same
pub record IsLike (r r' : Receiving) : Type 0 where
  pub jobs : r.jobs ≡ r'.jobs
  pub core : r.core ≡ r'.core
  pub due : r.due ≡ r'.due
  pub over : r.over ≡ r'.over

passing_like : (r : Receiving) (refused : Bool) (wish : Wish) → r.over ≡ false → IsLike (after_passing r) (after_receiving r heard.Quiet refused wish)
passing_like r refused wish live =
    let news = quiet_news r.core wish r.core.place refl in
    record { jobs = refl; core = sym (quiet_place r.core wish r.core.place refl); due = sym news.0; over = live ∙ sym news.1 }

pub other_than_enq : (c : ContenderState) (sound : Sound) (bid_out : Bool) → takes_enq c ≡ not bid_out → lets_in c sound ≡ true → (if bid_out then without_enq sound else sound) ≡ sound
other_than_enq c sound false takes e = refl
other_than_enq c Sound.Enq true takes e = absurd (true≢false (sym e ∙ takes))
other_than_enq c _ true takes e = refl

enq_passed : (c : ContenderState) (bid_out : Bool) → takes_enq c ≡ not bid_out → lets_in c Sound.Enq ≡ false → bid_out ≡ true
enq_passed c true takes e = refl
enq_passed c false takes e = absurd (true≢false (sym takes ∙ e))

-- ---- The listener.

module _ (laws : Laws) (jobs : List Job) (own : History) (g : Bool) (bid_out : Bool) (s l middle : Contending) (turn : Turn) (t : Spoken) (sent : List ℕ)
    (stands : StandsReceiving (blocks jobs) own l.receiver) (may_own : MayBeSpoken (plan_of (blocks jobs)) own) (goes : is_over own ≡ false) (takes : takes_enq l.contender ≡ not bid_out)
    (said_is : t.said ≡ due_at s) (due_is : due_at s ≡ saying (plan_of (blocks jobs)) g own)
    (written : IsWrittenOf (due_at s) s.sender.rest sent) (across : GoesAcross turn (sound_of (due_at s)) sent l middle t.arrived t.refused t.reply) where
  abbrev plan : Plan
  plan = plan_of (blocks jobs)

  abbrev pub u : SpokenTurn
  u = turn_of turn t

  -- the turn as it counts
  abbrev pub v : SpokenTurn
  v = as_counted bid_out u

  abbrev let_in : Bool
  let_in = lets_in l.contender (sound_heard across.what)

  abbrev pub what : Heard
  what = heard_of let_in across.what

  pub said : t.said ≡ saying plan g own
  said = said_is ∙ due_is

  pub arrived_is : v.arrived ≡ sound_heard what
  arrived_is = elim (cases_Bool let_in) [
    | inl yea ↦ rw yea (ap (λ x. if bid_out then without_enq x else x) across.arrived_is ∙ other_than_enq l.contender (sound_heard across.what) bid_out takes yea)
    | inr out ↦
        let enq : sound_heard across.what ≡ Sound.Enq = passed_enq l.contender (sound_heard across.what) out in
        let is_out : bid_out ≡ true = enq_passed l.contender bid_out takes (ap (lets_in l.contender) (sym enq) ∙ out) in
        rw (out, is_out, across.arrived_is, enq) refl
  ]

  pub may_refuse : MayRefuse what (begun_in l.receiver.jobs) t.refused
  may_refuse = elim (cases_Bool let_in) [
    | inl yea ↦ rw yea across.may
    | inr out ↦ rw out (passed_unrefused across.what (begun_in l.receiver.jobs) t.refused (passed_enq l.contender (sound_heard across.what) out) across.may)
  ]

  pub like : IsLike middle.receiver (after_receiving l.receiver what t.refused turn.wish)
  like = elim (cases_Bool let_in) [
    | inl yea ↦
        let is : middle.receiver ≡ after_receiving l.receiver across.what t.refused turn.wish = ap (λ x. x.receiver) across.state ∙ rw yea refl in
        rw (yea, is) (record { jobs = refl; core = refl; due = refl; over = refl })
    | inr out ↦
        let is : middle.receiver ≡ after_passing l.receiver = ap (λ x. x.receiver) across.state ∙ rw out refl in
        rw (out, is) (passing_like l.receiver t.refused turn.wish (stands.over goes))
  ]

  pub replied : t.reply ≡ replying own v.arrived t.refused turn.wish
  replied =
      across.reply_is ∙ like.due ∙ replies_by plan own l.receiver what v.arrived t.refused turn.wish stands.core may_refuse arrived_is may_own goes

  abbrev pub up_told : Told turn.up (sound_of (due_at s)) t.arrived
  up_told = said_told laws.one laws.transmits turn.up (due_at s) s.sender.rest sent across.what t.arrived written across.carried across.arrived_is

  pub up_after : after_fate up_told.told (sound_of t.said) ≡ Some t.arrived
  up_after = ap (λ x. after_fate up_told.told (sound_of x)) said_is ∙ up_told.after

  pub brought : MayBeHeardAs (sound_of t.said) t.arrived
  brought = (up_told.told, up_after)

  pub follows_arrived : MayBeHeardAs (sound_of t.said) v.arrived
  follows_arrived = counted-brought bid_out (sound_of t.said) t.arrived brought

  pub refused_is : t.refused ≡ (t.refused && is_block t.arrived)
  refused_is = refused_block across.what _ t.refused across.may ∙ ap (λ x. t.refused && is_block x) (sym across.arrived_is)

  refusal : t.refused ≡ true → v.arrived ≡ Sound.Block
  refusal e = is_block-sound t.refused v.arrived (ap (λ x. t.refused && is_block x) arrived_is ∙ sym (refused_block what _ t.refused may_refuse) ∙ e)

  pub follows : MayBeHeardAs (sound_of_reply t.reply) t.heard → Follows plan g own v
  follows down = record { goes_on = goes; said = said; arrived = counted-brought bid_out (sound_of t.said) t.arrived brought; refusal = refusal; replied = replied; heard = down }

  -- a block that is heard is the next one
  pub outstanding : (rest : s.sender.rest ≡ drop (known own) (blocks jobs)) → (b : Block) → what ≡ heard.Frame (frame.Block b) → slice_get (blocks jobs) (known own) ≡ Some b
  outstanding rest b is = elim (cases_Bool let_in) [
    | inl yea ↦ outstanding_is laws.one laws.transmits turn.up (due_at s) s.sender.rest (blocks jobs) (known own) sent across.what written across.carried rest b (sym (rw yea refl) ∙ is)
    | inr out ↦ let none : heard.Quiet ≡ heard.Frame (frame.Block b) = sym (rw out refl) ∙ is in absurd cc
  ]

-- ---- The speaker.

pub end_more : (say : Say) (s : Contending) → say ≢ Say.End → after_end_of say s ≡ s
end_more Say.End s n = absurd (n refl)
end_more _ s n = refl

pub own_more : (say : Say) (heard : Sound) (c : ContenderState) → say ≢ Say.End → own_turn say heard c ≡ contender_answered say heard (contender_said say c)
own_more Say.End heard c n = absurd (n refl)
own_more _ heard c n = refl

-- what a turn makes of the station that speaks in it
pub record HasSpoken (s s' : Contending) (turn : Turn) (t : Spoken) : Type 0 where
  pub sender : s'.sender ≡ after_turn s.sender (turn_of turn t)
  pub receiver : s'.receiver ≡ s.receiver
  pub contender : s'.contender ≡ own_turn t.said t.heard s.contender
  pub failed : s'.failed ≡ s.failed

module _ (s s' : Contending) (turn : Turn) (t : Spoken) (said_is : t.said ≡ due_at s) (something : due_at s ≢ Say.Nothing) where
  pub spoken_last : t.said ≡ Say.End → s' ≡ after_own_speaking s → HasSpoken s s' turn t
  spoken_last end is =
      let spoke : s' ≡ record s { sender = after_speaking s.sender; contender = contender_said (due_at s) s.contender } = is ∙ spoken_of_due s (due_at s) refl something in
      record {
        sender = ap (λ x. x.sender) spoke ∙ sym (turn_ends s.sender (turn_of turn t) end);
        receiver = ap (λ x. x.receiver) spoke;
        contender = ap (λ x. x.contender) spoke ∙ rw (sym said_is ∙ end, end) refl;
        failed = ap (λ x. x.failed) spoke;
      }

  pub spoken_on : t.said ≢ Say.End → s' ≡ after_answer (after_own_speaking s) t.heard turn.pause → HasSpoken s s' turn t
  spoken_on more is =
      let kept : due_at (after_own_speaking s) ≡ due_at s = due_kept s (due_at s) refl something (λ e. more (said_is ∙ e)) in
      let spoke = spoken_of_due s (due_at s) refl something in
      let heard : s' ≡ record (after_own_speaking s) { sender = after_hearing (after_own_speaking s).sender t.heard turn.pause; contender = contender_answered (due_at s) t.heard (after_own_speaking s).contender } =
      is ∙ answered_of_due (after_own_speaking s) (due_at s) t.heard turn.pause kept something in
      record {
        sender = ap (λ x. x.sender) heard ∙ ap (λ x. after_hearing x.sender t.heard turn.pause) spoke ∙ sym (turn_hears s.sender (turn_of turn t) t.said refl more);
        receiver = ap (λ x. x.receiver) heard ∙ ap (λ x. x.receiver) spoke;
        contender = ap (λ x. x.contender) heard ∙ ap (λ x. contender_answered (due_at s) t.heard x.contender) spoke ∙ ap (λ y. contender_answered y t.heard (contender_said y s.contender)) (sym said_is) ∙ sym (own_more t.said t.heard s.contender more);
        failed = ap (λ x. x.failed) heard ∙ ap (λ x. x.failed) spoke;
      }

-- ---- The turn.

-- once the other was heard, the listener only replies, if at all
pub listener_rests : (turn : Turn) (s s' l l' : Contending) (t : Spoken) → (t.said ≡ Say.End → t.reply ≡ None) → (took : SpeaksAlone turn s s' l l' t) → took.after ≡ after_own_reply took.middle
listener_rests turn s s' l l' t none took = elim (cases_end t.said) [
  | inl end ↦ (after_end _ _ (due_at s) (sym took.said ∙ end) took.back).1 ∙ ap (λ r. record took.middle { receiver = r }) (sym (rested took.middle.receiver (sym took.across.reply_is ∙ none end)))
  | inr more ↦ (after_more _ _ (due_at s) (λ e. more (took.said ∙ e)) took.back).listener
]

pub kept_jobs : (b : Bool) (r : Receiving) → (if b then r else after_abandon r).jobs ≡ r.jobs
kept_jobs true r = refl
kept_jobs false r = refl

end_sender : (say : Say) (x : Contending) → (after_end_of say x).sender ≡ x.sender
end_sender Say.End x = refl
end_sender _ x = refl

end_failed : (say : Say) (x : Contending) → (after_end_of say x).failed ≡ x.failed
end_failed Say.End x = refl
end_failed _ x = refl

pub end_jobs : (say : Say) (x : Contending) → (after_end_of say x).receiver.jobs ≡ x.receiver.jobs
end_jobs Say.End x = kept_jobs x.receiver.over x.receiver
end_jobs _ x = refl

end_contender : (say : Say) (x : Contending) (arrived : Sound) (c : ContenderState) → x.contender ≡ other_heard arrived c → (after_end_of say x).contender ≡ other_turn say arrived c
end_contender Say.End x arrived c e = ap after_other_end e
end_contender _ x arrived c e = e

-- what a turn makes of both
pub record Turned (jobs : List Job) (own : History) (g bid_out : Bool) (s s' l l' : Contending) (turn : Turn) (t : Spoken) : Type 0 where
  pub place : SoundTurn
  pub tells : TellsTurn turn place
  pub is_at : IsAt place (turn_of turn t)
  pub brought : MayBeHeardAs (sound_of t.said) t.arrived
  pub follows : Follows (plan_of (blocks jobs)) g own (as_counted bid_out (turn_of turn t))
  pub fits : FitsTurn (blocks jobs) g own (turn_of turn t) turn
  pub spoke : HasSpoken s s' turn t
  pub l_sender : l'.sender ≡ (if lets_in l.contender t.arrived then gives_way l.contender.rank t.arrived l.sender else l.sender)
  pub l_contender : l'.contender ≡ other_turn t.said t.arrived l.contender
  pub l_failed : l'.failed ≡ l.failed
  pub l_receives : ReceivesAfter (blocks jobs) (as_counted bid_out (turn_of turn t) ∷ own) l'.receiver

module _ (laws : Laws) (jobs : List Job) (own : History) (gb : Bool) (m n : ℕ) (bid_out : Bool) (s s' l l' : Contending) (turn : Turn) (t : Spoken)
    (some : 0 < length jobs) (sends : SendsBy jobs own gb m n s.sender) (stands : StandsReceiving (blocks jobs) own l.receiver) (may_own : MayBeSpoken (plan_of (blocks jobs)) own) (goes : is_over own ≡ false)
    (takes : takes_enq l.contender ≡ not bid_out) (due_is : due_at s ≡ saying (plan_of (blocks jobs)) (is_enough m n) own) (something : due_at s ≢ Say.Nothing)
    (took : SpeaksAlone turn s s' l l' t) where
  abbrev g : Bool
  g = is_enough m n

  abbrev tt_ : SpokenTurn
  tt_ = turn_of turn t

  abbrev replied_is : t.reply ≡ replying own (as_counted bid_out tt_).arrived t.refused turn.wish
  replied_is = replied laws jobs own g bid_out s l took.middle turn t took.sent stands may_own goes takes took.said due_is took.written took.across

  abbrev brought_is : MayBeHeardAs (sound_of t.said) t.arrived
  brought_is = brought laws jobs own g bid_out s l took.middle turn t took.sent stands may_own goes takes took.said due_is took.written took.across

  abbrev told_up : Told turn.up (sound_of (due_at s)) t.arrived
  told_up = up_told laws jobs own g bid_out s l took.middle turn t took.sent stands may_own goes takes took.said due_is took.written took.across

  none_after_end : t.said ≡ Say.End → t.reply ≡ None
  none_after_end end = unanswered own t.said (as_counted bid_out tt_).arrived t.refused t.reply turn.wish end
      (follows_arrived laws jobs own g bid_out s l took.middle turn t took.sent stands may_own goes takes took.said due_is took.written took.across) replied_is

  record IsBack : Type 0 where
    down : ToldDown turn.down t.reply t.heard
    spoke : HasSpoken s s' turn t

  abbrev is_back : IsBack
  is_back = elim (cases_end t.said) [
    | inl end ↦
        let back = after_end _ _ (due_at s) (sym took.said ∙ end) took.back in
        record { down = no_reply_told laws.every turn.down t.reply t.heard (none_after_end end) back.2; spoke = spoken_last s s' turn t took.said something end back.0 }
    | inr more ↦
        let back = after_more _ _ (due_at s) (λ e. more (took.said ∙ e)) took.back in
        record { down = reply_told_as laws.one laws.every laws.transmits turn.down t.reply took.middle.receiver.due t.heard took.across.reply_is back.carried; spoke = spoken_on s s' turn t took.said something more back.speaker }
  ]

  -- ---- The listener.

  is_resting : took.after ≡ after_own_reply took.middle
  is_resting = listener_rests turn s s' l l' t none_after_end took

  is_ended : l' ≡ after_end_of t.said took.after
  is_ended = took.ended ∙ ap (λ x. after_end_of x took.after) (sym took.said)

  heard_sender : (b : Bool) → lets_in l.contender (sound_heard took.across.what) ≡ b → (after_other l took.across.what t.refused turn.wish).sender ≡ (if b then gives_way l.contender.rank (sound_heard took.across.what) l.sender else l.sender)
  heard_sender true e = rw (e, after_other) refl
  heard_sender false e = rw (e, after_other) refl

  heard_contender : (b : Bool) → lets_in l.contender (sound_heard took.across.what) ≡ b → (after_other l took.across.what t.refused turn.wish).contender ≡ (if b then contender_hears (sound_heard took.across.what) l.contender else l.contender)
  heard_contender true e = rw (e, after_other) refl
  heard_contender false e = rw (e, after_other) refl

  follows_is : Follows (plan_of (blocks jobs)) g own (as_counted bid_out tt_)
  follows_is = follows laws jobs own g bid_out s l took.middle turn t took.sent stands may_own goes takes took.said due_is took.written took.across (is_back.down.told.told, is_back.down.told.after)

  received : StandsReceiving (blocks jobs) (as_counted bid_out tt_ ∷ own) (after_receiving l.receiver (what laws jobs own g bid_out s l took.middle turn t took.sent stands may_own goes takes took.said due_is took.written took.across) t.refused turn.wish)
  received = laws.receiving (blocks jobs) own l.receiver (as_counted bid_out tt_) (what laws jobs own g bid_out s l took.middle turn t took.sent stands may_own goes takes took.said due_is took.written took.across) stands ((g, follows_is), may_own) (arrived_is laws jobs own g bid_out s l took.middle turn t took.sent stands may_own goes takes took.said due_is took.written took.across) (may_refuse laws jobs own g bid_out s l took.middle turn t took.sent stands may_own goes takes took.said due_is took.written took.across) (outstanding laws jobs own g bid_out s l took.middle turn t took.sent stands may_own goes takes took.said due_is took.written took.across sends.counted.rest)

  same : IsLike took.middle.receiver (after_receiving l.receiver (what laws jobs own g bid_out s l took.middle turn t took.sent stands may_own goes takes took.said due_is took.written took.across) t.refused turn.wish)
  same = like laws jobs own g bid_out s l took.middle turn t took.sent stands may_own goes takes took.said due_is took.written took.across

  listens : ReceivesAfter (blocks jobs) (as_counted bid_out tt_ ∷ own) l'.receiver
  listens = record {
    jobs = ap (λ x. x.receiver.jobs) is_ended ∙ end_jobs t.said took.after ∙ ap (λ x. x.receiver.jobs) is_resting ∙ same.jobs ∙ received.jobs;
    live = λ going. elim (cases_end t.said) [
      | inl end ↦ absurd (true≢false (rw end at going))
      | inr more ↦
          let is : l' ≡ took.after = is_ended ∙ end_more t.said took.after more in
          record {
            core = ap (λ x. x.receiver.core) is ∙ ap (λ x. x.receiver.core) is_resting ∙ same.core ∙ received.core;
            jobs = ap (λ x. x.receiver.jobs) is ∙ ap (λ x. x.receiver.jobs) is_resting ∙ same.jobs ∙ received.jobs;
            over = λ e. ap (λ x. x.receiver.over) is ∙ ap (λ x. x.receiver.over) is_resting ∙ same.over ∙ received.over e;
          }
    ];
  }

  pub turned : Turned jobs own g bid_out s s' l l' turn t
  turned =
      let arrived : t.arrived ≡ sound_heard took.across.what = took.across.arrived_is in
      record {
        place = record { up = told_up.told; down = is_back.down.told.told; refused = t.refused; wish = turn.wish; pause = turn.pause };
        tells = record { up = told_up.tells; down = is_back.down.told.tells; wish = refl; pause = refl };
        is_at = record { up = up_after laws jobs own g bid_out s l took.middle turn t took.sent stands may_own goes takes took.said due_is took.written took.across; refused = refused_is laws jobs own g bid_out s l took.middle turn t took.sent stands may_own goes takes took.said due_is took.written took.across; down = is_back.down.told.after; wish = refl; pause = refl };
        brought = brought_is;
        follows = follows_is;
        fits = record {
          up = (took.sent, sent_is_due (blocks jobs) g own (due_at s) s.sender.rest took.sent due_is sends.counted.rest took.written, took.across.carried.fits);
          down = is_back.down.fits;
        };
        spoke = is_back.spoke;
        l_sender = ap (λ x. x.sender) is_ended ∙ end_sender t.said took.after ∙ ap (λ x. x.sender) is_resting ∙ ap (λ x. x.sender) took.across.state ∙ heard_sender _ refl ∙ ap (λ x. if lets_in l.contender x then gives_way l.contender.rank x l.sender else l.sender) (sym arrived);
        l_contender = ap (λ x. x.contender) is_ended ∙ end_contender t.said took.after t.arrived l.contender (ap (λ x. x.contender) is_resting ∙ ap (λ x. x.contender) took.across.state ∙ heard_contender _ refl ∙ ap (λ x. other_heard x l.contender) (sym arrived));
        l_failed = ap (λ x. x.failed) is_ended ∙ end_failed t.said took.after ∙ ap (λ x. x.failed) is_resting ∙ ap (λ x. x.failed) took.across.state ∙ other_live l took.across.what t.refused turn.wish;
        l_receives = listens;
      }
