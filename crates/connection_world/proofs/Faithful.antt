-- The turns that two stations take over a connection are faithful ones.
use Rattle.std.proofs.Common.{◌≡◌, refl, sym, ap, ◌∙◌, subst, Bool, true, false, List, [], ◌∷◌, inl, inr}
use Rattle.std.proofs.lemmas.Bool.{true≢false}
use Rattle.bsc_frame.specs.declared.frame.Frame.{Frame}
use Rattle.bsc_link.specs.declared.sound.Sound.{Sound}
use Rattle.bsc_link.specs.Receiver.{receiver_news}
use Rattle.bsc_link.specs.Sender.{say_in}
use Rattle.bsc_history.specs.declared.spoken_turn.SpokenTurn.{SpokenTurn}
use Rattle.bsc_history.specs.Fate.{MayBeHeardAs}
use Rattle.bsc_history.specs.History.{History}
use Rattle.rje_answers.specs.declared.link_event.LinkEvent.{LinkEvent}
use Rattle.rje_answers.specs.Awaiting.{given_at, has_answer, kept_after, said_in}
use Rattle.rje_answers.specs.Law.{AllHappen, Answer, GivesOwnAnswers, kept_of, things}
use Rattle.rje_jobs.specs.declared.job.Job.{Job}
use Rattle.rje_station.specs.Hearing.{sound_heard}
use Rattle.rje_station.specs.JoinedJobs.{begun_in}
use Rattle.rje_station.specs.Receiving.{Receiving, MayRefuse, after_receiving, first_receiving, sound_taken}
use Rattle.rje_station.specs.Sending.{Sending, first_sending, is_end}
use Rattle.line_world.specs.AnyLines.{AreFaithful, ReceiverTook, SenderTook, after_answering}
use Rattle.line_world.specs.Turns.{after_turn}
use Rattle.connection_world.specs.Connection.{AtReceiver, AtSender, Says, Comes, InVain, OneHearing, ComeDown, ComeUp, IsFrameOf, IsReplied, Listens, MayComeAs, ReceiverWent, SenderWent, told}
use Rattle.connection_world.proofs.Awaited.{AllCame, EndsWith, Settles, answer_came, answer_settles, vain_came, vain_settles}
use Rattle.connection_world.proofs.Numbers.{AllAnswered, AllSaid, up_before_answer, up_before_vain}
use Rattle.connection_world.proofs.SideBySide.{AnyFrame, FarWent, Grows, MayHear, Stand, after_event, after_saying, begin, given_none}
use Rattle.connection_world.specs.Headline.{but_for_notes}
use Rattle.connection_world.proofs.Stations.{answering_same, ends_or_asks, said_block, said_sound, turned, turned_same, wordless}

-- faithful turns that both stations took, and that leave them there, but for what they note
pub record Taken (jobs : List Job) (s : Sending) (r : Receiving) : Type 0 where
  pub turns : History
  pub near : Sending
  pub far : Receiving
  pub sent : SenderTook (first_sending jobs) turns near
  pub received : ReceiverTook first_receiving turns far
  pub faithful : AreFaithful (first_sending jobs) near first_receiving far turns sent received
  pub sending : but_for_notes near ≡ but_for_notes s
  pub receiving : wordless far ≡ wordless r

first_taken : (jobs : List Job) → Taken jobs (first_sending jobs) first_receiving
first_taken jobs = record {
  turns = [];
  near = first_sending jobs;
  far = first_receiving;
  sent = refl;
  received = refl;
  faithful = tt;
  sending = refl;
  receiving = refl;
}

-- one more turn
module _ (jobs : List Job) (s : Sending) (r : Receiving) (f : Frame) (h : OneHearing) (sound : Sound) (pause : Bool)
    (live : s.over ≡ false) (due : IsFrameOf (say_in s.core.place) s.rest f) (spoken : AnyFrame f s) (up : MayComeAs f h.what) (may : MayRefuse h.what (begun_in r.jobs) h.refused)
    (reply : h.reply ≡ (after_receiving r h.what h.refused h.wish).due) (hears : MayHear (say_in s.core.place) h.reply sound) where
  abbrev turn : SpokenTurn
  turn = record { said = say_in s.core.place; arrived = sound_heard h.what; refused = h.refused; reply = h.reply; heard = sound; wish = h.wish; pause = pause }

  one_more : Taken jobs s r → Taken jobs (turned s (say_in s.core.place) sound pause) (after_receiving r h.what h.refused h.wish)
  one_more t = record {
    turns = turn ∷ t.turns;
    near = after_turn t.near turn;
    far = after_answering t.far h.what turn;
    sent = (t.near, t.sent, record { live = ap (λ x. x.over) t.sending ∙ live; said = ap (λ x. say_in x.core.place) (sym t.sending); done = hears.done; state = refl });
    received = (
      t.far,
      t.received,
      record {
        what = h.what;
        arrived = refl;
        may = subst (λ js. MayRefuse h.what (begun_in js) h.refused) (ap (λ x. x.jobs) (sym t.receiving)) may;
        reply = reply ∙ ap (λ x. (receiver_news x.core (sound_taken h.what h.refused) h.wish).reply) (sym t.receiving);
        state = refl;
      },
    );
    faithful = (
      record {
        up = subst (λ x. MayBeHeardAs x (sound_heard h.what)) (said_sound (say_in s.core.place) s.rest f due) up.sound;
        block = λ b is.
            let first = said_block (say_in s.core.place) s.rest f b due (up.block b is) in
            (first.0, ap (λ x. x.rest) t.sending ∙ first.1);
        down = hears.down;
      },
      t.faithful,
    );
    sending = turned_same (say_in s.core.place) t.near s sound pause t.sending;
    receiving = answering_same (say_in s.core.place) (after_receiving t.far h.what h.refused h.wish) ∙ ap (λ x. wordless (after_receiving x h.what h.refused h.wish)) t.receiving;
  }

taken_grows : (jobs : List Job) → Grows AnyFrame (Taken jobs)
taken_grows jobs = record {
  same = λ s s' r r' sending receiving t. record {
    turns = t.turns;
    near = t.near;
    far = t.far;
    sent = t.sent;
    received = t.received;
    faithful = t.faithful;
    sending = t.sending ∙ sending;
    receiving = t.receiving ∙ receiving;
  };
  more = one_more jobs;
}

-- ---- The two ends.

far_went : (far : List AtReceiver) (r : Receiving) → ReceiverWent first_receiving far r → FarWent far r
far_went [] r went = went
far_went (e ∷ far) r (last, went, goes) = (last, far_went far last went, inl (goes.may, goes.reply, ap wordless goes.state))

-- what came back
all_came : (near : List AtSender) (far : List AtReceiver) → ComeDown near far → AllCame (λ a. IsReplied a far) (told near)
all_came [] far down = tt
all_came (Says f ∷ near) far down = all_came near far down
all_came (Comes a ∷ near) far down = (down.0, all_came near far down.1)
all_came (InVain rest ∷ near) far down = all_came near far down

all_said : (gives_way : Bool) (near : List AtSender) → AllHappen gives_way (told near) → AllSaid near
all_said gives_way [] all = tt
all_said gives_way (Says f ∷ near) all = all_said gives_way near all.1
all_said gives_way (Comes a ∷ near) all = (all.0.1, all_said gives_way near all.1)
all_said gives_way (InVain rest ∷ near) all = all_said gives_way near all.1

-- EOT wasn't said as long as the station isn't over, or awaits an answer
record NotEnded (gives_way : Bool) (past : List AtSender) (s : Sending) : Type 0 where
  live : s.over ≡ false → AllAnswered past
  awaiting : has_answer (kept_of gives_way (told past)).said ≡ true → AllAnswered past

not_ended_event : (gives_way : Bool) (past : List AtSender) (e : LinkEvent Answer) (s s' : Sending) → NotEnded gives_way past s
    → Listens (given_at e (kept_of gives_way (told past))) s s' → Settles e (kept_of gives_way (told past)) EndsWith
    → (s'.over ≡ false → AllAnswered past) × (has_answer (kept_after e (kept_of gives_way (told past))).said ≡ true → AllAnswered past)
not_ended_event gives_way past e s s' p listens (inl (none, same)) = (
  λ live. p.live (sym (ap (λ x. x.over) (given_none _ s s' listens none)) ∙ live),
  λ awaits. p.awaiting (sym same ∙ awaits),
)
not_ended_event gives_way past e s s' p listens (inr (awaited, over, given)) = (λ live. p.awaiting awaited, λ awaits. p.awaiting awaited)

not_ended : (gives_way : Bool) (jobs : List Job) (past : List AtSender) (s : Sending) → SenderWent gives_way (first_sending jobs) past s → NotEnded gives_way past s
not_ended gives_way jobs [] s went = record { live = λ live. tt; awaiting = λ awaits. tt }
not_ended gives_way jobs (Says f ∷ past) s (near, went, speaks) = elim (ends_or_asks (say_in near.core.place) near.rest f speaks.due) [
  | inl ends ↦ record {
    live = λ live. absurd (true≢false (sym (ap is_end (ends.0)) ∙ sym (ap (λ x. x.over) speaks.state) ∙ live));
    awaiting = λ awaits. absurd (true≢false (sym awaits ∙ ap (λ x. has_answer (said_in x)) ends.1));
  }
  | inr asks ↦
      let before = (not_ended gives_way jobs past near went).live speaks.live in
      record { live = λ live. (asks.0, before); awaiting = λ awaits. (asks.0, before) }
]
not_ended gives_way jobs (Comes a ∷ past) s (near, went, listens) =
    let both = not_ended_event gives_way past (LinkEvent.Answer a) near s (not_ended gives_way jobs past near went) listens (answer_settles a _) in
    record { live = both.0; awaiting = both.1 }
not_ended gives_way jobs (InVain rest ∷ past) s (near, went, listens) =
    let both = not_ended_event gives_way past (LinkEvent.Vain rest) near s (not_ended gives_way jobs past near went) listens (vain_settles rest _) in
    record { live = both.0; awaiting = both.1 }

module _ (own : GivesOwnAnswers) (jobs : List Job) (gives_way : Bool) where
  abbrev pub StandsAfter : List AtSender → Sending → List AtReceiver → Receiving → Type 0
  StandsAfter near s far r = Stand (Taken jobs) (has_answer (kept_of gives_way (told near)).said) (things (told near)) s far r

  stand_far : (near : List AtSender) (s : Sending) (far : List AtReceiver) (r : Receiving) → SenderWent gives_way (first_sending jobs) near s
      → FarWent far r → ComeUp near far → ComeDown near far → AllHappen gives_way (told near) → StandsAfter near s far r
  stand_far [] s far r went received up down all = record {
    settled = λ _. subst (λ x. Taken jobs x r) (sym went) (begin AnyFrame (Taken jobs) (taken_grows jobs) (first_sending jobs) far r (first_taken jobs) received up);
    awaiting = λ awaits. absurd (true≢false (sym awaits));
  }
  stand_far (Says f ∷ past) s far r (near, went, speaks) received up down all =
      after_saying AnyFrame (Taken jobs) (taken_grows jobs) f past near s far r speaks tt (all_said gives_way past all.1) ((not_ended gives_way jobs past near went).live speaks.live)
      received up down (λ far r received up down. (stand_far past near far r went received up down all.1).settled all.0)
  stand_far (Comes a ∷ past) s far r (near, went, listens) received up down all =
      after_event AnyFrame (Taken jobs) (taken_grows jobs) (LinkEvent.Answer a) (kept_of gives_way (told past)) (things (told past)) near s far r listens
      (stand_far past near far r went received (up_before_answer a past far up) down.1 all.1)
      (λ b is. own gives_way (told past) (LinkEvent.Answer a) b all is) (λ b is. answer_came (λ x. IsReplied x far) gives_way (told past) a b is down.0)
      (answer_settles a (kept_of gives_way (told past)))
  stand_far (InVain rest ∷ past) s far r (near, went, listens) received up down all =
      after_event AnyFrame (Taken jobs) (taken_grows jobs) (LinkEvent.Vain rest) (kept_of gives_way (told past)) (things (told past)) near s far r listens
      (stand_far past near far r went received (up_before_vain rest past far up) down all.1)
      (λ b is. own gives_way (told past) (LinkEvent.Vain rest) b all is) (λ b is. vain_came (λ x. IsReplied x far) gives_way (told past) rest b is (all_came past far down))
      (vain_settles rest (kept_of gives_way (told past)))

  pub stand : (near : List AtSender) (s : Sending) (far : List AtReceiver) (r : Receiving) → SenderWent gives_way (first_sending jobs) near s
      → ReceiverWent first_receiving far r → ComeUp near far → ComeDown near far → AllHappen gives_way (told near) → StandsAfter near s far r
  stand near s far r went received up down all = stand_far near s far r went (far_went far r received) up down all
