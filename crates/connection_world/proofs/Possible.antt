-- Whatever faithful turns do, a connection may do too: each thing arrives at once, and so does the answer to it, or two hearings are in vain.
use Rattle.std.proofs.Common.{◌≡◌, ◌≢◌, refl, sym, ap, ◌∙◌, subst, ℕ, zero, suc, ◌+◌, ◌<◌, ◌≤◌, Bool, true, false, Option, Some, None, List, [], ◌∷◌, length, drop, ◌⊎◌, inl, inr, arith}
use Rattle.std.proofs.lemmas.Bool.{cases_Bool, eq-eqb, true≢false}
use Rattle.bsc_codes.specs.declared.block.Block.{Block}
use Rattle.bsc_frame.specs.declared.frame.Frame.{Frame}
use Rattle.bsc_frame.specs.declared.frame.Frame.TheVariants as frame
use Rattle.bsc_frame.specs.declared.heard.Heard.{Heard}
use Rattle.bsc_frame.specs.declared.heard.Heard.TheVariants as heard
use Rattle.bsc_link.specs.declared.receiver_place.ReceiverPlace.{ReceiverPlace}
use Rattle.bsc_link.specs.declared.reply.Reply.{Reply}
use Rattle.bsc_link.specs.declared.say.Say.{Say}
use Rattle.bsc_link.specs.declared.sound.Sound.{Sound}
use Rattle.bsc_link.specs.declared.wish.Wish.{Wish}
use Rattle.bsc_link.specs.Receiver.{receiver_news}
use Rattle.bsc_link.specs.Sender.{is_enough, say_in}
use Rattle.bsc_history.specs.declared.spoken_turn.SpokenTurn.{SpokenTurn}
use Rattle.bsc_history.specs.Agreement.{GetsAtMostOneMore, KnowsBeforeBlocks}
use Rattle.bsc_history.specs.Fate.{MayBeHeardAs, sound_of, sound_of_reply}
use Rattle.bsc_history.specs.History.{History, is_over}
use Rattle.bsc_history.specs.Known.{known}
use Rattle.bsc_history.specs.SayingRule.{saying}
use Rattle.bsc_history.proofs.ForRuns.{comes, saying-speaks}
use Rattle.bsc_history.proofs.Saying.{IsAfterGrant}
use Rattle.bsc_history.proofs.Within.{more-left}
use Rattle.rje_answers.specs.declared.link_event.LinkEvent.{LinkEvent}
use Rattle.rje_answers.specs.declared.given.Given.{Given}
use Rattle.rje_answers.specs.declared.rest.Rest.{Rest}
use Rattle.rje_answers.specs.declared.said.Said.{Said}
use Rattle.rje_answers.specs.Awaiting.{Kept, after_saying, given_at, has_answer, kept_after, said_in}
use Rattle.rje_answers.specs.Law.{AllHappen, Answer, answered, kept_of, things, vain_since}
use Rattle.rje_jobs.specs.declared.job.Job.{Job}
use Rattle.rje_jobs.specs.Blocks.{blocks}
use Rattle.rje_station.specs.Hearing.{sound_heard, sound_of_frame}
use Rattle.rje_station.specs.JoinedJobs.{begun_in}
use Rattle.rje_station.specs.Laws.{CountsBlocks}
use Rattle.rje_station.specs.Receiving.{Receiving, MayRefuse, after_receiving, after_replying, first_receiving, sound_taken, trace_after_reply}
use Rattle.rje_station.specs.Sending.{Sending, after_hearing, after_speaking, first_sending}
use Rattle.rje_station.specs.Sending.{is_end}
use Rattle.line_world.specs.AnyLines.{AreFaithful, IsFaithful, ReceiverTakes, ReceiverTook, SenderTakes, SenderTook}
use Rattle.line_world.specs.Plan.{plan_of}
use Rattle.line_world.specs.Turns.{ReceivingTurns}
use Rattle.line_world.proofs.Numbered.{plan_length}
use Rattle.connection_world.specs.Connection.{AtReceiver, AtSender, Says, Comes, InVain, Arrives, NothingArrives, OneHearing, ComeDown, ComeUp, IsFrameOf, IsReplied, IsThing, Listens, IsOverConnection, MayComeAs, SenderWent, come_by, sound_of_rest, told}
use Rattle.connection_world.specs.Headline.{MayBeConnections, but_for_notes}
use Rattle.connection_world.proofs.SideBySide.{AnyFrame, MayHear}
use Rattle.connection_world.proofs.Standing.{Going, Stood, first_stood, more_blocks, stood_grows}
use Rattle.connection_world.proofs.Stations.{ends_or_asks, idles, said_block, said_sound, turned, wordless}

-- ---- What is due is a frame.

some_left : (n : ℕ) (bs : List Block) → n < length bs → (b : Block) × (more : List Block) × (drop n bs ≡ b ∷ more)
some_left zero [] less = absurd (omega (arith, less))
some_left zero (b ∷ bs) less = (b, bs, refl)
some_left (suc n) [] less = absurd (omega (arith, less))
some_left (suc n) (b ∷ bs) less = some_left n bs (omega (arith, less))

frame_of_due : (say : Say) (rest : List Block) → say ≢ Say.Nothing → (IsAfterGrant say → (b : Block) × (more : List Block) × (rest ≡ b ∷ more)) → (f : Frame) × IsFrameOf say rest f
frame_of_due Say.Bid rest some left = (frame.Enq, refl)
frame_of_due Say.Ask rest some left = (frame.Enq, refl)
frame_of_due Say.Delay rest some left = (frame.Ttd, refl)
frame_of_due Say.End rest some left = (frame.Eot, refl)
frame_of_due Say.Nothing rest some left = absurd (some refl)
frame_of_due Say.Block rest some left = let first = left tt in (frame.Block first.0, subst (λ x. IsFrameOf Say.Block x (frame.Block first.0)) (sym first.2) refl)
frame_of_due Say.Again rest some left = let first = left tt in (frame.Block first.0, subst (λ x. IsFrameOf Say.Again x (frame.Block first.0)) (sym first.2) refl)

pub due_frame : (jobs : List Job) (s : Sending) (r : Receiving) → Stood AnyFrame jobs s r → s.over ≡ false → (f : Frame) × IsFrameOf (say_in s.core.place) s.rest f
due_frame jobs s r p live =
    let going : Going jobs p.h s = p.live live in
    let goes : is_over p.h ≡ false = (more_blocks jobs p.h going.0 going.1 going.2 s going.3 live).1 in
    let says : say_in s.core.place ≡ saying (plan_of (blocks jobs)) (is_enough going.1 going.2) p.h = going.3.core.says in
    frame_of_due (say_in s.core.place) s.rest
    (λ none. saying-speaks (plan_of (blocks jobs)) (is_enough going.1 going.2) p.h goes (sym says ∙ none))
    (λ after.
    let left = some_left (known p.h) (blocks jobs) (rw (plan_length (blocks jobs)) at (more-left (plan_of (blocks jobs)) (is_enough going.1 going.2) p.h p.spoken goes (subst IsAfterGrant says after))) in
    (left.0, left.1, p.counted.rest ∙ left.2))

-- ---- What comes of it.

block_frame : (f : Frame) → sound_of_frame f ≡ Sound.Block → (b : Block) × (f ≡ frame.Block b)
block_frame (frame.Block b) is = (b, refl)
block_frame f is = cc

block_sound : (said : Sound) → MayBeHeardAs said Sound.Block → said ≡ Sound.Block
block_sound Sound.Block may = refl
block_sound Sound.Quiet may = cc (comes Sound.Quiet Sound.Block may)
block_sound Sound.Ttd may = absurd ((comes Sound.Ttd Sound.Block may).0 refl)
block_sound said may = elim (comes said Sound.Block may) [
  | inl is ↦ cc
  | inr (inl is) ↦ cc
  | inr (inr is) ↦ cc
]

same_first : (b c : Block) (more rest : List Block) → b ∷ more ≡ c ∷ rest → b ≡ c
same_first b c more rest e = ap (λ l. elim l [ [] ↦ b | x ∷ xs ↦ x ]) e

may_come : (s : Sending) (f : Frame) (what : Heard) → IsFrameOf (say_in s.core.place) s.rest f → MayBeHeardAs (sound_of (say_in s.core.place)) (sound_heard what)
    → ((b : Block) → what ≡ heard.Frame (frame.Block b) → (more : List Block) × (s.rest ≡ b ∷ more)) → MayComeAs f what
may_come s f what due up block = record {
  sound = as_said;
  block = λ b is.
      let frame_is = block_frame f (block_sound (sound_of_frame f) (subst (MayBeHeardAs (sound_of_frame f)) (ap sound_heard is) as_said)) in
      let first = said_block (say_in s.core.place) s.rest f frame_is.0 due frame_is.1 in
      let own = block b is in
      frame_is.1 ∙ ap (λ x. frame.Block x) (same_first frame_is.0 b first.0 own.0 (sym first.1 ∙ own.1));
}
  where
    as_said : MayBeHeardAs (sound_of_frame f) (sound_heard what)
    as_said = subst (λ x. MayBeHeardAs x (sound_heard what)) (sym (said_sound (say_in s.core.place) s.rest f due)) up

-- what is heard of a reply is that, or nothing, or noise
abbrev IsHeardAs : Option Reply → Sound → Type 0
IsHeardAs reply sound = ((y : Reply) × (reply ≡ Some y) × (sound ≡ sound_of_reply (Some y))) ⊎ ((rest : Rest) × (sound ≡ sound_of_rest rest))

heard_as : (reply : Option Reply) (sound : Sound) → MayBeHeardAs (sound_of_reply reply) sound → IsHeardAs reply sound
heard_as None sound may = inr (Rest.Quiet, comes Sound.Quiet sound may)
heard_as (Some Reply.Ack0) sound may = elim (comes Sound.Ack0 sound may) [ inl is ↦ inl (Reply.Ack0, refl, is) | inr (inl is) ↦ inr (Rest.Quiet, is) | inr (inr is) ↦ inr (Rest.Noise, is) ]
heard_as (Some Reply.Ack1) sound may = elim (comes Sound.Ack1 sound may) [ inl is ↦ inl (Reply.Ack1, refl, is) | inr (inl is) ↦ inr (Rest.Quiet, is) | inr (inr is) ↦ inr (Rest.Noise, is) ]
heard_as (Some Reply.Nak) sound may = elim (comes Sound.Nak sound may) [ inl is ↦ inl (Reply.Nak, refl, is) | inr (inl is) ↦ inr (Rest.Quiet, is) | inr (inr is) ↦ inr (Rest.Noise, is) ]
heard_as (Some Reply.Wack) sound may = elim (comes Sound.Wack sound may) [ inl is ↦ inl (Reply.Wack, refl, is) | inr (inl is) ↦ inr (Rest.Quiet, is) | inr (inr is) ↦ inr (Rest.Noise, is) ]
heard_as (Some Reply.Rvi) sound may = elim (comes Sound.Rvi sound may) [ inl is ↦ inl (Reply.Rvi, refl, is) | inr (inl is) ↦ inr (Rest.Quiet, is) | inr (inr is) ↦ inr (Rest.Noise, is) ]

-- ---- What the end keeps and gives after it spoke.

module _ (said : Said) (asks : has_answer said ≡ true) (k : Kept Answer) where
  abbrev spoke : Kept Answer
  spoke = after_saying said k

  -- an answer counts at once
  at_once : (a : Answer) → k.is_late ≡ false → (given_at (LinkEvent.Answer a) spoke ≡ Given.Answer a) × (has_answer (kept_after (LinkEvent.Answer a) spoke).said ≡ false)
  at_once a on_time = (rw (asks, on_time) refl, rw (asks, on_time) refl)

  -- a late one is held, and counts with the fourth hearing that brings no more
  abbrev held : Answer → ℕ → Kept Answer
  held a n = record spoke { vain = n; held = Some a }

  held_first : (a : Answer) → k.is_late ≡ true → (given_at (LinkEvent.Answer a) spoke ≡ Given.Nothing) × (kept_after (LinkEvent.Answer a) spoke ≡ held a 0)
  held_first a late = (rw (asks, late) refl, rw (asks, late) refl)

  abbrev HeldOn : Answer → ℕ → Type 0
  HeldOn a n = (given_at (LinkEvent.Vain Rest.Quiet) (held a n) ≡ Given.Nothing) × (kept_after (LinkEvent.Vain Rest.Quiet) (held a n) ≡ held a (n + 1))

  held_on : (a : Answer) → HeldOn a 0 × HeldOn a 1 × HeldOn a 2
  held_on a = ((rw asks refl, rw asks refl), (rw asks refl, rw asks refl), (rw asks refl, rw asks refl))

  held_last : (a : Answer) → (given_at (LinkEvent.Vain Rest.Quiet) (held a 3) ≡ Given.Answer a) × (has_answer (kept_after (LinkEvent.Vain Rest.Quiet) (held a 3)).said ≡ false)
  held_last a = (rw asks refl, rw asks refl)

  -- two hearings are in vain
  abbrev waited : Rest → Kept Answer
  waited rest = record spoke { vain = 1; rest = rest }

  vain_first : (rest : Rest) → (given_at (LinkEvent.Vain rest) spoke ≡ Given.Nothing) × (kept_after (LinkEvent.Vain rest) spoke ≡ waited rest)
  vain_first Rest.Quiet = (rw asks refl, rw asks refl)
  vain_first Rest.Noise = (rw asks refl, rw asks refl)
  vain_first Rest.Bad = (rw asks refl, rw asks refl)

  vain_last : (rest : Rest) → (given_at (LinkEvent.Vain rest) (waited rest) ≡ Given.InVain rest) × (has_answer (kept_after (LinkEvent.Vain rest) (waited rest)).said ≡ false)
  vain_last Rest.Quiet = (rw asks refl, rw asks refl)
  vain_last Rest.Noise = (rw asks refl, rw asks refl)
  vain_last Rest.Bad = (rw asks refl, rw asks refl)

-- ---- One more turn at the sending end.

-- so it may go on after these events: it said this, of this number, and awaits nothing any more
record GoesOn (jobs : List Job) (gives_way : Bool) (near : List AtSender) (f : Frame) (reply : Option Reply) (s : Sending) : Type 0 where
  all : List AtSender
  went : SenderWent gives_way (first_sending jobs) all s
  idle : has_answer (kept_of gives_way (told all)).said ≡ false
  happened : AllHappen gives_way (told all)
  in_order : answered gives_way (told all) ≤ things (told all)
  more : has_answer (said_in f) ≡ true → things (told near) + 1 ≤ things (told all)
  thing : IsThing (things (told near)) f all
  up : (far : List AtReceiver) → ComeUp near far → ComeUp all far
  down : (far : List AtReceiver) → ComeDown near far → ((y : Reply) → reply ≡ Some y → IsReplied (record { thing = things (told near); reply = y }) far) → ComeDown all far

up_more : (e : AtSender) (near : List AtSender) (far : List AtReceiver) → ComeUp near far → ComeUp (e ∷ near) far
up_more e near [] up = tt
up_more (Says f) near (Arrives k h ∷ far) up = ((up.0.0, (up.0.1.0, inr up.0.1.1, up.0.1.2)), up_more (Says f) near far up.1)
up_more (Comes a) near (Arrives k h ∷ far) up = (up.0, up_more (Comes a) near far up.1)
up_more (InVain rest) near (Arrives k h ∷ far) up = (up.0, up_more (InVain rest) near far up.1)
up_more e near (NothingArrives h ∷ far) up = (up.0, up_more e near far up.1)

down_more : (k : ℕ) (h : OneHearing) (near : List AtSender) (far : List AtReceiver) → ComeDown near far → ComeDown near (Arrives k h ∷ far)
down_more k h [] far down = tt
down_more k h (Says f ∷ near) far down = down_more k h near far down
down_more k h (Comes a ∷ near) far down = (inr down.0, down_more k h near far down.1)
down_more k h (InVain rest ∷ near) far down = down_more k h near far down

module _ (jobs : List Job) (gives_way : Bool) (near : List AtSender) (s : Sending) (f : Frame) (pause : Bool) (went : SenderWent gives_way (first_sending jobs) near s)
    (live : s.over ≡ false) (due : IsFrameOf (say_in s.core.place) s.rest f) (idle : has_answer (kept_of gives_way (told near)).said ≡ false)
    (happened : AllHappen gives_way (told near)) (in_order : answered gives_way (told near) ≤ things (told near)) where
  abbrev n : ℕ
  n = things (told near)

  abbrev said_now : List AtSender
  said_now = Says f ∷ near

  went_now : SenderWent gives_way (first_sending jobs) said_now (after_speaking s)
  went_now = (s, went, record { live = live; due = due; state = refl })

  -- EOT
  ends : has_answer (said_in f) ≡ false → (reply : Option Reply) → GoesOn jobs gives_way near f reply (after_speaking s)
  ends none reply = record {
    all = said_now;
    went = went_now;
    idle = none;
    happened = (idle, happened);
    in_order = rw none in_order;
    more = λ asks. absurd (true≢false (sym asks ∙ none));
    thing = inl (refl, refl);
    up = up_more (Says f) near;
    down = λ far down replied. down;
  }

  module _ (asks : has_answer (said_in f) ≡ true) where
    abbrev k : Kept Answer
    k = kept_of gives_way (told near)

    abbrev IsGiven : List AtSender → LinkEvent Answer → Given Answer → Type 0
    IsGiven past e given = given_at e (kept_of gives_way (told past)) ≡ given

    listens : (past : List AtSender) (e : LinkEvent Answer) (given : Given Answer) (s' : Sending) → IsGiven past e given → Listens given (after_speaking s) s'
        → Listens (given_at e (kept_of gives_way (told past))) (after_speaking s) s'
    listens past e given s' is so = subst (λ g. Listens g (after_speaking s) s') (sym is) so

    soon : (y : Reply) → (answered gives_way (told said_now) ≤ n) × (n < things (told said_now)) × (vain_since n (told said_now) < 2)
    soon y = (in_order, rw asks (omega arith), rw (eq-eqb n n refl) (omega arith))

    counts : n + 1 ≤ things (told said_now)
    counts = rw asks (omega arith)

    -- the answer counts at once
    answered_at_once : (y : Reply) → k.is_late ≡ false → GoesOn jobs gives_way near f (Some y) (after_hearing (after_speaking s) (sound_of_reply (Some y)) pause)
    answered_at_once y on_time =
        let a : Answer = record { thing = n; reply = y } in
        let step = at_once (said_in f) asks k a on_time in
        record {
          all = Comes a ∷ said_now;
          went = (after_speaking s, went_now, listens said_now (LinkEvent.Answer a) (Given.Answer a) _ step.0 (pause, refl));
          idle = step.1;
          happened = (soon y, (idle, happened));
          in_order = counts;
          more = λ _. counts;
          thing = inl (refl, refl);
          up = λ far up. up_more (Comes a) said_now far (up_more (Says f) near far up);
          down = λ far down replied. (replied y refl, down);
        }

    -- it is held, and counts after four quiet hearings
    answered_late : (y : Reply) → k.is_late ≡ true → GoesOn jobs gives_way near f (Some y) (after_hearing (after_speaking s) (sound_of_reply (Some y)) pause)
    answered_late y late =
        let a : Answer = record { thing = n; reply = y } in
        let quiet : LinkEvent Answer = LinkEvent.Vain Rest.Quiet in
        let l0 : List AtSender = Comes a ∷ said_now in
        let l1 : List AtSender = InVain Rest.Quiet ∷ l0 in
        let l2 : List AtSender = InVain Rest.Quiet ∷ l1 in
        let l3 : List AtSender = InVain Rest.Quiet ∷ l2 in
        let first = held_first (said_in f) asks k a late in
        let on = held_on (said_in f) asks k a in
        let last = held_last (said_in f) asks k a in
        let k0 : kept_of gives_way (told l0) ≡ held (said_in f) asks k a 0 = first.1 in
        let k1 : kept_of gives_way (told l1) ≡ held (said_in f) asks k a 1 = ap (kept_after quiet) k0 ∙ on.0.1 in
        let k2 : kept_of gives_way (told l2) ≡ held (said_in f) asks k a 2 = ap (kept_after quiet) k1 ∙ on.1.1 in
        let k3 : kept_of gives_way (told l3) ≡ held (said_in f) asks k a 3 = ap (kept_after quiet) k2 ∙ on.2.1 in
        record {
          all = InVain Rest.Quiet ∷ l3;
          went = (
            after_speaking s,
            (
              after_speaking s,
              (
                after_speaking s,
                (
                  after_speaking s,
                  (after_speaking s, went_now, listens said_now (LinkEvent.Answer a) Given.Nothing _ first.0 refl),
                  listens l0 quiet Given.Nothing _ (ap (given_at quiet) k0 ∙ on.0.0) refl,
                ),
                listens l1 quiet Given.Nothing _ (ap (given_at quiet) k1 ∙ on.1.0) refl,
              ),
              listens l2 quiet Given.Nothing _ (ap (given_at quiet) k2 ∙ on.2.0) refl,
            ),
            listens l3 quiet (Given.Answer a) _ (ap (given_at quiet) k3 ∙ last.0) (pause, refl),
          );
          idle = ap (λ x. has_answer (kept_after quiet x).said) k3 ∙ last.1;
          happened = (tt, (tt, (tt, (tt, (soon y, (idle, happened))))));
          in_order = counts;
          more = λ _. counts;
          thing = inl (refl, refl);
          up = λ far up.
              up_more (InVain Rest.Quiet) l3 far
              (up_more (InVain Rest.Quiet) l2 far
              (up_more (InVain Rest.Quiet) l1 far (up_more (InVain Rest.Quiet) l0 far (up_more (Comes a) said_now far (up_more (Says f) near far up)))));
          down = λ far down replied. (replied y refl, down);
        }

    -- two hearings are in vain
    not_answered : (rest : Rest) (reply : Option Reply) → GoesOn jobs gives_way near f reply (after_hearing (after_speaking s) (sound_of_rest rest) pause)
    not_answered rest reply =
        let l0 : List AtSender = InVain rest ∷ said_now in
        let first = vain_first (said_in f) asks k rest in
        let last = vain_last (said_in f) asks k rest in
        let k0 : kept_of gives_way (told l0) ≡ waited (said_in f) asks k rest = first.1 in
        record {
          all = InVain rest ∷ l0;
          went = (
            after_speaking s,
            (after_speaking s, went_now, listens said_now (LinkEvent.Vain rest) Given.Nothing _ first.0 refl),
            listens l0 (LinkEvent.Vain rest) (Given.InVain rest) _ (ap (given_at (LinkEvent.Vain rest)) k0 ∙ last.0) (pause, refl),
          );
          idle = ap (λ x. has_answer (kept_after (LinkEvent.Vain rest) x).said) k0 ∙ last.1;
          happened = (tt, (tt, (idle, happened)));
          in_order = let less = counts in omega (arith, less, in_order);
          more = λ _. counts;
          thing = inl (refl, refl);
          up = λ far up. up_more (InVain rest) l0 far (up_more (InVain rest) said_now far (up_more (Says f) near far up));
          down = λ far down replied. down;
        }

    -- whatever is heard
    heard_then : (reply : Option Reply) (sound : Sound) → IsHeardAs reply sound → GoesOn jobs gives_way near f reply (after_hearing (after_speaking s) sound pause)
    heard_then reply sound (inl (y, is, heard)) =
        subst (λ x. GoesOn jobs gives_way near f reply (after_hearing (after_speaking s) x pause)) (sym heard)
        (subst (λ x. GoesOn jobs gives_way near f x (after_hearing (after_speaking s) (sound_of_reply (Some y)) pause)) (sym is)
        (elim (cases_Bool k.is_late) [ inl late ↦ answered_late y late | inr on_time ↦ answered_at_once y on_time ]))
    heard_then reply sound (inr (rest, heard)) =
        subst (λ x. GoesOn jobs gives_way near f reply (after_hearing (after_speaking s) x pause)) (sym heard) (not_answered rest reply)

-- ---- One more turn at the receiving end.

-- nothing but a block is refused
taken_unless_block : (what : Heard) (begun : Option Job) (refused : Bool) → MayRefuse what begun refused → sound_heard what ≢ Sound.Block → sound_taken what refused ≡ sound_heard what
taken_unless_block heard.Quiet begun refused may none = refl
taken_unless_block heard.Noise begun refused may none = refl
taken_unless_block heard.Bad begun refused may none = refl
taken_unless_block (heard.Frame (frame.Block b)) begun refused may none = absurd (none refl)
taken_unless_block (heard.Frame f) begun refused may none = rw may refl

-- EOT isn't answered, and nothing else ends the transmission
end_is_silent : (place : ReceiverPlace) (odd : Bool) (last : Option Reply) (rvi : Bool) (wish : Wish)
    → (receiver_news (record { place = place; odd_accepted = odd; last_reply = last; rvi_made = rvi }) Sound.Eot wish).reply ≡ None
end_is_silent ReceiverPlace.Idle odd last rvi wish = refl
end_is_silent ReceiverPlace.InTransmission odd last rvi wish = refl
end_is_silent ReceiverPlace.Ended odd last rvi wish = refl

goes_on_else : (place : ReceiverPlace) (odd : Bool) (last : Option Reply) (rvi : Bool) (sound : Sound) (wish : Wish) → sound ≢ Sound.Eot
    → (receiver_news (record { place = place; odd_accepted = odd; last_reply = last; rvi_made = rvi }) sound wish).ended ≡ false
goes_on_else place odd last rvi Sound.Eot wish none = absurd (none refl)
goes_on_else ReceiverPlace.Idle odd last rvi Sound.Enq Wish.Go none = refl
goes_on_else ReceiverPlace.Idle odd last rvi Sound.Enq Wish.Hold none = refl
goes_on_else ReceiverPlace.Idle odd last rvi Sound.Enq Wish.Turn none = refl
goes_on_else ReceiverPlace.Idle odd last rvi _ wish none = refl
goes_on_else ReceiverPlace.InTransmission odd last rvi _ wish none = refl
goes_on_else ReceiverPlace.Ended odd last rvi _ wish none = refl

taken_no_end : (what : Heard) (refused : Bool) → sound_heard what ≢ Sound.Eot → sound_taken what refused ≢ Sound.Eot
taken_no_end (heard.Frame f) true none = λ e. cc
taken_no_end (heard.Frame f) false none = none
taken_no_end heard.Quiet refused none = none
taken_no_end heard.Noise refused none = none
taken_no_end heard.Bad refused none = none

no_end : (r : Receiving) (what : Heard) (refused : Bool) (wish : Wish) → sound_heard what ≢ Sound.Eot → (after_receiving r what refused wish).over ≡ false
no_end r what refused wish none =
    goes_on_else r.core.place r.core.odd_accepted r.core.last_reply r.core.rvi_made (sound_taken what refused) wish (taken_no_end what refused none)

-- whatever comes of EOT, it isn't answered
end_unanswered : (r : Receiving) (what : Heard) (refused : Bool) (wish : Wish) → MayRefuse what (begun_in r.jobs) refused → MayBeHeardAs Sound.Eot (sound_heard what)
    → (after_receiving r what refused wish).due ≡ None
end_unanswered r what refused wish may comes_so = elim (comes Sound.Eot (sound_heard what) comes_so) [
  | inl is ↦ taken is (λ e. cc) ∙ end_is_silent r.core.place r.core.odd_accepted r.core.last_reply r.core.rvi_made wish
  | inr (inl is) ↦ taken is (λ e. cc) ∙ (idles r Sound.Quiet wish refl).1
  | inr (inr is) ↦ taken is (λ e. cc) ∙ (idles r Sound.Noise wish refl).1
]
  where
    taken : {sound : Sound} → sound_heard what ≡ sound → sound ≢ Sound.Block → (after_receiving r what refused wish).due ≡ (receiver_news r.core sound wish).reply
    taken is other = ap (λ x. (receiver_news r.core x wish).reply) (taken_unless_block what (begun_in r.jobs) refused may (λ e. other (sym is ∙ e)) ∙ is)

end_sound : (said : Sound) → MayBeHeardAs said Sound.Eot → said ≡ Sound.Eot
end_sound Sound.Eot may = refl
end_sound Sound.Quiet may = cc (comes Sound.Quiet Sound.Eot may)
end_sound Sound.Block may = absurd (comes Sound.Block Sound.Eot may refl)
end_sound Sound.Ttd may = absurd ((comes Sound.Ttd Sound.Eot may).1 refl)
end_sound said may = elim (comes said Sound.Eot may) [
  | inl is ↦ cc
  | inr (inl is) ↦ cc
  | inr (inr is) ↦ cc
]

no_end_frame : (f : Frame) → has_answer (said_in f) ≡ true → sound_of_frame f ≢ Sound.Eot
no_end_frame frame.Eot asks is = true≢false (sym asks)
no_end_frame f asks is = cc

-- what a receiving station replies, or not
abbrev answered_by : Say → Receiving → Receiving
answered_by say r = elim say [ Say.End ↦ r | _ ↦ after_replying r ]

replied_so : (say : Say) (r : Receiving) → say ≢ Say.End → answered_by say r ≡ after_replying r
replied_so Say.End r more = absurd (more refl)
replied_so _ r more = refl

unreplied : (r : Receiving) → r.due ≡ None → r ≡ after_replying r
unreplied r none = ap (λ due. record r { due = due }) none ∙ ap (λ due. record r { due = None; trace = trace_after_reply due r.trace }) (sym none)

-- ---- All turns.

-- two stations stand so over a connection
record Made (jobs : List Job) (gives_way : Bool) (s : Sending) (r : Receiving) : Type 0 where
  near : List AtSender
  far : List AtReceiver
  connected : IsOverConnection jobs gives_way near s far r
  idle : has_answer (kept_of gives_way (told near)).said ≡ false
  in_order : answered gives_way (told near) ≤ things (told near)
  alive : s.over ≡ false → (r.over ≡ false) × (come_by far ≤ things (told near))
  stood : Stood AnyFrame jobs s r

module _ (at_most : GetsAtMostOneMore) (knows : KnowsBeforeBlocks) (counts_blocks : CountsBlocks) (receiving : ReceivingTurns) (jobs : List Job) (gives_way : Bool) where
  first_made : Made jobs gives_way (first_sending jobs) first_receiving
  first_made = record {
    near = [];
    far = [];
    connected = record { sends = refl; receives = refl; up = tt; down = tt; in_time = tt };
    idle = refl;
    in_order = omega arith;
    alive = λ _. (refl, omega arith);
    stood = first_stood AnyFrame jobs;
  }

  module _ (s s' : Sending) (r r' : Receiving) (t : SpokenTurn) (says : SenderTakes s s' t) (hears : ReceiverTakes r r' t) (faithful : IsFaithful s hears.what t)
      (p : Made jobs gives_way s r) where
    abbrev place_says : Say
    place_says = say_in s.core.place

    abbrev f : Frame
    f = (due_frame jobs s r p.stood says.live).0

    abbrev due : IsFrameOf place_says s.rest f
    due = (due_frame jobs s r p.stood says.live).1

    abbrev hearing : OneHearing
    hearing = record { what = hears.what; refused = t.refused; wish = t.wish; reply = t.reply }

    up_so : MayBeHeardAs (sound_of place_says) (sound_heard hears.what)
    up_so = subst (λ x. MayBeHeardAs (sound_of x) (sound_heard hears.what)) says.said (subst (MayBeHeardAs (sound_of t.said)) hears.arrived faithful.up)

    come : MayComeAs f hears.what
    come = may_come s f hears.what due up_so faithful.block

    may_hear : MayHear place_says t.reply t.heard
    may_hear = record { down = faithful.down; done = λ e. says.done (says.said ∙ e) }

    state : s' ≡ turned s place_says t.heard t.pause
    state = says.state ∙ ap (λ x. turned s x t.heard t.pause) says.said

    stood_then : Stood AnyFrame jobs (turned s place_says t.heard t.pause) (after_receiving r hears.what t.refused t.wish)
    stood_then = (stood_grows at_most knows AnyFrame counts_blocks receiving jobs).more s r f hearing t.heard t.pause says.live due tt come hears.may hears.reply may_hear p.stood

    -- the receiving station replied what was due, or nothing was
    abbrev heard_it : Receiving
    heard_it = after_receiving r hears.what t.refused t.wish

    made : GoesOn jobs gives_way p.near f t.reply s' → r' ≡ after_replying heard_it → (s'.over ≡ false → (has_answer (said_in f) ≡ true) × (r'.over ≡ false)) → Made jobs gives_way s' r'
    made on state' live = record {
      near = on.all;
      far = Arrives (things (told p.near)) hearing ∷ p.far;
      connected = record {
        sends = on.went;
        receives = (r, p.connected.receives, record { live = (p.alive says.live).0; may = hears.may; reply = hears.reply; state = state' });
        up = (((p.alive says.live).1, (f, on.thing, come)), on.up p.far p.connected.up);
        down = on.down (Arrives (things (told p.near)) hearing ∷ p.far) (down_more (things (told p.near)) hearing p.near p.far p.connected.down) (λ y is. inl (refl, is));
        in_time = on.happened;
      };
      idle = on.idle;
      in_order = on.in_order;
      alive = λ over. let so = live over in (so.1, on.more so.0);
      stood = (stood_grows at_most knows AnyFrame counts_blocks receiving jobs).same _ _ heard_it r' (ap but_for_notes (sym state)) (ap wordless (sym state')) stood_then;
    }

    one_more : Made jobs gives_way s' r'
    one_more = elim (ends_or_asks place_says s.rest f due) [
      | inl (last, is_eot) ↦
          let end : s' ≡ after_speaking s = state ∙ ap (λ x. turned s x t.heard t.pause) last in
          let unanswered : heard_it.due ≡ None =
          end_unanswered r hears.what t.refused t.wish hears.may (subst (λ x. MayBeHeardAs (sound_of x) (sound_heard hears.what)) last up_so) in
          made
          (subst (GoesOn jobs gives_way p.near f t.reply) (sym end)
          (ends jobs gives_way p.near s f t.pause p.connected.sends says.live due p.idle p.connected.in_time p.in_order (ap (λ x. has_answer (said_in x)) is_eot) t.reply))
          (hears.state ∙ ap (λ x. answered_by x heard_it) (says.said ∙ last) ∙ unreplied heard_it unanswered)
          (λ over. absurd (true≢false (sym (ap is_end last) ∙ sym (ap (λ x. x.over) end) ∙ over)))
      | inr (asks, turns) ↦
          let on : s' ≡ after_hearing (after_speaking s) t.heard t.pause = state ∙ turns s t.heard t.pause in
          let other : place_says ≢ Say.End = λ last. true≢false (sym asks ∙ ap (λ x. has_answer (said_in x)) (subst (λ x. IsFrameOf x s.rest f) last due)) in
          let state' : r' ≡ after_replying heard_it = hears.state ∙ ap (λ x. answered_by x heard_it) says.said ∙ replied_so place_says heard_it other in
          made
          (subst (GoesOn jobs gives_way p.near f t.reply) (sym on)
          (heard_then jobs gives_way p.near s f t.pause p.connected.sends says.live due p.idle p.connected.in_time p.in_order asks t.reply t.heard
          (heard_as t.reply t.heard faithful.down)))
          state'
          (λ over. (
            asks,
            ap (λ x. x.over) state' ∙ no_end r hears.what t.refused t.wish
                (λ eot. no_end_frame f asks (end_sound (sound_of_frame f) (subst (MayBeHeardAs (sound_of_frame f)) eot come.sound))),
          ))
    ]

  all_made : (s : Sending) (r : Receiving) (h : History) (sent : SenderTook (first_sending jobs) h s) (received : ReceiverTook first_receiving h r)
      → AreFaithful (first_sending jobs) s first_receiving r h sent received → Made jobs gives_way s r
  all_made s r [] sent received faithful = subst (λ x. Made jobs gives_way x r) (sym sent) (subst (Made jobs gives_way (first_sending jobs)) (sym received) first_made)
  all_made s r (t ∷ h) (near, sent, says) (far, received, hears) (now, before) = one_more near s far r t says hears now (all_made near far h sent received before)

pub may_be_connections : GetsAtMostOneMore → KnowsBeforeBlocks → CountsBlocks → ReceivingTurns → MayBeConnections
may_be_connections at_most knows counts receiving jobs gives_way h s r sent received faithful =
    let p = all_made at_most knows counts receiving jobs gives_way s r h sent received faithful in
    record { near = p.near; far = p.far; connected = p.connected }
