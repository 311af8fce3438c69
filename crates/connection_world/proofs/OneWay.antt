-- One way of two stations that both have jobs: what the one says in its own transmission, and what the other hears of it.
use Rattle.std.proofs.Common.{◌≡◌, ◌≢◌, refl, sym, ap, ◌∙◌, subst, ◌+◌, Bool, true, false, if◌then◌else◌, Option, Some, None, List, [], ◌∷◌, ◌⊎◌, inl, inr}
use Rattle.std.proofs.lemmas.Bool.{cases_Bool, true≢false}
use Rattle.bsc_codes.specs.declared.block.Block.{Block}
use Rattle.bsc_frame.specs.declared.frame.Frame.{Frame}
use Rattle.bsc_frame.specs.declared.frame.Frame.TheVariants as frame
use Rattle.bsc_link.specs.declared.rank.Rank.{Rank}
use Rattle.bsc_link.specs.declared.reply.Reply.{Reply}
use Rattle.bsc_link.specs.declared.say.Say.{Say}
use Rattle.bsc_link.specs.declared.sound.Sound.{Sound}
use Rattle.bsc_link.specs.Contender.{ContenderState}
use Rattle.bsc_link.specs.Sender.{sender_yielded}
use Rattle.rje_answers.specs.declared.link_event.LinkEvent.{LinkEvent}
use Rattle.rje_answers.specs.declared.given.Given.{Given}
use Rattle.rje_answers.specs.declared.said.Said.{Said}
use Rattle.rje_answers.specs.Awaiting.{Kept, given_at, has_answer, kept_after, said_in}
use Rattle.rje_answers.specs.Law.{AllHappen, Answer, Events, GivesOwnAnswers, kept_of, things}
use Rattle.bsc_history.specs.Agreement.{GetsAtMostOneMore, KnowsBeforeBlocks}
use Rattle.rje_jobs.specs.declared.job.Job.{Job}
use Rattle.rje_station.specs.Hearing.{sound_heard}
use Rattle.rje_station.specs.Laws.{CountsBlocks}
use Rattle.rje_station.specs.Receiving.{Receiving, after_receiving}
use Rattle.rje_station.specs.Sending.{Sending, after_hearing, first_sending, is_end}
use Rattle.rje_station.specs.Station.{Contending, after_other, after_other_ended, after_own_reply, after_passing, contender_hears, due_at, gives_way, lets_in}
use Rattle.rje_station.proofs.Due.{answered_of_due, due_kept, going_at, says_at, spoken_of_due}
use Rattle.line_world.specs.Turns.{ReceivingTurns}
use Rattle.connection_world.specs.Connection.{AtReceiver, Says, Comes, InVain, ComeDown, ComeUp, IsFrameOf, IsReplied, Listens, OneHearing, Speaks, hearing_of, sound_given, told}
use Rattle.connection_world.specs.BothWays.{AreConnected, AtEnd, Own, Crosses, Others, Crossing, Bid, End, Text, EndWent, HearsOther, ListensOwn, SpeaksOwn, event_of, kept_by, others_of, own_of, told_both, yields}
use Rattle.connection_world.proofs.Awaited.{AllCame, EndsWith, Settles, answer_came, answer_settles, bid_settles, end_settles, vain_came, vain_settles}
use Rattle.connection_world.proofs.Numbers.{AllAnswered, AllSaid, up_before_answer, up_before_vain}
use Rattle.connection_world.proofs.SideBySide.{FarGoes, FarWent, Grows, Stand, after_event, after_saying, begin, given_some, goes_on}
use Rattle.connection_world.proofs.Standing.{Stood, first_stood, stood_ended, stood_grows, stood_yielded}
use Rattle.connection_world.proofs.Stations.{ends_or_asks, quiet_counts_none, wordless}

-- ---- A step of the station is one of its sending and of its receiving side.

said_something : (say : Say) (rest : List Block) (f : Frame) → IsFrameOf say rest f → say ≢ Say.Nothing
said_something say rest f due e = subst (λ x. IsFrameOf x rest f) e due

pub speaks_own : (f : Frame) (s s' : Contending) → SpeaksOwn f s s' → Speaks f s.sender s'.sender
speaks_own f s s' speaks =
    let some = said_something (due_at s) s.sender.rest f speaks.due in
    record {
      live = going_at s (due_at s) refl some;
      due = subst (λ x. IsFrameOf x s.sender.rest f) (sym (says_at s (due_at s) refl some)) speaks.due;
      state = ap (λ x. x.sender) (speaks.state ∙ spoken_of_due s (due_at s) refl some);
    }

listens_own : (given : Given Answer) (s s' : Contending) → (given ≢ Given.Nothing → due_at s ≢ Say.Nothing) → ListensOwn given s s' → Listens given s.sender s'.sender
listens_own Given.Nothing s s' some listens = ap (λ x. x.sender) listens
listens_own (Given.Answer a) s s' some listens = (listens.0, ap (λ x. x.sender) (listens.1 ∙ answered_of_due s (due_at s) _ listens.0 refl (some (λ e. cc))))
listens_own Given.Bid s s' some listens = (listens.0, ap (λ x. x.sender) (listens.1 ∙ answered_of_due s (due_at s) _ listens.0 refl (some (λ e. cc))))
listens_own Given.End s s' some listens = (listens.0, ap (λ x. x.sender) (listens.1 ∙ answered_of_due s (due_at s) _ listens.0 refl (some (λ e. cc))))
listens_own (Given.InVain rest) s s' some listens = (listens.0, ap (λ x. x.sender) (listens.1 ∙ answered_of_due s (due_at s) _ listens.0 refl (some (λ e. cc))))

listens_none : (given : Given Answer) (s s' : Contending) → ListensOwn given s s' → given ≡ Given.Nothing → s' ≡ s
listens_none given s s' listens none = rw none at listens

-- its own transmission leaves the receiving side as it is
abbrev pub with_own : Say → Contending → Sending → ContenderState → Contending
with_own say s x c = elim say [ Say.Nothing ↦ s | _ ↦ record s { sender = x; contender = c } ]

receiver_kept : (say : Say) (s : Contending) (x : Sending) (c : ContenderState) → (with_own say s x c).receiver ≡ s.receiver
receiver_kept Say.Nothing s x c = refl
receiver_kept _ s x c = refl

pub spoke_aside : (f : Frame) (s s' : Contending) → SpeaksOwn f s s' → s'.receiver ≡ s.receiver
spoke_aside f s s' speaks =
    ap (λ x. x.receiver) (speaks.state ∙ spoken_of_due s (due_at s) refl (said_something (due_at s) s.sender.rest f speaks.due))

pub listened_aside : (given : Given Answer) (s s' : Contending) → ListensOwn given s s' → s'.receiver ≡ s.receiver
listened_aside Given.Nothing s s' listens = ap (λ x. x.receiver) listens
listened_aside (Given.Answer a) s s' listens = ap (λ x. x.receiver) listens.1 ∙ receiver_kept (due_at s) s _ _
listened_aside Given.Bid s s' listens = ap (λ x. x.receiver) listens.1 ∙ receiver_kept (due_at s) s _ _
listened_aside Given.End s s' listens = ap (λ x. x.receiver) listens.1 ∙ receiver_kept (due_at s) s _ _
listened_aside (Given.InVain rest) s s' listens = ap (λ x. x.receiver) listens.1 ∙ receiver_kept (due_at s) s _ _

-- ---- It hears the other station.

-- what it makes of that: it replies, or the other's transmission ended
abbrev pub after_hearing_other : Contending → Contending
after_hearing_other s = if s.receiver.over then after_other_ended s else after_own_reply s

sender_left : (s : Contending) → (after_hearing_other s).sender ≡ s.sender
sender_left s = elim (cases_Bool s.receiver.over) [ inl e ↦ rw e refl | inr e ↦ rw e refl ]

pub receiver_left : (s : Contending) → wordless (after_hearing_other s).receiver ≡ wordless s.receiver
receiver_left s = elim (cases_Bool s.receiver.over) [ inl e ↦ rw e refl | inr e ↦ rw e refl ]

pub taken_other : (s : Contending) (h : OneHearing) → lets_in s.contender (sound_heard h.what) ≡ true
    → after_other s h.what h.refused h.wish
    ≡ record s { sender = gives_way s.contender.rank (sound_heard h.what) s.sender; receiver = after_receiving s.receiver h.what h.refused h.wish; contender = contender_hears (sound_heard h.what) s.contender }
taken_other s h e = rw (e, after_other) refl

pub passed_other : (s : Contending) (h : OneHearing) → lets_in s.contender (sound_heard h.what) ≡ false
    → after_other s h.what h.refused h.wish ≡ record s { receiver = after_passing s.receiver }
passed_other s h e = rw (e, after_other) refl

-- its sending side stays, or gives way
abbrev pub MayYield : Sending → Sending → Type 0
MayYield s s' = (s' ≡ s) ⊎ (s' ≡ record s { core = sender_yielded s.core })

gives_way_or_not : (rank : Rank) (sound : Sound) (s : Sending) → MayYield s (gives_way rank sound s)
gives_way_or_not Rank.Secondary Sound.Enq s = inr refl
gives_way_or_not Rank.Secondary _ s = inl refl
gives_way_or_not Rank.Primary _ s = inl refl

pub sender_after_other : (h : OneHearing) (s s' : Contending) → HearsOther h s s' → MayYield s.sender s'.sender
sender_after_other h s s' hears = elim (cases_Bool (lets_in s.contender (sound_heard h.what))) [
  | inl e ↦ subst (MayYield s.sender) (sym (left ∙ ap (λ x. x.sender) (taken_other s h e))) (gives_way_or_not s.contender.rank (sound_heard h.what) s.sender)
  | inr e ↦ inl (left ∙ ap (λ x. x.sender) (passed_other s h e))
]
  where
    left : s'.sender ≡ (after_other s h.what h.refused h.wish).sender
    left = ap (λ x. x.sender) hears.state ∙ sender_left (after_other s h.what h.refused h.wish)

pub receiver_after_other : (h : OneHearing) (s s' : Contending) → HearsOther h s s' → FarGoes h s.receiver s'.receiver
receiver_after_other h s s' hears = elim (cases_Bool (lets_in s.contender (sound_heard h.what))) [
  | inl e ↦
      let is = ap (λ x. x.receiver) (taken_other s h e) in
      inl (hears.may, hears.reply ∙ ap (λ x. x.due) is, left ∙ ap wordless is)
  | inr e ↦
      let is = ap (λ x. x.receiver) (passed_other s h e) in
      inr (hears.reply ∙ ap (λ x. x.due) is, left ∙ ap wordless is)
]
  where
    left : wordless s'.receiver ≡ wordless (after_other s h.what h.refused h.wish).receiver
    left = ap (λ x. wordless x.receiver) hears.state ∙ receiver_left (after_other s h.what h.refused h.wish)

-- ---- The receiving side, all along.

pub receives : (rank : Rank) (jobs : List Job) (past : List AtEnd) (s : Contending) → EndWent rank jobs past s → FarWent (others_of past) s.receiver
receives rank jobs [] s went = ap (λ x. x.receiver) went
receives rank jobs (Own (Says f) ∷ past) s (mid, went, speaks) = subst (FarWent (others_of past)) (sym (spoke_aside f mid s speaks)) (receives rank jobs past mid went)
receives rank jobs (Own (Comes a) ∷ past) s (mid, went, listens) = subst (FarWent (others_of past)) (sym (listened_aside _ mid s listens)) (receives rank jobs past mid went)
receives rank jobs (Own (InVain rest) ∷ past) s (mid, went, listens) = subst (FarWent (others_of past)) (sym (listened_aside _ mid s listens)) (receives rank jobs past mid went)
receives rank jobs (Crosses c ∷ past) s (mid, went, listens) = subst (FarWent (others_of past)) (sym (listened_aside _ mid s listens)) (receives rank jobs past mid went)
receives rank jobs (Others e ∷ past) s (mid, went, hears) = (mid.receiver, receives rank jobs past mid went, receiver_after_other (hearing_of e) mid s hears.1)

-- ---- The events at its end.

-- of a hearing of the other station
reply_counts : (reply : Option Reply) (past : Events) → things (elim reply [ None ↦ past | Some x ↦ LinkEvent.Says Said.Reply ∷ past ]) ≡ things past
reply_counts None past = refl
reply_counts (Some x) past = refl

reply_happened : (gives : Bool) (reply : Option Reply) (past : Events) → AllHappen gives (elim reply [ None ↦ past | Some x ↦ LinkEvent.Says Said.Reply ∷ past ]) → AllHappen gives past
reply_happened gives None past all = all
reply_happened gives (Some x) past all = all.1

reply_came : (P : Answer → Type 0) (reply : Option Reply) (past : Events) → AllCame P past → AllCame P (elim reply [ None ↦ past | Some x ↦ LinkEvent.Says Said.Reply ∷ past ])
reply_came P None past came = came
reply_came P (Some x) past came = came

reply_idle : (gives : Bool) (reply : Option Reply) (past : Events) → has_answer (kept_of gives past).said ≡ false
    → has_answer (kept_of gives (elim reply [ None ↦ past | Some x ↦ LinkEvent.Says Said.Reply ∷ past ])).said ≡ false
reply_idle gives None past idle = idle
reply_idle gives (Some x) past idle = refl

same_things : (past : List AtEnd) → things (told_both past) ≡ things (told (own_of past))
same_things [] = refl
same_things (Own (Says f) ∷ past) = ap (λ n. if has_answer (said_in f) then n + 1 else n) (same_things past)
same_things (Own (Comes a) ∷ past) = same_things past
same_things (Own (InVain rest) ∷ past) = same_things past
same_things (Crosses Bid ∷ past) = same_things past
same_things (Crosses End ∷ past) = same_things past
same_things (Crosses Text ∷ past) = same_things past
same_things (Others e ∷ past) = reply_counts (hearing_of e).reply (told_both past) ∙ same_things past

all_came : (past : List AtEnd) (far : List AtReceiver) → ComeDown (own_of past) far → AllCame (λ a. IsReplied a far) (told_both past)
all_came [] far down = tt
all_came (Own (Says f) ∷ past) far down = all_came past far down
all_came (Own (Comes a) ∷ past) far down = (down.0, all_came past far down.1)
all_came (Own (InVain rest) ∷ past) far down = all_came past far down
all_came (Crosses Bid ∷ past) far down = all_came past far down
all_came (Crosses End ∷ past) far down = all_came past far down
all_came (Crosses Text ∷ past) far down = all_came past far down
all_came (Others e ∷ past) far down = reply_came (λ a. IsReplied a far) (hearing_of e).reply (told_both past) (all_came past far down)

all_said : (gives : Bool) (past : List AtEnd) → AllHappen gives (told_both past) → AllSaid (own_of past)
all_said gives [] all = tt
all_said gives (Own (Says f) ∷ past) all = all_said gives past all.1
all_said gives (Own (Comes a) ∷ past) all = (rw (← same_things past) (all.0.1), all_said gives past all.1)
all_said gives (Own (InVain rest) ∷ past) all = all_said gives past all.1
all_said gives (Crosses Bid ∷ past) all = all_said gives past all.1
all_said gives (Crosses End ∷ past) all = all_said gives past all.1
all_said gives (Crosses Text ∷ past) all = all_said gives past all.1
all_said gives (Others e ∷ past) all = all_said gives past (reply_happened gives (hearing_of e).reply (told_both past) all)

-- ---- As long as an answer is awaited.

abbrev Awaits : Rank → List AtEnd → Bool
Awaits rank past = has_answer (kept_by rank past).said

abbrev AnySettles : LinkEvent Answer → Kept Answer → Type 0
AnySettles e k =
    ((given_at e k ≡ Given.Nothing) × (has_answer (kept_after e k).said ≡ has_answer k.said))
    ⊎ ((has_answer k.said ≡ true) × (has_answer (kept_after e k).said ≡ false))

any_settles : (e : LinkEvent Answer) (k : Kept Answer) (Ends : Given Answer → Type 0) → Settles e k Ends → AnySettles e k
any_settles e k Ends (inl none) = inl none
any_settles e k Ends (inr some) = inr (some.0, some.1)

crossing_settles : (c : Crossing) (k : Kept Answer) → AnySettles (event_of c) k
crossing_settles Bid k = any_settles LinkEvent.Bid k (λ given. given ≡ Given.Bid) (bid_settles k)
crossing_settles End k = any_settles LinkEvent.End k (λ given. given ≡ Given.End) (end_settles k)
crossing_settles Text k = inl (refl, refl)

-- what it said is still due, and EOT wasn't said
record Open (rank : Rank) (past : List AtEnd) (s : Contending) : Type 0 where
  due : Awaits rank past ≡ true → due_at s ≢ Say.Nothing
  live : s.sender.over ≡ false → AllAnswered (own_of past)
  awaiting : Awaits rank past ≡ true → AllAnswered (own_of past)

-- after an event
module _ (rank : Rank) (past : List AtEnd) (e : LinkEvent Answer) (s s' : Contending) (p : Open rank past s) (listens : ListensOwn (given_at e (kept_by rank past)) s s') where
  record OpenAfter : Type 0 where
    due : has_answer (kept_after e (kept_by rank past)).said ≡ true → due_at s' ≢ Say.Nothing
    live : s'.sender.over ≡ false → AllAnswered (own_of past)
    awaiting : has_answer (kept_after e (kept_by rank past)).said ≡ true → AllAnswered (own_of past)

  open_event : AnySettles e (kept_by rank past) → OpenAfter
  open_event (inl (none, same)) =
      let still : s' ≡ s = listens_none (given_at e (kept_by rank past)) s s' listens none in
      record {
        due = λ awaits is. p.due (sym same ∙ awaits) (ap due_at (sym still) ∙ is);
        live = λ live. p.live (ap (λ x. x.sender.over) (sym still) ∙ live);
        awaiting = λ awaits. p.awaiting (sym same ∙ awaits);
      }
  open_event (inr (awaited, over)) = record {
    due = λ awaits. absurd (true≢false (sym awaits ∙ over));
    live = λ live. p.awaiting awaited;
    awaiting = λ awaits. p.awaiting awaited;
  }

yield_over : (s s' : Sending) → MayYield s s' → s'.over ≡ s.over
yield_over s s' (inl is) = ap (λ x. x.over) is
yield_over s s' (inr is) = ap (λ x. x.over) is

stays_open : (rank : Rank) (jobs : List Job) (past : List AtEnd) (s : Contending) → EndWent rank jobs past s → Open rank past s
stays_open rank jobs [] s went = record { due = λ awaits. absurd (true≢false (sym awaits)); live = λ live. tt; awaiting = λ awaits. tt }
stays_open rank jobs (Own (Says f) ∷ past) s (mid, went, speaks) =
    let own = speaks_own f mid s speaks in
    let some = said_something (due_at mid) mid.sender.rest f speaks.due in
    let before = (stays_open rank jobs past mid went).live own.live in
    elim (ends_or_asks (due_at mid) mid.sender.rest f speaks.due) [
      | inl ends ↦ record {
        due = λ awaits. absurd (ended ends.1 awaits);
        live = λ live. absurd (over own ends.0 some live);
        awaiting = λ awaits. absurd (ended ends.1 awaits);
      }
      | inr asks ↦ record {
        due = λ awaits is. some (sym (due_kept mid (due_at mid) refl some (not_end asks.0)) ∙ ap due_at (sym speaks.state) ∙ is);
        live = λ live. (asks.0, before);
        awaiting = λ awaits. (asks.0, before);
      }
    ]
  where
    ended : f ≡ frame.Eot → has_answer (said_in f) ≡ true → ⊥
    ended is asks = true≢false (sym asks ∙ ap (λ x. has_answer (said_in x)) is)

    not_end : has_answer (said_in f) ≡ true → due_at mid ≢ Say.End
    not_end asks is = ended (subst (λ x. IsFrameOf x mid.sender.rest f) is speaks.due) asks

    over : Speaks f mid.sender s.sender → due_at mid ≡ Say.End → due_at mid ≢ Say.Nothing → s.sender.over ≡ false → ⊥
    over own ends some live =
        true≢false (sym (ap is_end (says_at mid (due_at mid) refl some ∙ ends)) ∙ sym (ap (λ x. x.over) own.state) ∙ live)
stays_open rank jobs (Own (Comes a) ∷ past) s (mid, went, listens) =
    let p = open_event rank past (LinkEvent.Answer a) mid s (stays_open rank jobs past mid went) listens (any_settles (LinkEvent.Answer a) (kept_by rank past) EndsWith (answer_settles a (kept_by rank past))) in
    record { due = p.due; live = p.live; awaiting = p.awaiting }
stays_open rank jobs (Own (InVain rest) ∷ past) s (mid, went, listens) =
    let p = open_event rank past (LinkEvent.Vain rest) mid s (stays_open rank jobs past mid went) listens (any_settles (LinkEvent.Vain rest) (kept_by rank past) EndsWith (vain_settles rest (kept_by rank past))) in
    record { due = p.due; live = p.live; awaiting = p.awaiting }
stays_open rank jobs (Crosses c ∷ past) s (mid, went, listens) =
    let p = open_event rank past (event_of c) mid s (stays_open rank jobs past mid went) listens (crossing_settles c (kept_by rank past)) in
    record { due = p.due; live = p.live; awaiting = p.awaiting }
stays_open rank jobs (Others e ∷ past) s (mid, went, hears) =
    let idle = reply_idle (yields rank) (hearing_of e).reply (told_both past) hears.0 in
    record {
      due = λ awaits. absurd (true≢false (sym awaits ∙ idle));
      live = λ live. (stays_open rank jobs past mid went).live (sym (yield_over mid.sender s.sender (sender_after_other (hearing_of e) mid s hears.1)) ∙ live);
      awaiting = λ awaits. absurd (true≢false (sym awaits ∙ idle));
    }

-- ---- All of it.

-- each frame that it spoke was spoken so, where the station then stood
abbrev pub AllSpoken : (Frame → Sending → Type 0) → (rank : Rank) (jobs : List Job) (past : List AtEnd) (s : Contending) → EndWent rank jobs past s → Type 0
AllSpoken Spoken rank jobs [] s went = Unit {0}
AllSpoken Spoken rank jobs (Own (Says f) ∷ past) s (mid, went, speaks) = Spoken f mid.sender × AllSpoken Spoken rank jobs past mid went
AllSpoken Spoken rank jobs (_ ∷ past) s (mid, went, goes) = AllSpoken Spoken rank jobs past mid went

module _ (own : GivesOwnAnswers) (at_most : GetsAtMostOneMore) (knows : KnowsBeforeBlocks) (counts : CountsBlocks) (receiving : ReceivingTurns)
    (Spoken : Frame → Sending → Type 0) (jobs : List Job) (rank : Rank) where
  -- where both stand, and where they do if the station hears EOT now
  record Both (past : List AtEnd) (s : Contending) (far : List AtReceiver) (r : Receiving) : Type 0 where
    stand : Stand (Stood Spoken jobs) (Awaits rank past) (things (told (own_of past))) s.sender far r
    ended : Awaits rank past ≡ true → (pause : Bool) → Stood Spoken jobs (after_hearing s.sender Sound.Eot pause) r

  grows : Grows Spoken (Stood Spoken jobs)
  grows = stood_grows at_most knows Spoken counts receiving jobs

  -- after it spoke
  both_said : (f : Frame) (past : List AtEnd) (s s' : Contending) (far : List AtReceiver) (r : Receiving) → EndWent rank jobs past s → SpeaksOwn f s s' → Spoken f s.sender → FarWent far r
      → ComeUp (Says f ∷ own_of past) far → ComeDown (own_of past) far → AllHappen (yields rank) (told_both past)
      → ((far : List AtReceiver) (r : Receiving) → FarWent far r → ComeUp (own_of past) far → ComeDown (own_of past) far → Stood Spoken jobs s.sender r)
      → Both (Own (Says f) ∷ past) s' far r
  both_said f past s s' far r went speaks spoken received up down all before =
      let said = speaks_own f s s' speaks in
      let stands = after_saying Spoken (Stood Spoken jobs) grows f (own_of past) s.sender s'.sender far r said spoken (all_said (yields rank) past all)
      ((stays_open rank jobs past s went).live said.live) received up down before in
      record {
        stand = stands;
        ended = λ awaits pause.
            subst (λ x. Stood Spoken jobs (after_hearing x Sound.Eot pause) r) (sym said.state)
            (stood_ended Spoken jobs s.sender r f pause said.due awaits
            (subst (λ x. Stood Spoken jobs (after_hearing x Sound.Quiet pause) r) said.state (stands.awaiting awaits Sound.Quiet pause (inl refl))));
      }

  -- after an event
  module _ (e : LinkEvent Answer) (past : List AtEnd) (s s' : Contending) (far : List AtReceiver) (r : Receiving) (went : EndWent rank jobs past s)
      (listens : ListensOwn (given_at e (kept_by rank past)) s s') (before : Both past s far r) where
    record BothAfter : Type 0 where
      stand : Stand (Stood Spoken jobs) (has_answer (kept_after e (kept_by rank past)).said) (things (told (own_of past))) s'.sender far r
      ended : has_answer (kept_after e (kept_by rank past)).said ≡ true → (pause : Bool) → Stood Spoken jobs (after_hearing s'.sender Sound.Eot pause) r

    hears : AnySettles e (kept_by rank past) → Listens (given_at e (kept_by rank past)) s.sender s'.sender
    hears settles = listens_own (given_at e (kept_by rank past)) s s' (λ some. (stays_open rank jobs past s went).due (awaited settles some)) listens
      where
        awaited : AnySettles e (kept_by rank past) → given_at e (kept_by rank past) ≢ Given.Nothing → Awaits rank past ≡ true
        awaited (inl none) some = absurd (some none.0)
        awaited (inr so) some = so.0

    still_ended : AnySettles e (kept_by rank past) → has_answer (kept_after e (kept_by rank past)).said ≡ true → (pause : Bool)
        → Stood Spoken jobs (after_hearing s'.sender Sound.Eot pause) r
    still_ended (inl (none, same)) awaits pause =
        subst (λ x. Stood Spoken jobs (after_hearing x.sender Sound.Eot pause) r) (sym (listens_none (given_at e (kept_by rank past)) s s' listens none))
        (before.ended (sym same ∙ awaits) pause)
    still_ended (inr (awaited, over)) awaits pause = absurd (true≢false (sym awaits ∙ over))

    -- an answer, or none after all
    both_heard : ((a : Answer) → given_at e (kept_by rank past) ≡ Given.Answer a → a.thing + 1 ≡ things (told_both past))
        → ((a : Answer) → given_at e (kept_by rank past) ≡ Given.Answer a → IsReplied a far) → Settles e (kept_by rank past) EndsWith → BothAfter
    both_heard own replied settles =
        let any = any_settles e (kept_by rank past) EndsWith settles in
        record {
          stand =
              after_event Spoken (Stood Spoken jobs) grows e (kept_by rank past) (things (told (own_of past))) s.sender s'.sender far r (hears any) before.stand
              (λ a is. own a is ∙ same_things past) replied settles;
          ended = still_ended any;
        }

    -- what crosses
    module _ (sound : Sound) (given : Given Answer) (some : given ≢ Given.Nothing) (is_sound : sound_given given ≡ sound)
        (stood : Awaits rank past ≡ true → (pause : Bool) → Stood Spoken jobs (after_hearing s.sender sound pause) r) where
      both_crossed : Settles e (kept_by rank past) (λ g. g ≡ given) → BothAfter
      both_crossed (inl (none, same)) = record {
        stand =
            goes_on Spoken (Stood Spoken jobs) grows e (kept_by rank past) (things (told (own_of past))) s.sender s'.sender far r (hears (inl (none, same))) before.stand none _ same;
        ended = still_ended (inl (none, same));
      }
      both_crossed (inr (awaited, over, is)) =
          let heard = given_some (given_at e (kept_by rank past)) s.sender s'.sender (hears (inr (awaited, over))) (λ none. some (sym is ∙ none)) in
          record {
            stand = record {
              settled = λ _.
                  subst (λ x. Stood Spoken jobs x r) (ap (λ x. after_hearing s.sender x heard.0) (sym is_sound ∙ ap sound_given (sym is)) ∙ sym heard.1) (stood awaited heard.0);
              awaiting = λ awaits. absurd (true≢false (sym awaits ∙ over));
            };
            ended = still_ended (inr (awaited, over));
          }

  both : (past : List AtEnd) (s : Contending) (far : List AtReceiver) (r : Receiving) (went : EndWent rank jobs past s) → AllSpoken Spoken rank jobs past s went → FarWent far r
      → ComeUp (own_of past) far → ComeDown (own_of past) far → AllHappen (yields rank) (told_both past) → Both past s far r
  both [] s far r went spoken received up down all = record {
    stand = record {
      settled = λ _. subst (λ x. Stood Spoken jobs x.sender r) (sym went) (begin Spoken (Stood Spoken jobs) grows (first_sending jobs) far r (first_stood Spoken jobs) received up);
      awaiting = λ awaits. absurd (true≢false (sym awaits));
    };
    ended = λ awaits. absurd (true≢false (sym awaits));
  }
  both (Own (Says f) ∷ past) s far r (mid, went, speaks) spoken received up down all =
      both_said f past mid s far r went speaks spoken.0 received up down all.1
      (λ far r received up down. (both past mid far r went spoken.1 received up down all.1).stand.settled all.0)
  both (Own (Comes a) ∷ past) s far r (mid, went, listens) spoken received up down all =
      let before = both past mid far r went spoken received (up_before_answer a (own_of past) far up) down.1 all.1 in
      let after = both_heard (LinkEvent.Answer a) past mid s far r went listens before
      (λ b is. own (yields rank) (told_both past) (LinkEvent.Answer a) b all is) (λ b is. answer_came (λ x. IsReplied x far) (yields rank) (told_both past) a b is down.0)
      (answer_settles a (kept_by rank past)) in
      record { stand = after.stand; ended = after.ended }
  both (Own (InVain rest) ∷ past) s far r (mid, went, listens) spoken received up down all =
      let before = both past mid far r went spoken received (up_before_vain rest (own_of past) far up) down all.1 in
      let after = both_heard (LinkEvent.Vain rest) past mid s far r went listens before
      (λ b is. own (yields rank) (told_both past) (LinkEvent.Vain rest) b all is) (λ b is. vain_came (λ x. IsReplied x far) (yields rank) (told_both past) rest b is (all_came past far down))
      (vain_settles rest (kept_by rank past)) in
      record { stand = after.stand; ended = after.ended }
  both (Crosses Bid ∷ past) s far r (mid, went, listens) spoken received up down all =
      let before = both past mid far r went spoken received up down all.1 in
      let after = both_crossed LinkEvent.Bid past mid s far r went listens before Sound.Quiet Given.Bid (λ e. cc) refl
      (λ awaited pause. before.stand.awaiting awaited Sound.Quiet pause (inl refl)) (bid_settles (kept_by rank past)) in
      record { stand = after.stand; ended = after.ended }
  both (Crosses End ∷ past) s far r (mid, went, listens) spoken received up down all =
      let before = both past mid far r went spoken received up down all.1 in
      let after = both_crossed LinkEvent.End past mid s far r went listens before Sound.Eot Given.End (λ e. cc) refl before.ended (end_settles (kept_by rank past)) in
      record { stand = after.stand; ended = after.ended }
  both (Crosses Text ∷ past) s far r (mid, went, listens) spoken received up down all =
      let before = both past mid far r went spoken received up down all.1 in
      record {
        stand =
            subst (λ x. Stand (Stood Spoken jobs) (Awaits rank past) (things (told (own_of past))) x.sender far r) (sym listens) before.stand;
        ended = λ awaits pause. subst (λ x. Stood Spoken jobs (after_hearing x.sender Sound.Eot pause) r) (sym listens) (before.ended awaits pause);
      }
  both (Others e ∷ past) s far r (mid, went, hears) spoken received up down all =
      let before = both past mid far r went spoken received up down (reply_happened (yields rank) (hearing_of e).reply (told_both past) all) in
      let idle = reply_idle (yields rank) (hearing_of e).reply (told_both past) hears.0 in
      record {
        stand = record {
          settled = λ _. may_yield (sender_after_other (hearing_of e) mid s hears.1) (before.stand.settled hears.0);
          awaiting = λ awaits. absurd (true≢false (sym awaits ∙ idle));
        };
        ended = λ awaits. absurd (true≢false (sym awaits ∙ idle));
      }
    where
      may_yield : MayYield mid.sender s.sender → Stood Spoken jobs mid.sender r → Stood Spoken jobs s.sender r
      may_yield (inl is) p = subst (λ x. Stood Spoken jobs x r) (sym is) p
      may_yield (inr is) p = subst (λ x. Stood Spoken jobs x r) (sym is) (stood_yielded Spoken jobs mid.sender r p)

  -- where it awaits an answer, they will stand so where none comes
  pub record StandsAtLast (s : Sending) (r : Receiving) : Type 0 where
    pub near : Sending
    pub counted : near.counted ≡ s.counted
    pub stood : Stood Spoken jobs near r

  pub stand_at_last : (other : Rank) (others : List Job) (near far : List AtEnd) (p s : Contending) (went : EndWent rank jobs near p) → EndWent other others far s
      → AreConnected rank near far → AllSpoken Spoken rank jobs near p went → StandsAtLast p.sender s.receiver
  stand_at_last other others near far p s went went_other c spoken =
      let b = both near p (others_of far) s.receiver went spoken (receives other others far s went_other) c.up c.down c.in_time in
      elim (cases_Bool (Awaits rank near)) [
        | inl e ↦ record {
          near = after_hearing p.sender Sound.Quiet false;
          counted = (quiet_counts_none p.sender false).1;
          stood = b.stand.awaiting e Sound.Quiet false (inl refl);
        }
        | inr e ↦ record { near = p.sender; counted = refl; stood = b.stand.settled e }
      ]
