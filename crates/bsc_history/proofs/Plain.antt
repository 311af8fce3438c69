-- Turns in which the receiver wishes nothing, the sender doesn't pause and no block is refused: what can't be heard and said in them.
use Rattle.std.proofs.Common.{◌≡◌, ◌≢◌, inl, inr, ℕ, ◌+◌, Bool, true, false, ◌&&◌, ◌||◌, if◌then◌else◌, [], ◌∷◌, length, Option, Some, None, refl, ◌∙◌}
use Rattle.std.proofs.lemmas.Bool.{true≢false, false≢true, cases_Bool}
use Rattle.bsc_link.specs.declared.next.Next.{Next}
use Rattle.bsc_link.specs.declared.outcome.Outcome.{Outcome}
use Rattle.bsc_link.specs.declared.reply.Reply.{Reply}
use Rattle.bsc_link.specs.declared.say.Say.{Say}
use Rattle.bsc_link.specs.declared.sound.Sound.{Sound}
use Rattle.bsc_link.specs.declared.wish.Wish.{Wish}
use Rattle.bsc_history.specs.declared.spoken_turn.SpokenTurn.{SpokenTurn}
use Rattle.bsc_history.specs.History.{Plan, History, what_follows, is_even, is_over, is_block_turn}
use Rattle.bsc_history.specs.Known.{known, is_rvi_sound, has_heard_rvi, has_grant, is_progress, is_hold, holds}
use Rattle.bsc_history.specs.Got.{got}
use Rattle.bsc_history.specs.ReplyRule.{was_bid, last_reply, has_made_rvi, answer_to_enq, answer_when_idle, answer_when_bid, replying}
use Rattle.bsc_history.specs.SayingRule.{Nothing, Says, Ends, due_after_progress, due_after_block, due_after_inquiry, due_without_progress, due_when_granted, said_of, saying}
use Rattle.bsc_history.specs.Fate.{sound_of_reply}
use Rattle.bsc_history.specs.Conversation.{Follows, MayBeSpoken}
use Rattle.bsc_history.proofs.Line.{ComesAs, comes}
use Rattle.bsc_history.proofs.Phases.{and-false}
use Rattle.bsc_history.proofs.Replies.{later, makes_rvi}

pub record IsPlain (t : SpokenTurn) : Type 0 where
  pub goes : t.wish ≡ Wish.Go
  pub unpaused : t.pause ≡ false
  pub unrefused : t.refused ≡ false

abbrev pub ArePlain : History → Type 0
ArePlain [] = Unit {0}
ArePlain (t ∷ past) = IsPlain t × ArePlain past

-- ---- The replies.

abbrev pub IsPlainReply : Option Reply → Type 0
IsPlainReply (Some Reply.Wack) = ⊥
IsPlainReply (Some Reply.Rvi) = ⊥
IsPlainReply _ = Unit {0}

plain_ack : (even : Bool) → IsPlainReply (Some (if even then Reply.Ack0 else Reply.Ack1))
plain_ack true = tt
plain_ack false = tt

plain_enq : (n : ℕ) (last : Option Reply) → IsPlainReply last → IsPlainReply (answer_to_enq n last Wish.Go)
plain_enq n None p = tt
plain_enq n (Some Reply.Wack) p = absurd p
plain_enq n (Some Reply.Rvi) p = absurd p
plain_enq n (Some _) p = tt

plain_idle : (arrived : Sound) → IsPlainReply (answer_when_idle arrived Wish.Go)
plain_idle Sound.Enq = tt
plain_idle _ = tt

plain_bid : (past : History) (arrived : Sound) (refused : Bool) → IsPlainReply (last_reply past) → IsPlainReply (answer_when_bid past arrived refused Wish.Go)
plain_bid past Sound.Block true p = tt
plain_bid past Sound.Block false p = plain_ack (is_even (length (got past) + 1))
plain_bid past Sound.Enq refused p = plain_enq (length (got past)) (last_reply past) p
plain_bid past _ refused p = tt

plain_replying : (past : History) (arrived : Sound) (refused : Bool) → IsPlainReply (last_reply past) → IsPlainReply (replying past arrived refused Wish.Go)
plain_replying past arrived refused p =
    elim (was_bid past) as (λ b. IsPlainReply (if b then answer_when_bid past arrived refused Wish.Go else answer_when_idle arrived Wish.Go))
    [ true ↦ plain_bid past arrived refused p | false ↦ plain_idle arrived ]

plain_later : (reply last : Option Reply) → IsPlainReply reply → IsPlainReply last → IsPlainReply (later reply last)
plain_later None last p q = q
plain_later (Some r) last p q = p

made_plain : (reply : Option Reply) (made : Bool) → IsPlainReply reply → made ≡ false → makes_rvi reply made ≡ false
made_plain None made p e = e
made_plain (Some Reply.Rvi) made p e = absurd p
made_plain (Some _) made p e = e

-- ---- What is heard.

abbrev pub IsPlainSound : Sound → Type 0
IsPlainSound Sound.Wack = ⊥
IsPlainSound Sound.Rvi = ⊥
IsPlainSound _ = Unit {0}

plain_heard : (reply : Option Reply) (heard : Sound) → IsPlainReply reply → ComesAs (sound_of_reply reply) heard → IsPlainSound heard
plain_heard None heard p may = rw may tt
plain_heard (Some Reply.Wack) heard p may = absurd p
plain_heard (Some Reply.Rvi) heard p may = absurd p
plain_heard (Some Reply.Ack0) heard p (inl e) = rw e tt
plain_heard (Some Reply.Ack1) heard p (inl e) = rw e tt
plain_heard (Some Reply.Nak) heard p (inl e) = rw e tt
plain_heard (Some r) heard p (inr (inl e)) = rw e tt
plain_heard (Some r) heard p (inr (inr e)) = rw e tt

plain_rvi : (spoke : Bool) (heard : Sound) (noted : Bool) → IsPlainSound heard → noted ≡ false → ((spoke && is_rvi_sound heard) || noted) ≡ false
plain_rvi spoke Sound.Rvi noted p e = absurd p
plain_rvi true _ noted p e = e
plain_rvi false _ noted p e = e

-- neither end asks the other to wait
unasked : (said : Say) (heard : Sound) → said ≢ Say.Delay → IsPlainSound heard → elim heard [ Sound.Wack ↦ true | Sound.Nak ↦ elim said [ Say.Delay ↦ true | _ ↦ false ] | _ ↦ false ] ≡ false
unasked Say.Delay heard g p = absurd (g refl)
unasked said Sound.Wack g p = absurd p
unasked said Sound.Rvi g p = absurd p
unasked Say.Bid Sound.Nak g p = refl
unasked _ _ g p = refl

-- ---- What is said.

undelayed_next : (next : Next) (noted pause : Bool) → pause ≡ false → said_of (due_after_progress next noted pause) ≢ Say.Delay
undelayed_next next noted true e = absurd (true≢false e)
undelayed_next Next.Done noted false e = λ e. cc
undelayed_next Next.NewJob true false e = λ e. cc
undelayed_next Next.NewJob false false e = λ e. cc
undelayed_next Next.Block noted false e = λ e. cc

undelayed_block : (heard : Sound) → said_of (due_after_block heard) ≢ Say.Delay
undelayed_block Sound.Nak = λ e. cc
undelayed_block _ = λ e. cc

undelayed_inquiry : (heard : Sound) → said_of (due_after_inquiry heard) ≢ Say.Delay
undelayed_inquiry Sound.Nak = λ e. cc
undelayed_inquiry Sound.Ack0 = λ e. cc
undelayed_inquiry Sound.Ack1 = λ e. cc
undelayed_inquiry Sound.Rvi = λ e. cc
undelayed_inquiry _ = λ e. cc

undelayed_on : (t : SpokenTurn) (said : Say) → t.said ≡ said → said ≢ Say.Delay → said_of (due_without_progress t) ≢ Say.Delay
undelayed_on t Say.Ask e g = rw e (undelayed_inquiry t.heard)
undelayed_on t Say.Delay e g = absurd (g refl)
undelayed_on t Say.Block e g = rw e (undelayed_block t.heard)
undelayed_on t Say.Again e g = rw e (undelayed_block t.heard)
undelayed_on t _ e g = rw e (λ f. cc)

undelayed_granted : (plan : Plan) (past : History) (t : SpokenTurn) → t.said ≢ Say.Delay → t.pause ≡ false → said_of (due_when_granted plan (t ∷ past)) ≢ Say.Delay
undelayed_granted plan past t g unpaused =
    elim (is_progress past t) as (λ b. said_of (if b then due_after_progress (what_follows plan (known (t ∷ past))) (has_heard_rvi (t ∷ past)) t.pause else due_without_progress t) ≢ Say.Delay)
    [ true ↦ undelayed_next (what_follows plan (known (t ∷ past))) (has_heard_rvi (t ∷ past)) t.pause unpaused | false ↦ undelayed_on t t.said refl g ]

undelayed_hopeful : (plan : Plan) (h : History) → said_of (due_when_granted plan h) ≢ Say.Delay → said_of (if has_grant h then due_when_granted plan h else Says Say.Bid) ≢ Say.Delay
undelayed_hopeful plan h g = elim (has_grant h) as (λ b. said_of (if b then due_when_granted plan h else Says Say.Bid) ≢ Say.Delay) [ true ↦ g | false ↦ λ e. cc ]

undelayed_saying : (plan : Plan) (gives_up : Bool) (h : History) → said_of (due_when_granted plan h) ≢ Say.Delay → saying plan gives_up h ≢ Say.Delay
undelayed_saying plan true h g = elim (is_over h) as (λ b. said_of (if b then Nothing else Ends Outcome.GaveUp) ≢ Say.Delay) [ true ↦ λ e. cc | false ↦ λ e. cc ]
undelayed_saying plan false h g =
    elim (is_over h) as (λ b. said_of (if b then Nothing else (if has_grant h then due_when_granted plan h else Says Say.Bid)) ≢ Say.Delay)
    [ true ↦ λ e. cc | false ↦ undelayed_hopeful plan h g ]

-- ---- The steady state.

-- after a history of plain turns: no RVI, no WACK, no hold and no delay; and a receiver that was bid has replied
pub record Steady (plan : Plan) (h : History) : Type 0 where
  pub unmade : has_made_rvi h ≡ false
  pub unheard : has_heard_rvi h ≡ false
  pub plain : IsPlainReply (last_reply h)
  pub unheld : holds h ≡ 0
  pub undelayed : (gives_up : Bool) → saying plan gives_up h ≢ Say.Delay
  pub answered : was_bid h ≡ true → last_reply h ≢ None

-- an ENQ is answered
enq_some : (n : ℕ) (last : Option Reply) → IsPlainReply last → last ≢ None → answer_to_enq n last Wish.Go ≢ None
enq_some n None p e = absurd (e refl)
enq_some n (Some Reply.Wack) p e = absurd p
enq_some n (Some Reply.Rvi) p e = absurd p
enq_some n (Some _) p e = λ e. cc

enq_answered : (past : History) (refused : Bool) → IsPlainReply (last_reply past) → (was_bid past ≡ true → last_reply past ≢ None) → replying past Sound.Enq refused Wish.Go ≢ None
enq_answered past refused plain answered = elim (cases_Bool (was_bid past)) [
  | inl bid ↦ rw bid (enq_some (length (got past)) (last_reply past) plain (answered bid))
  | inr none ↦ rw none (λ e. cc)
]

later_new : (reply last : Option Reply) → reply ≢ None → later reply last ≢ None
later_new None last e = absurd (e refl)
later_new (Some r) last e = λ f. cc

later_old : (reply last : Option Reply) → last ≢ None → later reply last ≢ None
later_old None last e = e
later_old (Some r) last e = λ f. cc

answered_step : (past : History) (t : SpokenTurn) (arrived : Sound) → t.arrived ≡ arrived → IsPlainReply (last_reply past) → (was_bid past ≡ true → last_reply past ≢ None) → t.reply ≡ replying past arrived t.refused Wish.Go → was_bid (t ∷ past) ≡ true → last_reply (t ∷ past) ≢ None
answered_step past t Sound.Enq e plain answered replied bid = later_new t.reply (last_reply past) (rw replied (enq_answered past t.refused plain answered))
answered_step past t _ e plain answered replied bid = later_old t.reply (last_reply past) (answered (rw e at bid))

unheld_on : (past : History) (t : SpokenTurn) → is_hold past t ≡ false → holds past ≡ 0 → holds (t ∷ past) ≡ 0
unheld_on past t unheld none = rw unheld (elim (is_progress past t) as (λ b. (if b then 0 else holds past) ≡ 0) [ true ↦ refl | false ↦ none ])

-- the reply and what is heard of it are plain, and what was said is no delay
record PlainTalk (t : SpokenTurn) : Type 0 where
  reply : IsPlainReply t.reply
  heard : IsPlainSound t.heard
  said : t.said ≢ Say.Delay

plain_talk : (plan : Plan) (gives_up : Bool) (past : History) (t : SpokenTurn) → Follows plan gives_up past t → IsPlain t → Steady plan past → PlainTalk t
plain_talk plan gives_up past t f p s =
    let reply : IsPlainReply t.reply = rw (f.replied, p.goes) (plain_replying past t.arrived t.refused s.plain) in
    record { reply = reply; heard = plain_heard t.reply t.heard reply (comes _ _ f.heard); said = rw f.said (s.undelayed gives_up) }

-- no turn of such a conversation is a hold
pub unheld_turn : (plan : Plan) (gives_up : Bool) (past : History) (t : SpokenTurn) → Follows plan gives_up past t → IsPlain t → Steady plan past → is_hold past t ≡ false
unheld_turn plan gives_up past t f p s =
    let talk = plain_talk plan gives_up past t f p s in
    and-false _ _ (unasked t.said t.heard talk.said talk.heard)

steady_step : (plan : Plan) (gives_up : Bool) (past : History) (t : SpokenTurn) → Follows plan gives_up past t → IsPlain t → Steady plan past → Steady plan (t ∷ past)
steady_step plan gives_up past t f p s =
    let talk = plain_talk plan gives_up past t f p s in
    let replied : t.reply ≡ replying past t.arrived t.refused Wish.Go = f.replied ∙ rw p.goes refl in
    record {
      unmade = made_plain t.reply (has_made_rvi past) talk.reply s.unmade;
      unheard = plain_rvi (is_block_turn t) t.heard (has_heard_rvi past) talk.heard s.unheard;
      plain = plain_later t.reply (last_reply past) talk.reply s.plain;
      unheld = unheld_on past t (unheld_turn plan gives_up past t f p s) s.unheld;
      undelayed = λ g. undelayed_saying plan g (t ∷ past) (undelayed_granted plan past t talk.said p.unpaused);
      answered = answered_step past t t.arrived refl s.plain s.answered replied;
    }

pub steady : (plan : Plan) (h : History) → MayBeSpoken plan h → ArePlain h → Steady plan h
steady plan [] spoken plain = record {
  unmade = refl;
  unheard = refl;
  plain = tt;
  unheld = refl;
  undelayed = λ g. undelayed_saying plan g [] (λ e. cc);
  answered = λ e. absurd (false≢true e);
}
steady plan (t ∷ past) spoken plain = steady_step plan spoken.0.0 past t spoken.0.1 plain.0 (steady plan past spoken.1 plain.1)
