-- The three phases of a conversation, and that each turn leads from one to another.
use Rattle.bsc_link.specs.declared.sound.Sound.{Sound}
use Rattle.bsc_link.specs.declared.say.Say.{Say}
use Rattle.bsc_link.specs.declared.next.Next.{Next}
use Rattle.bsc_link.specs.declared.wish.Wish.{Wish}
use Rattle.bsc_link.specs.declared.reply.Reply.{Reply}
use Rattle.bsc_history.specs.declared.spoken_turn.SpokenTurn.{SpokenTurn}
use Rattle.bsc_history.specs.History.{History, Plan, what_follows, is_block_turn, is_over}
use Rattle.bsc_history.specs.Known.{is_rvi_sound, has_heard_rvi, acknowledges, known, is_grant, has_grant, is_progress}
use Rattle.bsc_history.specs.Got.{brings_block, got}
use Rattle.bsc_history.specs.ReplyRule.{was_bid, last_reply, has_made_rvi, answer_to_block, answer_to_enq, answer_when_idle, answer_when_bid, replying}
use Rattle.bsc_history.specs.SayingRule.{Says, due_after_progress, due_after_delay, due_after_block, due_after_inquiry, due_without_progress, due_when_granted, said_of, saying}
use Rattle.bsc_history.specs.Fate.{sound_of, sound_of_reply}
use Rattle.bsc_history.specs.Conversation.{Follows, MayBeSpoken}
use Rattle.bsc_history.proofs.Line.{ComesAs, comes}
use Rattle.bsc_history.proofs.Got.{got-brought, got-same}
use Rattle.bsc_history.proofs.Replies.{Calm, acknowledges-calm, Calm-answer, Calm-later, makes_rvi-calm, noted-stays, later, makes_rvi, brings, Fresh, Fresh-answer, Fresh-enq, Fresh-heard, Answered, Unanswered}
use Rattle.std.proofs.Common.{length, ap, ◌≡◌, ◌≢◌, ◌⊎◌, inl, inr, ℕ, ◌+◌, Bool, true, false, ◌&&◌, ◌||◌, if◌then◌else◌, [], ◌∷◌, Option, Some, None, refl, sym, ◌∙◌}
use Rattle.std.proofs.lemmas.Bool.{true≢false, false≢true, cases_Bool}
use Rattle.bsc_link.proofs.Rvi.{or-true}

-- before the grant
abbrev pub IsEarly : Option Reply → Type 0
IsEarly None = Unit {0}
IsEarly (Some Reply.Ack0) = Unit {0}
IsEarly (Some Reply.Wack) = Unit {0}
IsEarly _ = ⊥

pub record Early (h : History) : Type 0 where
  pub ungranted : has_grant h ≡ false
  pub none_known : known h ≡ 0
  pub none_arrived : length (got h) ≡ 0
  pub none_made : has_made_rvi h ≡ false
  pub none_heard : has_heard_rvi h ≡ false
  pub early : IsEarly (last_reply h)

-- each block that arrived is known
pub record Level (h : History) : Type 0 where
  pub granted : has_grant h ≡ true
  pub bid_for : was_bid h ≡ true
  pub level : length (got h) ≡ known h
  pub rvi : has_made_rvi h ≡ has_heard_rvi h
  pub calm : Calm (known h) (has_heard_rvi h) (last_reply h)

-- what a sender may say that waits for an answer
abbrev pub IsWaiting : Say → Type 0
IsWaiting Say.Ask = Unit {0}
IsWaiting Say.End = Unit {0}
IsWaiting Say.Nothing = Unit {0}
IsWaiting _ = ⊥

-- one block arrived that isn't known, and the sender asks
pub record Ahead (h : History) : Type 0 where
  pub granted : has_grant h ≡ true
  pub bid_for : was_bid h ≡ true
  pub ahead : length (got h) ≡ known h + 1
  pub fresh : Fresh (known h + 1) (has_made_rvi h) (has_heard_rvi h) (last_reply h)
  pub waits : (plan : Plan) (gives_up : Bool) → IsWaiting (saying plan gives_up h)

abbrev pub Phase : History → Type 0
Phase h = Early h ⊎ (Level h ⊎ Ahead h)

abbrev pub turn : Say → Sound → Bool → Option Reply → Sound → Wish → Bool → SpokenTurn
turn said arrived refused reply heard wish pause = record { said = said; arrived = arrived; refused = refused; reply = reply; heard = heard; wish = wish; pause = pause }

-- BOOLEANS

pub and-false : (a b : Bool) → b ≡ false → (a && b) ≡ false
and-false true b e = e
and-false false b e = refl

pub or-false : (a b : Bool) → (a || b) ≡ false → b ≡ false
or-false true b e = absurd (true≢false e)
or-false false b e = e

bid_for-stays : (arrived : Sound) (b : Bool) → b ≡ true → elim arrived [ Sound.Enq ↦ true | _ ↦ b ] ≡ true
bid_for-stays Sound.Enq b e = refl
bid_for-stays _ b e = e

-- LEVEL, and no block is brought

pub level-calm : (past : History) (t : SpokenTurn) → Level past → brings_block t ≡ false → t.reply ≡ replying past t.arrived t.refused t.wish → ComesAs (sound_of_reply t.reply) t.heard → Level (t ∷ past)
level-calm past t p unbrought replied heard =
    let k = known past in
    let noted = has_heard_rvi past in
    let calm : Calm k noted t.reply = rw (replied, p.bid_for) (Calm-answer k noted past t.arrived t.refused t.wish p.calm unbrought) in
    let none : acknowledges (k + 1) noted t.heard ≡ false = acknowledges-calm k noted t.reply t.heard calm heard in
    let uncounted : (is_block_turn t && acknowledges (k + 1) noted t.heard) ≡ false = and-false _ _ none in
    let same_known : known (t ∷ past) ≡ k = rw uncounted refl in
    let same_noted : has_heard_rvi (t ∷ past) ≡ noted = noted-stays (k + 1) noted (is_block_turn t) t.heard none in
    record {
      granted = or-true _ _ p.granted;
      bid_for = bid_for-stays t.arrived _ p.bid_for;
      level = got-same t past unbrought ∙ p.level ∙ sym same_known;
      rvi = rw same_noted (makes_rvi-calm k noted (has_made_rvi past) t.reply calm p.rvi);
      calm = rw (same_noted, same_known) (Calm-later k noted t.reply (last_reply past) calm p.calm);
    }

-- LEVEL, and a block is brought

pub brings-block : (arrived : Sound) (refused : Bool) → brings arrived refused ≡ true → (arrived ≡ Sound.Block) × (refused ≡ false)
brings-block Sound.Block true e = absurd (false≢true e)
brings-block Sound.Block false e = (refl, refl)
brings-block _ refused e = absurd (false≢true e)

is_block_turn-brought : (t : SpokenTurn) (said : Say) → t.said ≡ said → ComesAs (sound_of said) Sound.Block → is_block_turn t ≡ true
is_block_turn-brought t Say.Block e may = rw e refl
is_block_turn-brought t Say.Again e may = rw e refl
is_block_turn-brought t Say.Ask e may = rw e refl
is_block_turn-brought t Say.Delay e may = absurd (may.0 refl)
is_block_turn-brought t Say.Bid e (inl x) = cc
is_block_turn-brought t Say.Bid e (inr (inl x)) = cc
is_block_turn-brought t Say.Bid e (inr (inr x)) = cc
is_block_turn-brought t Say.End e (inl x) = cc
is_block_turn-brought t Say.End e (inr (inl x)) = cc
is_block_turn-brought t Say.End e (inr (inr x)) = cc
is_block_turn-brought t Say.Nothing e may = cc

unacknowledged : (n : ℕ) (noted : Bool) (heard : Sound) → Unanswered heard → acknowledges n noted heard ≡ false
unacknowledged n noted Sound.Wack u = refl
unacknowledged n noted Sound.Quiet u = refl
unacknowledged n noted Sound.Noise u = refl
unacknowledged n noted _ u = absurd u

waits-on : (plan : Plan) (gives_up : Bool) (past : History) (said : Say) (arrived : Sound) (refused : Bool) (reply : Option Reply) (heard : Sound) (wish : Wish) (pause : Bool)
    → is_block_turn (turn said arrived refused reply heard wish pause) ≡ true → Unanswered heard → has_grant past ≡ true → IsWaiting (saying plan gives_up (turn said arrived refused reply heard wish pause ∷ past))
waits-on plan true past Say.Block arrived refused reply Sound.Wack wish pause b u g = tt
waits-on plan true past Say.Block arrived refused reply Sound.Quiet wish pause b u g = tt
waits-on plan true past Say.Block arrived refused reply Sound.Noise wish pause b u g = tt
waits-on plan true past Say.Again arrived refused reply Sound.Wack wish pause b u g = tt
waits-on plan true past Say.Again arrived refused reply Sound.Quiet wish pause b u g = tt
waits-on plan true past Say.Again arrived refused reply Sound.Noise wish pause b u g = tt
waits-on plan true past Say.Ask arrived refused reply Sound.Wack wish pause b u g = tt
waits-on plan true past Say.Ask arrived refused reply Sound.Quiet wish pause b u g = tt
waits-on plan true past Say.Ask arrived refused reply Sound.Noise wish pause b u g = tt
waits-on plan false past Say.Block arrived refused reply Sound.Wack wish pause b u g = rw g tt
waits-on plan false past Say.Block arrived refused reply Sound.Quiet wish pause b u g = rw g tt
waits-on plan false past Say.Block arrived refused reply Sound.Noise wish pause b u g = rw g tt
waits-on plan false past Say.Again arrived refused reply Sound.Wack wish pause b u g = rw g tt
waits-on plan false past Say.Again arrived refused reply Sound.Quiet wish pause b u g = rw g tt
waits-on plan false past Say.Again arrived refused reply Sound.Noise wish pause b u g = rw g tt
waits-on plan false past Say.Ask arrived refused reply Sound.Wack wish pause b u g = rw g tt
waits-on plan false past Say.Ask arrived refused reply Sound.Quiet wish pause b u g = rw g tt
waits-on plan false past Say.Ask arrived refused reply Sound.Noise wish pause b u g = rw g tt
waits-on plan gives_up past Say.Bid arrived refused reply heard wish pause b u g = absurd (false≢true b)
waits-on plan gives_up past Say.Delay arrived refused reply heard wish pause b u g = absurd (false≢true b)
waits-on plan gives_up past Say.End arrived refused reply heard wish pause b u g = absurd (false≢true b)
waits-on plan gives_up past Say.Nothing arrived refused reply heard wish pause b u g = absurd (false≢true b)
waits-on plan gives_up past _ arrived refused reply _ wish pause b u g = absurd u

not_rvi : (heard : Sound) → Unanswered heard → is_rvi_sound heard ≡ false
not_rvi Sound.Wack u = refl
not_rvi Sound.Quiet u = refl
not_rvi Sound.Noise u = refl
not_rvi _ u = absurd u

-- after a block turn, whose reply is fresh, the sender knows or waits
after-fresh : (past : History) (t : SpokenTurn) → has_grant past ≡ true → was_bid (t ∷ past) ≡ true → length (got (t ∷ past)) ≡ known past + 1 → is_block_turn t ≡ true
    → Fresh (known past + 1) (has_made_rvi (t ∷ past)) (has_heard_rvi past) (last_reply (t ∷ past)) → (Answered (known past + 1) (has_made_rvi (t ∷ past)) (has_heard_rvi past) (last_reply (t ∷ past)) t.heard ⊎ Unanswered t.heard)
    → Level (t ∷ past) ⊎ Ahead (t ∷ past)
after-fresh past t granted bid_for brought spoke fresh (inl a) =
    let k = known past in
    let noted = has_heard_rvi past in
    let same_known : known (t ∷ past) ≡ k + 1 = rw (spoke, a.acknowledged) refl in
    let same_noted : has_heard_rvi (t ∷ past) ≡ (is_rvi_sound t.heard || noted) = rw spoke refl in
    inl (record {
      granted = or-true _ _ granted;
      bid_for = bid_for;
      level = brought ∙ sym same_known;
      rvi = a.rvi ∙ sym same_noted;
      calm = rw (same_known, same_noted) a.calm;
    })
after-fresh past t granted bid_for brought spoke fresh (inr u) =
    let k = known past in
    let noted = has_heard_rvi past in
    let same_known : known (t ∷ past) ≡ k = rw (spoke, unacknowledged (k + 1) noted t.heard u) refl in
    let same_noted : has_heard_rvi (t ∷ past) ≡ noted = rw (spoke, not_rvi t.heard u) refl in
    inr (record {
      granted = or-true _ _ granted;
      bid_for = bid_for;
      ahead = rw same_known brought;
      fresh = rw (same_known, same_noted) fresh;
      waits = λ plan gives_up. waits-on plan gives_up past t.said t.arrived t.refused t.reply t.heard t.wish t.pause spoke u granted;
    })

level-brought : (past : History) (t : SpokenTurn) → Level past → brings_block t ≡ true → ComesAs (sound_of t.said) t.arrived → t.reply ≡ replying past t.arrived t.refused t.wish → ComesAs (sound_of_reply t.reply) t.heard → Level (t ∷ past) ⊎ Ahead (t ∷ past)
level-brought past t p brought arrived replied heard =
    let k = known past in
    let block = brings-block t.arrived t.refused brought in
    let spoke : is_block_turn t ≡ true = is_block_turn-brought t t.said refl (rw block.0 at arrived) in
    let reply : t.reply ≡ Some (answer_to_block (k + 1) (has_made_rvi past) t.wish) = replied ∙ rw (p.bid_for, block.0, block.1, p.level) refl in
    let fresh : Fresh (k + 1) (makes_rvi t.reply (has_made_rvi past)) (has_heard_rvi past) t.reply = rw reply (Fresh-answer (k + 1) (has_made_rvi past) (has_heard_rvi past) t.wish p.rvi) in
    let same : last_reply (t ∷ past) ≡ t.reply = rw reply refl in
    let fresh_last : Fresh (k + 1) (has_made_rvi (t ∷ past)) (has_heard_rvi past) (last_reply (t ∷ past)) = rw same fresh in
    after-fresh past t p.granted (bid_for-stays t.arrived _ p.bid_for) (got-brought t past brought ∙ ap (λ n. n + 1) p.level) spoke fresh_last
    (rw same (Fresh-heard (k + 1) _ (has_heard_rvi past) t.reply t.heard fresh heard))

-- AHEAD

later-fresh : (n : ℕ) (made noted : Bool) (reply last : Option Reply) → Fresh n made noted reply → later reply last ≡ reply
later-fresh n made noted None last fresh = absurd fresh
later-fresh n made noted (Some r) last fresh = refl

-- the inquiry arrived
ahead-asked : (past : History) (t : SpokenTurn) → Ahead past → t.said ≡ Say.Ask → t.arrived ≡ Sound.Enq → t.reply ≡ replying past t.arrived t.refused t.wish → ComesAs (sound_of_reply t.reply) t.heard → Level (t ∷ past) ⊎ Ahead (t ∷ past)
ahead-asked past t p said arrived replied heard =
    let k = known past in
    let made = has_made_rvi past in
    let noted = has_heard_rvi past in
    let last = last_reply past in
    let reply : t.reply ≡ answer_to_enq (k + 1) last t.wish = replied ∙ rw (p.bid_for, arrived, p.ahead) refl in
    let fresh : Fresh (k + 1) (makes_rvi t.reply made) noted t.reply = rw reply (Fresh-enq (k + 1) made noted last t.wish p.fresh) in
    let same : last_reply (t ∷ past) ≡ t.reply = later-fresh (k + 1) _ noted t.reply last fresh in
    let spoke : is_block_turn t ≡ true = rw said refl in
    let unbrought : brings_block t ≡ false = rw arrived refl in
    let fresh_last : Fresh (k + 1) (has_made_rvi (t ∷ past)) noted (last_reply (t ∷ past)) = rw same fresh in
    after-fresh past t p.granted (bid_for-stays t.arrived _ p.bid_for) (got-same t past unbrought ∙ p.ahead) spoke fresh_last
    (rw same (Fresh-heard (k + 1) _ noted t.reply t.heard fresh heard))

-- it didn't arrive
ahead-silent : (past : History) (t : SpokenTurn) → Ahead past → t.said ≡ Say.Ask → brings_block t ≡ false → t.reply ≡ None → ComesAs (sound_of_reply t.reply) t.heard → Level (t ∷ past) ⊎ Ahead (t ∷ past)
ahead-silent past t p said unbrought reply may =
    let k = known past in
    let noted = has_heard_rvi past in
    let heard : t.heard ≡ Sound.Quiet = rw reply at may in
    let spoke : is_block_turn t ≡ true = rw said refl in
    let fresh : Fresh (k + 1) (has_made_rvi (t ∷ past)) noted (last_reply (t ∷ past)) = rw reply p.fresh in
    after-fresh past t p.granted (bid_for-stays t.arrived _ p.bid_for) (got-same t past unbrought ∙ p.ahead) spoke fresh (inr (rw heard tt))

-- the sender gave up
ahead-ended : (past : History) (t : SpokenTurn) → Ahead past → t.said ≡ Say.End → brings_block t ≡ false → t.reply ≡ None → Ahead (t ∷ past)
ahead-ended past t p said unbrought reply =
    record {
      granted = or-true _ _ p.granted;
      bid_for = bid_for-stays t.arrived _ p.bid_for;
      ahead = got-same t past unbrought ∙ p.ahead ∙ rw said refl;
      fresh = rw (reply, said) p.fresh;
      waits = λ plan gives_up. rw said tt;
    }

ahead-step : (past : History) (t : SpokenTurn) (said : Say) → Ahead past → t.said ≡ said → IsWaiting said → said ≢ Say.Nothing → ComesAs (sound_of said) t.arrived → t.reply ≡ replying past t.arrived t.refused t.wish → ComesAs (sound_of_reply t.reply) t.heard → Level (t ∷ past) ⊎ Ahead (t ∷ past)
ahead-step past t Say.Ask p said w spoke (inl e) replied heard = ahead-asked past t p said e replied heard
ahead-step past t Say.Ask p said w spoke (inr (inl e)) replied heard = ahead-silent past t p said (rw e refl) (replied ∙ rw (p.bid_for, e) refl) heard
ahead-step past t Say.Ask p said w spoke (inr (inr e)) replied heard = ahead-silent past t p said (rw e refl) (replied ∙ rw (p.bid_for, e) refl) heard
ahead-step past t Say.End p said w spoke (inl e) replied heard = inr (ahead-ended past t p said (rw e refl) (replied ∙ rw (p.bid_for, e) refl))
ahead-step past t Say.End p said w spoke (inr (inl e)) replied heard = inr (ahead-ended past t p said (rw e refl) (replied ∙ rw (p.bid_for, e) refl))
ahead-step past t Say.End p said w spoke (inr (inr e)) replied heard = inr (ahead-ended past t p said (rw e refl) (replied ∙ rw (p.bid_for, e) refl))
ahead-step past t Say.Nothing p said w spoke may replied heard = absurd (spoke refl)
ahead-step past t _ p said w spoke may replied heard = absurd w

-- WHILE A CONVERSATION GOES ON, SOMETHING IS SAID

next-speaks : (next : Next) (noted pause : Bool) → said_of (due_after_progress next noted pause) ≢ Say.Nothing
next-speaks Next.Done noted pause = λ e. cc
next-speaks Next.NewJob true pause = λ e. cc
next-speaks Next.NewJob false true = λ e. cc
next-speaks Next.NewJob false false = λ e. cc
next-speaks Next.Block noted true = λ e. cc
next-speaks Next.Block noted false = λ e. cc

block-speaks : (heard : Sound) → said_of (due_after_block heard) ≢ Say.Nothing
block-speaks Sound.Nak = λ e. cc
block-speaks _ = λ e. cc

ask-speaks : (heard : Sound) → said_of (due_after_inquiry heard) ≢ Say.Nothing
ask-speaks Sound.Nak = λ e. cc
ask-speaks _ = λ e. cc

delay-speaks : (heard : Sound) (pause : Bool) → said_of (due_after_delay heard pause) ≢ Say.Nothing
delay-speaks Sound.Nak true = λ e. cc
delay-speaks Sound.Nak false = λ e. cc
delay-speaks _ pause = λ e. cc

on-speaks : (t : SpokenTurn) (said : Say) → t.said ≡ said → said_of (due_without_progress t) ≢ Say.Nothing
on-speaks t Say.Ask e = rw e (ask-speaks t.heard)
on-speaks t Say.Delay e = rw e (delay-speaks t.heard t.pause)
on-speaks t Say.Block e = rw e (block-speaks t.heard)
on-speaks t Say.Again e = rw e (block-speaks t.heard)
on-speaks t _ e = rw e (λ f. cc)

granted-speaks : (plan : Plan) (past : History) → said_of (due_when_granted plan past) ≢ Say.Nothing
granted-speaks plan [] = λ e. cc
granted-speaks plan (t ∷ past) =
    elim (is_progress past t) as (λ b. said_of (if b then due_after_progress (what_follows plan (known (t ∷ past))) (has_heard_rvi (t ∷ past)) t.pause else due_without_progress t) ≢ Say.Nothing)
    [ true ↦ next-speaks (what_follows plan (known (t ∷ past))) (has_heard_rvi (t ∷ past)) t.pause | false ↦ on-speaks t t.said refl ]

pub saying-speaks : (plan : Plan) (gives_up : Bool) (past : History) → is_over past ≡ false → saying plan gives_up past ≢ Say.Nothing
saying-speaks plan true past e = rw e (λ e. cc)
saying-speaks plan false past e =
    rw e (elim (has_grant past) as (λ b. said_of (if b then due_when_granted plan past else Says Say.Bid) ≢ Say.Nothing) [ true ↦ granted-speaks plan past | false ↦ λ e. cc ])

-- EARLY

pub early-says : (plan : Plan) (gives_up : Bool) (past : History) → has_grant past ≡ false → is_over past ≡ false → (saying plan gives_up past ≡ Say.Bid) ⊎ (saying plan gives_up past ≡ Say.End)
early-says plan true past none goes = inr (rw goes refl)
early-says plan false past none goes = inl (rw (goes, none) refl)

pub no-answer : (past : History) (arrived : Sound) (refused : Bool) (wish : Wish) → (arrived ≡ Sound.Eot) ⊎ ((arrived ≡ Sound.Quiet) ⊎ (arrived ≡ Sound.Noise)) → replying past arrived refused wish ≡ None
no-answer past arrived refused wish (inl e) = rw e (elim (was_bid past) as (λ b. (if b then answer_when_bid past Sound.Eot refused wish else answer_when_idle Sound.Eot wish) ≡ None) [ true ↦ refl | false ↦ refl ])
no-answer past arrived refused wish (inr (inl e)) = rw e (elim (was_bid past) as (λ b. (if b then answer_when_bid past Sound.Quiet refused wish else answer_when_idle Sound.Quiet wish) ≡ None) [ true ↦ refl | false ↦ refl ])
no-answer past arrived refused wish (inr (inr e)) = rw e (elim (was_bid past) as (λ b. (if b then answer_when_bid past Sound.Noise refused wish else answer_when_idle Sound.Noise wish) ≡ None) [ true ↦ refl | false ↦ refl ])

IsEarly-enq : (last : Option Reply) (wish : Wish) → IsEarly last → IsEarly (answer_to_enq 0 last wish)
IsEarly-enq None wish e = tt
IsEarly-enq (Some Reply.Ack0) wish e = tt
IsEarly-enq (Some Reply.Wack) Wish.Hold e = tt
IsEarly-enq (Some Reply.Wack) Wish.Go e = tt
IsEarly-enq (Some Reply.Wack) Wish.Turn e = tt
IsEarly-enq (Some _) wish e = absurd e

IsEarly-bid : (wish : Wish) → IsEarly (answer_when_idle Sound.Enq wish)
IsEarly-bid Wish.Hold = tt
IsEarly-bid _ = tt

IsEarly-replying : (past : History) (refused : Bool) (wish : Wish) → length (got past) ≡ 0 → IsEarly (last_reply past) → IsEarly (replying past Sound.Enq refused wish)
IsEarly-replying past refused wish none early =
    rw none (elim (was_bid past) as (λ b. IsEarly (if b then answer_to_enq 0 (last_reply past) wish else answer_when_idle Sound.Enq wish))
    [ true ↦ IsEarly-enq (last_reply past) wish early | false ↦ IsEarly-bid wish ])

IsEarly-later : (reply last : Option Reply) → IsEarly reply → IsEarly last → IsEarly (later reply last)
IsEarly-later None last new old = old
IsEarly-later (Some r) last new old = new

makes_rvi-early : (reply : Option Reply) (made : Bool) → IsEarly reply → made ≡ false → makes_rvi reply made ≡ false
makes_rvi-early None made early e = e
makes_rvi-early (Some Reply.Ack0) made early e = e
makes_rvi-early (Some Reply.Wack) made early e = e
makes_rvi-early (Some _) made early e = absurd early

stays-early : (past : History) (t : SpokenTurn) → Early past → is_grant t ≡ false → is_block_turn t ≡ false → brings_block t ≡ false → IsEarly t.reply → Early (t ∷ past)
stays-early past t p ungranted unspoken unbrought early = record {
  ungranted = rw (ungranted, p.ungranted) refl;
  none_known = rw unspoken p.none_known;
  none_arrived = got-same t past unbrought ∙ p.none_arrived;
  none_made = makes_rvi-early t.reply (has_made_rvi past) early p.none_made;
  none_heard = rw unspoken p.none_heard;
  early = IsEarly-later t.reply (last_reply past) early p.early;
}

-- what a bidder may hear
abbrev pub HearsBid : Option Reply → Sound → Type 0
HearsBid reply heard = ((reply ≡ Some Reply.Ack0) × (heard ≡ Sound.Ack0)) ⊎ ((heard ≡ Sound.Wack) ⊎ ((heard ≡ Sound.Quiet) ⊎ (heard ≡ Sound.Noise)))

hears-bid : (reply : Option Reply) (heard : Sound) → IsEarly reply → ComesAs (sound_of_reply reply) heard → HearsBid reply heard
hears-bid None heard early may = inr (inr (inl may))
hears-bid (Some Reply.Ack0) heard early (inl e) = inl (refl, e)
hears-bid (Some Reply.Wack) heard early (inl e) = inr (inl e)
hears-bid (Some Reply.Ack0) heard early (inr e) = inr (inr e)
hears-bid (Some Reply.Wack) heard early (inr e) = inr (inr e)
hears-bid (Some _) heard early may = absurd early

early-bid : (past : History) (t : SpokenTurn) → Early past → t.said ≡ Say.Bid → (t.arrived ≡ Sound.Enq) ⊎ (t.reply ≡ None) → brings_block t ≡ false → IsEarly t.reply → HearsBid t.reply t.heard → Phase (t ∷ past)
early-bid past t p said (inl asked) unbrought early (inl h) = inr (inl (record {
  granted = rw (said, h.1) refl;
  bid_for = rw asked refl;
  level = got-same t past unbrought ∙ p.none_arrived ∙ sym p.none_known ∙ rw said refl;
  rvi = rw (h.0, said) (p.none_made ∙ sym p.none_heard);
  calm = rw (h.0, said, p.none_known) refl;
}))
early-bid past t p said (inr silent) unbrought early (inl h) = cc
early-bid past t p said asked unbrought early (inr (inl h)) = inl (stays-early past t p (rw (said, h) refl) (rw said refl) unbrought early)
early-bid past t p said asked unbrought early (inr (inr (inl h))) = inl (stays-early past t p (rw (said, h) refl) (rw said refl) unbrought early)
early-bid past t p said asked unbrought early (inr (inr (inr h))) = inl (stays-early past t p (rw (said, h) refl) (rw said refl) unbrought early)

early-bid-arrives : (past : History) (t : SpokenTurn) → Early past → t.said ≡ Say.Bid → ComesAs Sound.Enq t.arrived → t.reply ≡ replying past t.arrived t.refused t.wish → ComesAs (sound_of_reply t.reply) t.heard → Phase (t ∷ past)
early-bid-arrives past t p said (inl e) replied heard =
    let reply : t.reply ≡ replying past Sound.Enq t.refused t.wish = replied ∙ rw e refl in
    let early : IsEarly t.reply = rw reply (IsEarly-replying past t.refused t.wish p.none_arrived p.early) in
    early-bid past t p said (inl e) (rw e refl) early (hears-bid t.reply t.heard early heard)
early-bid-arrives past t p said (inr e) replied heard =
    let silent : t.reply ≡ None = replied ∙ no-answer past t.arrived t.refused t.wish (inr e) in
    let early : IsEarly t.reply = rw silent tt in
    let unbrought : brings_block t ≡ false = elim e [ inl q ↦ rw q refl | inr q ↦ rw q refl ] in
    early-bid past t p said (inr silent) unbrought early (hears-bid t.reply t.heard early heard)

early-end : (past : History) (t : SpokenTurn) → Early past → t.said ≡ Say.End → ComesAs Sound.Eot t.arrived → t.reply ≡ replying past t.arrived t.refused t.wish → Phase (t ∷ past)
early-end past t p said arrived replied =
    let silent : t.reply ≡ None = replied ∙ no-answer past t.arrived t.refused t.wish arrived in
    let unbrought : brings_block t ≡ false = elim arrived [ inl q ↦ rw q refl | inr (inl q) ↦ rw q refl | inr (inr q) ↦ rw q refl ] in
    inl (stays-early past t p (rw said refl) (rw said refl) unbrought (rw silent tt))

early-step : (past : History) (t : SpokenTurn) → Early past → (t.said ≡ Say.Bid) ⊎ (t.said ≡ Say.End) → ComesAs (sound_of t.said) t.arrived → t.reply ≡ replying past t.arrived t.refused t.wish → ComesAs (sound_of_reply t.reply) t.heard → Phase (t ∷ past)
early-step past t p (inl said) arrived replied heard = early-bid-arrives past t p said (rw said at arrived) replied heard
early-step past t p (inr said) arrived replied heard = early-end past t p said (rw said at arrived) replied

-- LEVEL

level-step : (past : History) (t : SpokenTurn) → Level past → ComesAs (sound_of t.said) t.arrived → t.reply ≡ replying past t.arrived t.refused t.wish → ComesAs (sound_of_reply t.reply) t.heard → Level (t ∷ past) ⊎ Ahead (t ∷ past)
level-step past t p arrived replied heard =
    elim (cases_Bool (brings_block t)) [
      | inl brought ↦ level-brought past t p brought arrived replied heard
      | inr unbrought ↦ inl (level-calm past t p unbrought replied heard)
    ]

-- EACH TURN, AND EACH CONVERSATION

step : (plan : Plan) (gives_up : Bool) (past : History) (t : SpokenTurn) → Follows plan gives_up past t → Phase past → Phase (t ∷ past)
step plan gives_up past t f (inl p) =
    let said : (t.said ≡ Say.Bid) ⊎ (t.said ≡ Say.End) = rw f.said (early-says plan gives_up past p.ungranted f.goes_on) in
    early-step past t p said (comes _ _ f.arrived) f.replied (comes _ _ f.heard)
step plan gives_up past t f (inr (inl p)) = inr (level-step past t p (comes _ _ f.arrived) f.replied (comes _ _ f.heard))
step plan gives_up past t f (inr (inr p)) =
    let waits : IsWaiting t.said = rw f.said (p.waits plan gives_up) in
    let spoke : t.said ≢ Say.Nothing = rw f.said (saying-speaks plan gives_up past f.goes_on) in
    inr (ahead-step past t t.said p refl waits spoke (comes _ _ f.arrived) f.replied (comes _ _ f.heard))

pub Phase-from_spoken : (plan : Plan) (h : History) → MayBeSpoken plan h → Phase h
Phase-from_spoken plan [] spoken = inl (record { ungranted = refl; none_known = refl; none_arrived = refl; none_made = refl; none_heard = refl; early = tt })
Phase-from_spoken plan (t ∷ past) spoken = step plan spoken.0.0 past t spoken.0.1 (Phase-from_spoken plan past spoken.1)
