-- The receiver's core is where looking back says.
use Rattle.bsc_link.specs.declared.sound.Sound.{Sound}
use Rattle.bsc_link.specs.declared.say.Say.{Say}
use Rattle.bsc_link.specs.declared.wish.Wish.{Wish}
use Rattle.bsc_link.specs.declared.reply.Reply.{Reply}
use Rattle.bsc_history.specs.declared.spoken_turn.SpokenTurn.{SpokenTurn}
use Rattle.bsc_history.specs.History.{History, Plan, is_even}
use Rattle.bsc_history.specs.Known.{gives_up_now}
use Rattle.bsc_history.specs.Got.{brings_block, got}
use Rattle.bsc_history.specs.ReplyRule.{was_bid, last_reply, has_made_rvi, ack_of, answer_to_enq, answer_when_idle, answer_when_bid, replying}
use Rattle.bsc_history.specs.Fate.{sound_of}
use Rattle.bsc_history.specs.Conversation.{Follows}
use Rattle.bsc_link.specs.declared.receiver_place.ReceiverPlace.{ReceiverPlace}
use Rattle.bsc_link.specs.Receiver.{ReceiverState, receiver_hears, receiver_news, line_at, line_when_idle, line_in_transmission, last_reply_again, last_reply_after, due_ack, is_rvi}
use Rattle.bsc_history.specs.Cores.{taken, receiver_after, KeepsReceiver, ReceiverCoreKeeps, ReceiverCoreReplies, ReceiverCoreAccepts, ConversationsAreSpoken}
use Rattle.bsc_history.proofs.Line.{ComesAs, comes}
use Rattle.bsc_history.proofs.Got.{got-brought, got-same}
use Rattle.bsc_history.proofs.Replies.{is_even-next, makes_rvi, later, brings}
use Rattle.bsc_history.proofs.Phases.{Phase, Phase-from_spoken, early-says, brings-block, no-answer}
use Rattle.bsc_history.proofs.Agreement.{said-brought}
use Rattle.std.proofs.Common.{◌≡◌, ◌≢◌, ◌⊎◌, inl, inr, ℕ, ◌+◌, Bool, true, false, not, ◌||◌, if◌then◌else◌, [], ◌∷◌, length, Option, Some, None, refl, sym, ap, ◌∙◌}
use Rattle.std.proofs.lemmas.Bool.{true≢false, cases_Bool}

-- THE REPLY

due_ack-parity : (even : Bool) → due_ack (not even) ≡ (if even then Reply.Ack0 else Reply.Ack1)
due_ack-parity true = refl
due_ack-parity false = refl

due_ack-is : (odd : Bool) (n : ℕ) → odd ≡ not (is_even n) → due_ack odd ≡ ack_of n
due_ack-is odd n e = rw e (due_ack-parity (is_even n))

last_reply_again-is : (odd : Bool) (n : ℕ) (last : Option Reply) (wish : Wish) → odd ≡ not (is_even n) → last_reply_again odd last wish ≡ answer_to_enq n last wish
last_reply_again-is odd n None wish e = refl
last_reply_again-is odd n (Some Reply.Wack) Wish.Hold e = refl
last_reply_again-is odd n (Some Reply.Wack) Wish.Go e = ap Some (due_ack-is odd n e)
last_reply_again-is odd n (Some Reply.Wack) Wish.Turn e = ap Some (due_ack-is odd n e)
last_reply_again-is odd n (Some Reply.Ack0) wish e = refl
last_reply_again-is odd n (Some Reply.Ack1) wish e = refl
last_reply_again-is odd n (Some Reply.Nak) wish e = refl
last_reply_again-is odd n (Some Reply.Rvi) wish e = refl

idle-reply : (arrived : Sound) (refused : Bool) (wish : Wish) → (line_when_idle (taken arrived refused) wish).1.reply ≡ answer_when_idle arrived wish
idle-reply Sound.Enq refused Wish.Hold = refl
idle-reply Sound.Enq refused Wish.Go = refl
idle-reply Sound.Enq refused Wish.Turn = refl
idle-reply Sound.Eot refused wish = refl
idle-reply Sound.Block true wish = refl
idle-reply Sound.Block false wish = refl
idle-reply _ refused wish = refl

next-parity : (past : History) (odd : Bool) → odd ≡ not (is_even (length (got past))) → not odd ≡ not (is_even (length (got past) + 1))
next-parity past odd e = ap not e ∙ ap not (sym (is_even-next (length (got past))))

bid-reply : (past : History) (s : ReceiverState) (arrived : Sound) (refused : Bool) (wish : Wish) → KeepsReceiver past s → (line_in_transmission s (taken arrived refused) wish).1.reply ≡ answer_when_bid past arrived refused wish
bid-reply past s Sound.Block true wish p = refl
bid-reply past s Sound.Block false Wish.Hold p = refl
bid-reply past s Sound.Block false Wish.Go p = ap Some (due_ack-is (not s.odd_accepted) (length (got past) + 1) (next-parity past s.odd_accepted p.parity))
bid-reply past s Sound.Block false Wish.Turn p = rw (p.made, due_ack-is (not s.odd_accepted) (length (got past) + 1) (next-parity past s.odd_accepted p.parity)) refl
bid-reply past s Sound.Enq refused wish p = rw p.last (last_reply_again-is s.odd_accepted (length (got past)) (last_reply past) wish p.parity)
bid-reply past s Sound.Bad refused wish p = refl
bid-reply past s Sound.Ttd refused wish p = refl
bid-reply past s Sound.Abort refused wish p = refl
bid-reply past s Sound.Eot refused wish p = refl
bid-reply past s _ refused wish p = refl

pub reply-is : (past : History) (s : ReceiverState) (arrived : Sound) (refused : Bool) (wish : Wish) → KeepsReceiver past s → (receiver_news s (taken arrived refused) wish).reply ≡ replying past arrived refused wish
reply-is past s arrived refused wish p = elim (cases_Bool (was_bid past)) [
  | inl b ↦ let e : s.place ≡ ReceiverPlace.InTransmission = rw b at p.place in rw (e, b) (bid-reply past s arrived refused wish p)
  | inr b ↦ let e : s.place ≡ ReceiverPlace.Idle = rw b at p.place in rw (e, b) (idle-reply arrived refused wish)
]

-- THE STATE

bid-accepts : (s : ReceiverState) (arrived : Sound) (refused : Bool) (wish : Wish) → (line_in_transmission s (taken arrived refused) wish).1.accepted ≡ brings arrived refused
bid-accepts s Sound.Block true wish = refl
bid-accepts s Sound.Block false wish = refl
bid-accepts s Sound.Enq refused wish = refl
bid-accepts s Sound.Bad refused wish = refl
bid-accepts s Sound.Ttd refused wish = refl
bid-accepts s Sound.Abort refused wish = refl
bid-accepts s Sound.Eot refused wish = refl
bid-accepts s _ refused wish = refl

idle-accepts : (arrived : Sound) (refused : Bool) (wish : Wish) → (line_when_idle (taken arrived refused) wish).1.accepted ≡ false
idle-accepts Sound.Enq refused Wish.Hold = refl
idle-accepts Sound.Enq refused Wish.Go = refl
idle-accepts Sound.Enq refused Wish.Turn = refl
idle-accepts Sound.Eot refused wish = refl
idle-accepts Sound.Block true wish = refl
idle-accepts Sound.Block false wish = refl
idle-accepts _ refused wish = refl

accepts-brought : (s : ReceiverState) (arrived : Sound) (refused : Bool) (wish : Wish) → s.place ≡ ReceiverPlace.InTransmission → (receiver_news s (taken arrived refused) wish).accepted ≡ brings arrived refused
accepts-brought s arrived refused wish e = rw e (bid-accepts s arrived refused wish)

accepts-none : (s : ReceiverState) (arrived : Sound) (refused : Bool) (wish : Wish) (place : ReceiverPlace) → s.place ≡ place → brings arrived refused ≡ false → (receiver_news s (taken arrived refused) wish).accepted ≡ false
accepts-none s arrived refused wish ReceiverPlace.InTransmission e none = accepts-brought s arrived refused wish e ∙ none
accepts-none s arrived refused wish ReceiverPlace.Idle e none = rw e (idle-accepts arrived refused wish)
accepts-none s arrived refused wish ReceiverPlace.Ended e none = rw e refl

pub accepts-is : (past : History) (t : SpokenTurn) (s : ReceiverState) → KeepsReceiver past s → (brings_block t ≡ true → was_bid past ≡ true) → (receiver_news s (taken t.arrived t.refused) t.wish).accepted ≡ brings_block t
accepts-is past t s p bid = elim (cases_Bool (brings_block t)) [
  | inl brought ↦ let e : s.place ≡ ReceiverPlace.InTransmission = rw (bid brought) at p.place in accepts-brought s t.arrived t.refused t.wish e
  | inr unbrought ↦ accepts-none s t.arrived t.refused t.wish s.place refl unbrought ∙ sym unbrought
]

made-is : (reply : Option Reply) (made : Bool) → (is_rvi reply || made) ≡ makes_rvi reply made
made-is None made = refl
made-is (Some Reply.Rvi) made = refl
made-is (Some _) made = refl

last-is : (reply last : Option Reply) → last_reply_after last reply ≡ later reply last
last-is None last = refl
last-is (Some reply) last = refl

-- the place that follows, where no EOT arrives
abbrev place_with : Bool → ReceiverPlace
place_with bid = if bid then ReceiverPlace.InTransmission else ReceiverPlace.Idle

bid-place : (s : ReceiverState) (arrived : Sound) (refused : Bool) (wish : Wish) → arrived ≢ Sound.Eot → (line_in_transmission s (taken arrived refused) wish).0 ≡ place_with (elim arrived [ Sound.Enq ↦ true | _ ↦ true ])
bid-place s Sound.Eot refused wish e = absurd (e refl)
bid-place s Sound.Block true wish e = refl
bid-place s Sound.Block false wish e = refl
bid-place s Sound.Enq refused wish e = refl
bid-place s Sound.Bad refused wish e = refl
bid-place s Sound.Ttd refused wish e = refl
bid-place s Sound.Abort refused wish e = refl
bid-place s _ refused wish e = refl

idle-place : (arrived : Sound) (refused : Bool) (wish : Wish) → arrived ≢ Sound.Eot → (line_when_idle (taken arrived refused) wish).0 ≡ place_with (elim arrived [ Sound.Enq ↦ true | _ ↦ false ])
idle-place Sound.Eot refused wish e = absurd (e refl)
idle-place Sound.Enq refused Wish.Hold e = refl
idle-place Sound.Enq refused Wish.Go e = refl
idle-place Sound.Enq refused Wish.Turn e = refl
idle-place Sound.Block true wish e = refl
idle-place Sound.Block false wish e = refl
idle-place _ refused wish e = refl

place-from : (s : ReceiverState) (arrived : Sound) (refused : Bool) (wish : Wish) (bid : Bool) → s.place ≡ place_with bid → arrived ≢ Sound.Eot → (line_at s (taken arrived refused) wish).0 ≡ place_with (elim arrived [ Sound.Enq ↦ true | _ ↦ bid ])
place-from s arrived refused wish true e never = rw e (bid-place s arrived refused wish never)
place-from s arrived refused wish false e never = rw e (idle-place arrived refused wish never)

parity-after : (past : History) (t : SpokenTurn) (s : ReceiverState) → KeepsReceiver past s → (brings_block t ≡ true → was_bid past ≡ true)
    → (if (receiver_news s (taken t.arrived t.refused) t.wish).accepted then not s.odd_accepted else s.odd_accepted) ≡ not (is_even (length (got (t ∷ past))))
parity-after past t s p bid =
    let accepted = accepts-is past t s p bid in
    elim (cases_Bool (brings_block t)) [
      | inl brought ↦
          let yes_accepted : (receiver_news s (taken t.arrived t.refused) t.wish).accepted ≡ true = accepted ∙ brought in
          rw (yes_accepted, got-brought t past brought) (next-parity past s.odd_accepted p.parity)
      | inr unbrought ↦
          let none_accepted : (receiver_news s (taken t.arrived t.refused) t.wish).accepted ≡ false = accepted ∙ unbrought in
          rw (none_accepted, got-same t past unbrought) p.parity
    ]

-- one turn
receives-step : (past : History) (t : SpokenTurn) (s : ReceiverState) → KeepsReceiver past s → (brings_block t ≡ true → was_bid past ≡ true) → t.arrived ≢ Sound.Eot → t.reply ≡ replying past t.arrived t.refused t.wish
    → KeepsReceiver (t ∷ past) (receiver_hears s (taken t.arrived t.refused) t.wish)
receives-step past t s p bid never replied =
    let reply : (receiver_news s (taken t.arrived t.refused) t.wish).reply ≡ t.reply = reply-is past s t.arrived t.refused t.wish p ∙ sym replied in
    record {
      place = place-from s t.arrived t.refused t.wish (was_bid past) p.place never;
      parity = parity-after past t s p bid;
      last = ap (λ r. last_reply_after s.last_reply r) reply ∙ ap (λ l. last_reply_after l t.reply) p.last ∙ last-is t.reply (last_reply past);
      made = ap (λ r. is_rvi r || s.rvi_made) reply ∙ ap (λ m. is_rvi t.reply || m) p.made ∙ made-is t.reply (has_made_rvi past);
    }

-- a block is brought only after a bid
bid-from_brought : (plan : Plan) (gives_up : Bool) (past : History) (t : SpokenTurn) → Follows plan gives_up past t → Phase past → (t.said ≡ Say.Block) ⊎ (t.said ≡ Say.Again) → was_bid past ≡ true
bid-from_brought plan gives_up past t f (inl p) said =
    absurd (elim (early-says plan gives_up past p.ungranted f.goes_on) [
      | inl bid ↦ let e : t.said ≡ Say.Bid = f.said ∙ bid in elim said [ inl b ↦ cc | inr b ↦ cc ]
      | inr end ↦ let e : t.said ≡ Say.End = f.said ∙ end in elim said [ inl b ↦ cc | inr b ↦ cc ]
    ])
bid-from_brought plan gives_up past t f (inr (inl p)) said = p.bid_for
bid-from_brought plan gives_up past t f (inr (inr p)) said = p.bid_for

pub brought-after_bid : (plan : Plan) (gives_up : Bool) (past : History) (t : SpokenTurn) → Follows plan gives_up past t → Phase past → brings_block t ≡ true → was_bid past ≡ true
brought-after_bid plan gives_up past t f phase brought =
    let arrived : ComesAs (sound_of t.said) Sound.Block = rw (brings-block t.arrived t.refused brought).0 at (comes _ _ f.arrived) in
    bid-from_brought plan gives_up past t f phase (said-brought t.said arrived)

-- an EOT arrives only where one was said
pub eot-said : (said : Say) → ComesAs (sound_of said) Sound.Eot → said ≡ Say.End
eot-said Say.End may = refl
eot-said Say.Block may = absurd (may refl)
eot-said Say.Again may = absurd (may refl)
eot-said Say.Delay may = absurd (may.1 refl)
eot-said Say.Nothing may = cc
eot-said Say.Bid (inl e) = cc
eot-said Say.Bid (inr (inl e)) = cc
eot-said Say.Bid (inr (inr e)) = cc
eot-said Say.Ask (inl e) = cc
eot-said Say.Ask (inr (inl e)) = cc
eot-said Say.Ask (inr (inr e)) = cc

-- WHILE A CONVERSATION GOES ON

pub receiver_core_keeps : ReceiverCoreKeeps
receiver_core_keeps plan [] spoken goes = record { place = refl; parity = refl; last = refl; made = refl }
receiver_core_keeps plan (t ∷ past) spoken goes =
    let f = spoken.0.1 in
    let phase = Phase-from_spoken plan past spoken.1 in
    let never : t.arrived ≢ Sound.Eot = λ e. let said : t.said ≡ Say.End = eot-said t.said (rw e at (comes _ _ f.arrived)) in true≢false (rw said at goes) in
    receives-step past t (receiver_after past) (receiver_core_keeps plan past spoken.1 f.goes_on) (brought-after_bid plan spoken.0.0 past t f phase) never f.replied

pub receiver_core_replies : ReceiverCoreReplies
receiver_core_replies plan past arrived refused wish spoken goes = reply-is past (receiver_after past) arrived refused wish (receiver_core_keeps plan past spoken goes)

pub receiver_core_accepts : ReceiverCoreAccepts
receiver_core_accepts plan t past spoken =
    let f = spoken.0.1 in
    accepts-is past t _ (receiver_core_keeps plan past spoken.1 f.goes_on) (brought-after_bid plan spoken.0.0 past t f (Phase-from_spoken plan past spoken.1))

-- after an EOT there is nothing to hear
pub quiet-after_end : (plan : Plan) (gives_up : Bool) (past : History) (t : SpokenTurn) → Follows plan gives_up past t → t.said ≡ Say.End → t.heard ≡ Sound.Quiet
quiet-after_end plan gives_up past t f said =
    let arrived : ComesAs Sound.Eot t.arrived = rw said at (comes _ _ f.arrived) in
    let silent : t.reply ≡ None = f.replied ∙ no-answer past t.arrived t.refused t.wish arrived in
    rw silent at (comes _ _ f.heard)

pub conversations_are_spoken : ConversationsAreSpoken
conversations_are_spoken plan [] c = tt
conversations_are_spoken plan (t ∷ past) c = (record { goes_on = c.0.goes_on; said = c.0.said; done = quiet-after_end plan (gives_up_now past) past t c.0 }, conversations_are_spoken plan past c.1)
