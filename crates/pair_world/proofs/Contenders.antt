-- A contender is where looking back says.
use Rattle.std.proofs.Common.{◌≡◌, ◌≢◌, inl, inr, Bool, true, false, not, if◌then◌else◌, [], ◌∷◌, Option, Some, None, refl, sym, ap, ◌∙◌, subst}
use Rattle.std.proofs.lemmas.Bool.{false≢true, cases_Bool}
use Rattle.std.proofs.Math.Bool.{and-true}
use Rattle.bsc_link.specs.declared.sound.Sound.{Sound}
use Rattle.bsc_link.specs.declared.say.Say.{Say}
use Rattle.bsc_link.specs.declared.wish.Wish.{Wish}
use Rattle.bsc_link.specs.declared.reply.Reply.{Reply}
use Rattle.bsc_link.specs.declared.rank.Rank.{Rank}
use Rattle.bsc_link.specs.declared.contender_place.ContenderPlace.{ContenderPlace}
use Rattle.bsc_link.specs.Contender.{ContenderState, after_bid, after_grant, after_enq, takes, takes_enq, after_own_end, after_other_end}
use Rattle.rje_station.specs.Station.{contender_said, contender_answered}
use Rattle.bsc_history.specs.declared.spoken_turn.SpokenTurn.{SpokenTurn}
use Rattle.bsc_history.specs.History.{History, Plan, is_over, is_last}
use Rattle.bsc_history.specs.Known.{has_grant}
use Rattle.bsc_history.specs.ReplyRule.{was_bid}
use Rattle.bsc_history.specs.SayingRule.{saying}
use Rattle.bsc_history.specs.Fate.{sound_of, sound_of_reply, MayBeHeardAs}
use Rattle.bsc_history.specs.Conversation.{Follows}
use Rattle.bsc_history.proofs.ForRuns.{ComesAs, comes, turn, and-false, saying-speaks, ungranted-from_bid, granted-from_said, eot-said}
use Rattle.bsc_history.specs.Pair.{has_bid, is_bid_out, is_open, without_enq, as_counted}
use Rattle.pair_world.specs.Contending.{own_turn, other_heard, other_turn, is_sending, place_of}

sending-not : (b : Bool) → ContenderPlace.Sending ≡ place_of b false → ⊥
sending-not true e = cc
sending-not false e = cc

-- no receiver says EOT
no-eot : (reply : Option Reply) → ComesAs (sound_of_reply reply) Sound.Eot → ⊥
no-eot None may = cc
no-eot (Some Reply.Ack0) (inl e) = cc
no-eot (Some Reply.Ack0) (inr (inl e)) = cc
no-eot (Some Reply.Ack0) (inr (inr e)) = cc
no-eot (Some Reply.Ack1) (inl e) = cc
no-eot (Some Reply.Ack1) (inr (inl e)) = cc
no-eot (Some Reply.Ack1) (inr (inr e)) = cc
no-eot (Some Reply.Nak) (inl e) = cc
no-eot (Some Reply.Nak) (inr (inl e)) = cc
no-eot (Some Reply.Nak) (inr (inr e)) = cc
no-eot (Some Reply.Wack) (inl e) = cc
no-eot (Some Reply.Wack) (inr (inl e)) = cc
no-eot (Some Reply.Wack) (inr (inr e)) = cc
no-eot (Some Reply.Rvi) (inl e) = cc
no-eot (Some Reply.Rvi) (inr (inl e)) = cc
no-eot (Some Reply.Rvi) (inr (inr e)) = cc

pub hears-no_eot : (plan : Plan) (g : Bool) (past : History) (t : SpokenTurn) → Follows plan g past t → t.heard ≢ Sound.Eot
hears-no_eot plan g past t f = λ e. no-eot t.reply (rw e at (comes _ _ f.heard))

end-no_enq-at : (arrived : Sound) → ComesAs Sound.Eot arrived → arrived ≢ Sound.Enq
end-no_enq-at arrived (inl e) = λ f. cc
end-no_enq-at arrived (inr (inl e)) = λ f. cc
end-no_enq-at arrived (inr (inr e)) = λ f. cc

pub end-no_enq : (arrived : Sound) → MayBeHeardAs Sound.Eot arrived → arrived ≢ Sound.Enq
end-no_enq arrived may = end-no_enq-at arrived (comes Sound.Eot arrived may)

pub eot-end : (said : Say) (arrived : Sound) → MayBeHeardAs (sound_of said) arrived → said ≢ Say.End → arrived ≢ Sound.Eot
eot-end said arrived may n = λ e. n (eot-said said (rw e at (comes (sound_of said) arrived may)))

-- a grant answers a bid
granted-bid-at : (said : Say) (past : History) (t : SpokenTurn) → t.said ≡ said → has_grant (t ∷ past) ≡ true → (has_grant past ≡ true → has_bid past ≡ true) → has_bid (t ∷ past) ≡ true
granted-bid-at Say.Bid past t s e f = rw s refl
granted-bid-at said past t s e f = rw s (f (rw s at e))

granted-bid : (past : History) → has_grant past ≡ true → has_bid past ≡ true
granted-bid [] e = absurd (false≢true e)
granted-bid (t ∷ past) e = granted-bid-at t.said past t refl e (granted-bid past)

-- OWN TURNS

-- what a sender says before the grant, and what after it
abbrev pub IsInPlace : Say → History → Type 0
IsInPlace Say.Bid own = has_grant own ≡ false
IsInPlace Say.End own = Unit {0}
IsInPlace Say.Nothing own = ⊥
IsInPlace _ own = has_grant own ≡ true

in-place : (plan : Plan) (g : Bool) (own : History) (said : Say) → is_over own ≡ false → said ≡ saying plan g own → IsInPlace said own
in-place plan g own Say.Bid goes e = ungranted-from_bid plan g own goes (sym e)
in-place plan g own Say.End goes e = tt
in-place plan g own Say.Nothing goes e = absurd (saying-speaks plan g own goes (sym e))
in-place plan g own Say.Block goes e = granted-from_said plan g own goes (rw (← e) tt)
in-place plan g own Say.Again goes e = granted-from_said plan g own goes (rw (← e) tt)
in-place plan g own Say.Ask goes e = granted-from_said plan g own goes (rw (← e) tt)
in-place plan g own Say.Delay goes e = granted-from_said plan g own goes (rw (← e) tt)

-- the place alone, whatever is noted
own-place : (c : ContenderState) (own : History) (said : Say) (arrived : Sound) (refused : Bool) (reply : Option Reply) (heard : Sound) (wish : Wish) (pause : Bool) → heard ≢ Sound.Eot → IsInPlace said own → c.place ≡ place_of false (has_grant own)
    → (own_turn said heard c).place ≡ place_of false (is_sending (turn said arrived refused reply heard wish pause ∷ own))
own-place c own said arrived refused reply Sound.Eot wish pause never i e = absurd (never refl)
own-place c own Say.Bid arrived refused reply Sound.Ack0 wish pause never i e = let r : c.place ≡ ContenderPlace.Free = rw i at e in rw r refl
own-place c own Say.Bid arrived refused reply heard wish pause never i e = let r : c.place ≡ ContenderPlace.Free = rw i at e in rw (r, i) refl
own-place c own Say.End arrived refused reply heard wish pause never i e = elim (cases_Bool (has_grant own)) [
  | inl g ↦ let r : c.place ≡ ContenderPlace.Sending = rw g at e in rw (r, g) refl
  | inr g ↦ let r : c.place ≡ ContenderPlace.Free = rw g at e in rw (r, g) refl
]
own-place c own Say.Nothing arrived refused reply heard wish pause never i e = absurd i
own-place c own said arrived refused reply heard wish pause never i e = let r : c.place ≡ ContenderPlace.Sending = rw i at e in rw (r, i) refl

own-noted : (c : ContenderState) (own : History) (said : Say) (arrived : Sound) (refused : Bool) (reply : Option Reply) (heard : Sound) (wish : Wish) (pause : Bool) → heard ≢ Sound.Eot → IsInPlace said own → c.place ≡ place_of false (has_grant own) → c.bid_noted ≡ has_bid own
    → (own_turn said heard c).bid_noted ≡ is_bid_out (turn said arrived refused reply heard wish pause ∷ own)
own-noted c own said arrived refused reply Sound.Eot wish pause never i e n = absurd (never refl)
own-noted c own Say.Bid arrived refused reply Sound.Ack0 wish pause never i e n = let r : c.place ≡ ContenderPlace.Free = rw i at e in rw r refl
own-noted c own Say.Bid arrived refused reply heard wish pause never i e n = let r : c.place ≡ ContenderPlace.Free = rw i at e in rw r refl
own-noted c own Say.End arrived refused reply heard wish pause never i e n = elim (cases_Bool (has_grant own)) [
  | inl g ↦ let r : c.place ≡ ContenderPlace.Sending = rw g at e in rw r (sym (and-false (has_bid own) false refl))
  | inr g ↦ let r : c.place ≡ ContenderPlace.Free = rw g at e in rw r (sym (and-false (has_bid own) false refl))
]
own-noted c own Say.Nothing arrived refused reply heard wish pause never i e n = absurd i
own-noted c own said arrived refused reply heard wish pause never i e n = let b = granted-bid own i in rw (n, b) refl

pub own-step : (plan : Plan) (g : Bool) (c : ContenderState) (own : History) (t : SpokenTurn) → Follows plan g own t → c.place ≡ place_of false (is_sending own) → (own_turn t.said t.heard c).place ≡ place_of false (is_sending (t ∷ own))
own-step plan g c own t f e =
    let r : c.place ≡ place_of false (has_grant own) = e ∙ rw f.goes_on (ap (place_of false) (and-true (has_grant own))) in
    own-place c own t.said t.arrived t.refused t.reply t.heard t.wish t.pause (hears-no_eot plan g own t f) (in-place plan g own t.said f.goes_on f.said) r

pub noted-step : (plan : Plan) (g : Bool) (c : ContenderState) (own : History) (t : SpokenTurn) → Follows plan g own t → c.place ≡ place_of false (is_sending own) → c.bid_noted ≡ is_bid_out own → (own_turn t.said t.heard c).bid_noted ≡ is_bid_out (t ∷ own)
noted-step plan g c own t f e n =
    let r : c.place ≡ place_of false (has_grant own) = e ∙ rw f.goes_on (ap (place_of false) (and-true (has_grant own))) in
    let b : c.bid_noted ≡ has_bid own = n ∙ rw f.goes_on (and-true (has_bid own)) in
    own-noted c own t.said t.arrived t.refused t.reply t.heard t.wish t.pause (hears-no_eot plan g own t f) (in-place plan g own t.said f.goes_on f.said) r b

-- TURNS OF THE OTHER STATION

-- EOT of the other station
end-place : (rank : Rank) (place : ContenderPlace) (noted b : Bool) → place ≡ place_of b false → (after_other_end (record { rank = rank; place = place; bid_noted = noted })).place ≡ ContenderPlace.Free
end-place rank ContenderPlace.Sending noted b e = absurd (sending-not b e)
end-place rank ContenderPlace.Free noted b e = refl
end-place rank ContenderPlace.Receiving noted b e = refl

end-twice-at : (rank : Rank) (place : ContenderPlace) (noted : Bool) → after_other_end (after_other_end (record { rank = rank; place = place; bid_noted = noted })) ≡ after_other_end (record { rank = rank; place = place; bid_noted = noted })
end-twice-at rank ContenderPlace.Receiving noted = refl
end-twice-at rank ContenderPlace.Free noted = refl
end-twice-at rank ContenderPlace.Sending noted = refl

end-heard : (arrived : Sound) (c : ContenderState) → arrived ≢ Sound.Enq → after_other_end (other_heard arrived c) ≡ after_other_end c
end-heard Sound.Enq c n = absurd (n refl)
end-heard Sound.Eot c n = end-twice-at c.rank c.place c.bid_noted
end-heard _ c n = refl

-- an ENQ that counts
enq-counts : (rank : Rank) (place : ContenderPlace) (noted : Bool) → takes rank place noted ≡ true → (after_enq (record { rank = rank; place = place; bid_noted = noted })).place ≡ ContenderPlace.Receiving
enq-counts rank ContenderPlace.Sending noted e = absurd (false≢true e)
enq-counts rank ContenderPlace.Free noted e = rw e refl
enq-counts rank ContenderPlace.Receiving noted e = refl

other-place : (c : ContenderState) (b bid_out : Bool) (arrived : Sound) → arrived ≢ Sound.Eot → takes_enq c ≡ not bid_out → c.place ≡ place_of b false
    → (other_heard arrived c).place ≡ place_of (elim (if bid_out then without_enq arrived else arrived) [ Sound.Enq ↦ true | _ ↦ b ]) false
other-place c b bid_out Sound.Eot n takes e = absurd (n refl)
other-place c b true Sound.Enq n takes e = rw takes e
other-place c b false Sound.Enq n takes e = rw takes (enq-counts c.rank c.place c.bid_noted takes)
other-place c b true _ n takes e = e
other-place c b false _ n takes e = e

last-not : (said : Say) (heard : Sound) (arrived : Sound) (refused : Bool) (reply : Option Reply) (wish : Wish) (pause : Bool) → said ≢ Say.End → heard ≢ Sound.Eot → is_last (turn said arrived refused reply heard wish pause) ≡ false
last-not Say.End heard arrived refused reply wish pause e f = absurd (e refl)
last-not Say.Bid Sound.Eot arrived refused reply wish pause e f = absurd (f refl)
last-not said Sound.Eot arrived refused reply wish pause e f = absurd (f refl)
last-not said heard arrived refused reply wish pause e f = refl

-- a turn that isn't the last
other-going : (c : ContenderState) (other : History) (bid_out : Bool) (t : SpokenTurn) → is_last t ≡ false → t.arrived ≢ Sound.Eot → takes_enq c ≡ not bid_out → c.place ≡ place_of (was_bid other) false → (other_heard t.arrived c).place ≡ place_of (is_open (as_counted bid_out t ∷ other)) false
other-going c other bid_out t last n takes e = other-place c (was_bid other) bid_out t.arrived n takes e ∙ ap (λ b. place_of b false) (sym (rw last (and-true _)))

-- the last turn
closes : (other : History) (bid_out : Bool) (t : SpokenTurn) → t.said ≡ Say.End → is_open (as_counted bid_out t ∷ other) ≡ false
closes other bid_out t e = rw e (and-false _ false refl)

other-at : (said : Say) (c : ContenderState) (other : History) (bid_out : Bool) (t : SpokenTurn) → t.said ≡ said → t.heard ≢ Sound.Eot → (said ≡ Say.End → t.arrived ≢ Sound.Enq) → (said ≢ Say.End → t.arrived ≢ Sound.Eot) → takes_enq c ≡ not bid_out → c.place ≡ place_of (was_bid other) false
    → (other_turn said t.arrived c).place ≡ place_of (is_open (as_counted bid_out t ∷ other)) false
other-at Say.End c other bid_out t s h end more takes e = ap (λ x. x.place) (end-heard t.arrived c (end refl)) ∙ end-place c.rank c.place c.bid_noted (was_bid other) e ∙ ap (λ b. place_of b false) (sym (closes other bid_out t s))
other-at said c other bid_out t s h end more takes e = other-going c other bid_out t (last-not t.said t.heard t.arrived t.refused t.reply t.wish t.pause (rw s (λ x. cc)) h) (more (λ x. cc)) takes e

pub other-step : (plan : Plan) (g bid_out : Bool) (c : ContenderState) (other : History) (t : SpokenTurn) → Follows plan g other (as_counted bid_out t) → MayBeHeardAs (sound_of t.said) t.arrived → takes_enq c ≡ not bid_out → c.place ≡ place_of (is_open other) false
    → (other_turn t.said t.arrived c).place ≡ place_of (is_open (as_counted bid_out t ∷ other)) false
other-step plan g bid_out c other t f may takes e =
    let b : c.place ≡ place_of (was_bid other) false = e ∙ rw f.goes_on (ap (λ x. place_of x false) (and-true (was_bid other))) in
    other-at t.said c other bid_out t refl (hears-no_eot plan g other (as_counted bid_out t) f) (λ s. end-no_enq t.arrived (subst (λ x. MayBeHeardAs (sound_of x) t.arrived) s may)) (eot-end t.said t.arrived may) takes b

-- what is noted stays
noted-end : (rank : Rank) (place : ContenderPlace) (noted : Bool) → (after_other_end (record { rank = rank; place = place; bid_noted = noted })).bid_noted ≡ noted
noted-end rank ContenderPlace.Free noted = refl
noted-end rank ContenderPlace.Sending noted = refl
noted-end rank ContenderPlace.Receiving noted = refl

noted-enq : (rank : Rank) (place : ContenderPlace) (noted : Bool) → (takes rank place noted ≡ true → noted ≡ false) → (after_enq (record { rank = rank; place = place; bid_noted = noted })).bid_noted ≡ noted
noted-enq rank ContenderPlace.Sending noted e = refl
noted-enq rank ContenderPlace.Receiving noted e = refl
noted-enq rank ContenderPlace.Free noted e = elim (cases_Bool (takes rank ContenderPlace.Free noted)) [ inl t ↦ rw t (sym (e t)) | inr t ↦ rw t refl ]

noted-heard : (arrived : Sound) (c : ContenderState) → (takes_enq c ≡ true → c.bid_noted ≡ false) → (other_heard arrived c).bid_noted ≡ c.bid_noted
noted-heard Sound.Enq c e = elim (cases_Bool (takes_enq c)) [ inl t ↦ rw t (noted-enq c.rank c.place c.bid_noted e) | inr t ↦ rw t refl ]
noted-heard Sound.Eot c e = noted-end c.rank c.place c.bid_noted
noted-heard _ c e = refl

pub noted-at : (said : Say) (arrived : Sound) (c : ContenderState) → (takes_enq c ≡ true → c.bid_noted ≡ false) → (other_turn said arrived c).bid_noted ≡ c.bid_noted
noted-at Say.End arrived c e = noted-end (other_heard arrived c).rank (other_heard arrived c).place (other_heard arrived c).bid_noted ∙ noted-heard arrived c e
noted-at said arrived c e = noted-heard arrived c e

-- of a lost turn
pub lost-at : (said : Say) (c : ContenderState) (sending : Bool) → c.place ≡ place_of false sending → (other_turn said Sound.Quiet c).place ≡ place_of false sending
lost-at Say.End c true e = rw e refl
lost-at Say.End c false e = rw e refl
lost-at said c sending e = e

pub noted-lost : (said : Say) (c : ContenderState) → (other_turn said Sound.Quiet c).bid_noted ≡ c.bid_noted
noted-lost Say.End c = noted-end c.rank c.place c.bid_noted
noted-lost said c = refl

-- THE RANK NEVER CHANGES

rank-bid : (rank : Rank) (place : ContenderPlace) (noted : Bool) → (after_bid (record { rank = rank; place = place; bid_noted = noted })).rank ≡ rank
rank-bid rank ContenderPlace.Free noted = refl
rank-bid rank _ noted = refl

rank-grant : (rank : Rank) (place : ContenderPlace) (noted : Bool) → (after_grant (record { rank = rank; place = place; bid_noted = noted })).rank ≡ rank
rank-grant rank ContenderPlace.Free noted = refl
rank-grant rank _ noted = refl

rank-own_end : (rank : Rank) (place : ContenderPlace) (noted : Bool) → (after_own_end (record { rank = rank; place = place; bid_noted = noted })).rank ≡ rank
rank-own_end rank ContenderPlace.Receiving noted = refl
rank-own_end rank _ noted = refl

rank-enq : (rank : Rank) (place : ContenderPlace) (noted : Bool) → (after_enq (record { rank = rank; place = place; bid_noted = noted })).rank ≡ rank
rank-enq rank ContenderPlace.Free noted = elim (cases_Bool (takes rank ContenderPlace.Free noted)) [ inl t ↦ rw t refl | inr t ↦ rw t refl ]
rank-enq rank _ noted = refl

rank-other_end : (rank : Rank) (place : ContenderPlace) (noted : Bool) → (after_other_end (record { rank = rank; place = place; bid_noted = noted })).rank ≡ rank
rank-other_end rank ContenderPlace.Receiving noted = refl
rank-other_end rank _ noted = refl

rank-said : (said : Say) (c : ContenderState) → (contender_said said c).rank ≡ c.rank
rank-said Say.Bid c = rank-bid c.rank c.place c.bid_noted
rank-said Say.End c = rank-own_end c.rank c.place c.bid_noted
rank-said said c = refl

rank-answered : (said : Say) (heard : Sound) (c : ContenderState) → (contender_answered said heard c).rank ≡ c.rank
rank-answered Say.Bid Sound.Ack0 c = rank-grant c.rank c.place c.bid_noted
rank-answered Say.Bid Sound.Eot c = rank-own_end c.rank c.place c.bid_noted
rank-answered Say.Bid heard c = refl
rank-answered said Sound.Eot c = rank-own_end c.rank c.place c.bid_noted
rank-answered said heard c = refl

pub rank-own : (said : Say) (heard : Sound) (c : ContenderState) → (own_turn said heard c).rank ≡ c.rank
rank-own Say.End heard c = rank-said Say.End c
rank-own said heard c = rank-answered said heard (contender_said said c) ∙ rank-said said c

rank-heard : (arrived : Sound) (c : ContenderState) → (other_heard arrived c).rank ≡ c.rank
rank-heard Sound.Enq c = elim (cases_Bool (takes_enq c)) [ inl t ↦ rw t (rank-enq c.rank c.place c.bid_noted) | inr t ↦ rw t refl ]
rank-heard Sound.Eot c = rank-other_end c.rank c.place c.bid_noted
rank-heard _ c = refl

pub rank-other : (said : Say) (arrived : Sound) (c : ContenderState) → (other_turn said arrived c).rank ≡ c.rank
rank-other Say.End arrived c = rank-other_end (other_heard arrived c).rank (other_heard arrived c).place (other_heard arrived c).bid_noted ∙ rank-heard arrived c
rank-other said arrived c = rank-heard arrived c

-- WHO TAKES AN ENQ

pub takes-secondary : (c : ContenderState) (b : Bool) → c.rank ≡ Rank.Secondary → c.place ≡ place_of b false → takes_enq c ≡ true
takes-secondary c true rank place = rw (rank, place) refl
takes-secondary c false rank place = rw (rank, place) refl

pub takes-primary : (c : ContenderState) (b bid_out : Bool) → c.rank ≡ Rank.Primary → c.place ≡ place_of b false → c.bid_noted ≡ bid_out → (b ≡ true → bid_out ≡ false) → takes_enq c ≡ not bid_out
takes-primary c true bid_out rank place noted e = rw (rank, place, e refl) refl
takes-primary c false bid_out rank place noted e = rw (rank, place, noted) refl
