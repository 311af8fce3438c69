-- Of a schedule there is one conversation of two stations that both have jobs: what is spoken over it is a part of whatever longer is spoken over it.
use Rattle.std.proofs.Common.{◌≡◌, ◌⊎◌, inl, inr, ℕ, ◌+◌, ◌<◌, Bool, true, false, List, [], ◌∷◌, length, slice_get, Option, Some, None, refl, sym, ap, ◌∙◌, subst, arith}
use Rattle.std.proofs.lemmas.Bool.{cases_Bool, cases_order, true≢false, false≢true}
use Rattle.std.proofs.lemmas.Option.{slice_get_within}
use Rattle.bsc_link.specs.declared.sound.Sound.{Sound}
use Rattle.bsc_link.specs.declared.say.Say.{Say}
use Rattle.bsc_link.specs.declared.wish.Wish.{Wish}
use Rattle.bsc_history.specs.declared.bids.Bids.{Bids}
use Rattle.bsc_history.specs.declared.spoken_turn.SpokenTurn.{SpokenTurn}
use Rattle.bsc_history.specs.declared.sound_turn.SoundTurn.{SoundTurn}
use Rattle.bsc_history.specs.History.{History, Plan, is_over}
use Rattle.bsc_history.specs.Known.{gives_up_now}
use Rattle.bsc_history.specs.ReplyRule.{replying, was_bid}
use Rattle.bsc_history.specs.declared.sound_fate.SoundFate.{SoundFate}
use Rattle.bsc_history.specs.SayingRule.{saying}
use Rattle.bsc_history.specs.Fate.{sound_of, sound_of_reply, after_fate, MayBeHeardAs}
use Rattle.bsc_history.specs.Conversation.{Follows, IsAt}
use Rattle.bsc_history.specs.Pair.{SpokenPair, PairHistory, up, down, is_bid_out, as_counted, counted, speaks, due, lets_primary, lets_secondary}
use Rattle.bsc_history.specs.PairCount.{down_gives_up}
use Rattle.bsc_history.specs.PairConversation.{PairFollows, Part, Collide, primary_speaks, secondary_speaks}
use Rattle.bsc_history.specs.PairSchedule.{PairPlace, IsVain, ArePartsAt, IsPairAt, IsPairSpokenOver, NothingIsDue, IsPairConversationOver, OfOneSpeaker, PairBreaksAt, OnePairConversation, NonePairBreaks, OnePairBreak}
use Rattle.bsc_history.proofs.Line.{comes, lost-after}
use Rattle.bsc_history.proofs.OneConversation.{same-fields, same-turn, broken-place, true-false}

-- ---- A turn in which nothing arrives.

-- silence isn't answered
quiet-reply : (own : History) (refused : Bool) (wish : Wish) → replying own Sound.Quiet refused wish ≡ None
quiet-reply own refused wish = elim (cases_Bool (was_bid own)) [ inl b ↦ rw b refl | inr b ↦ rw b refl ]

pub counted-quiet : (bid_out : Bool) (t : SpokenTurn) → t.arrived ≡ Sound.Quiet → (as_counted bid_out t).arrived ≡ Sound.Quiet
counted-quiet true t e = rw e refl
counted-quiet false t e = e

-- nor is an answer heard
vain-reply : (bid_out : Bool) (plan : Plan) (gives_up : Bool) (past : History) (t : SpokenTurn) → Follows plan gives_up past (as_counted bid_out t) → t.arrived ≡ Sound.Quiet → t.reply ≡ None
vain-reply bid_out plan gives_up past t f quiet = f.replied ∙ ap (λ x. replying past x t.refused t.wish) (counted-quiet bid_out t quiet) ∙ quiet-reply past t.refused t.wish

vain-heard : (bid_out : Bool) (plan : Plan) (gives_up : Bool) (past : History) (t : SpokenTurn) → Follows plan gives_up past (as_counted bid_out t) → t.arrived ≡ Sound.Quiet → t.heard ≡ Sound.Quiet
vain-heard bid_out plan gives_up past t f quiet = comes Sound.Quiet t.heard (subst (λ r. MayBeHeardAs (sound_of_reply r) t.heard) (vain-reply bid_out plan gives_up past t f quiet) f.heard)

-- a turn in which nothing arrives and nothing is answered follows
pub vain-follows : (bid_out : Bool) (plan : Plan) (gives_up : Bool) (past : History) (t : SpokenTurn) → is_over past ≡ false → t.said ≡ saying plan gives_up past → t.arrived ≡ Sound.Quiet → t.refused ≡ false → t.reply ≡ None → t.heard ≡ Sound.Quiet
    → Follows plan gives_up past (as_counted bid_out t)
vain-follows bid_out plan gives_up past t goes said quiet refused reply heard =
    let lost : (as_counted bid_out t).arrived ≡ Sound.Quiet = counted-quiet bid_out t quiet in
    record {
      goes_on = goes;
      said = said;
      arrived = (SoundFate.Lost, lost-after (sound_of t.said) ∙ ap (λ x. Some x) (sym lost));
      refusal = λ e. absurd (true-false t.refused e refused);
      replied = reply ∙ sym (ap (λ x. replying past x t.refused t.wish) lost ∙ quiet-reply past t.refused t.wish);
      heard = (SoundFate.Lost, ap (λ x. after_fate SoundFate.Lost (sound_of_reply x)) reply ∙ ap (λ x. Some x) (sym heard));
    }

-- two turns in which nothing arrives are the same at the same place after the same past
same-vain : (bid_out : Bool) (plan : Plan) (gives_up : Bool) (past : History) (place : SoundTurn) (t u : SpokenTurn) → Follows plan gives_up past (as_counted bid_out t) → Follows plan gives_up past (as_counted bid_out u) → t.arrived ≡ Sound.Quiet → u.arrived ≡ Sound.Quiet
    → IsVain place t → IsVain place u → t ≡ u
same-vain bid_out plan gives_up past place t u f g quiet still at on =
    let reply : t.reply ≡ u.reply = vain-reply bid_out plan gives_up past t f quiet ∙ sym (vain-reply bid_out plan gives_up past u g still) in
    let heard : t.heard ≡ u.heard = vain-heard bid_out plan gives_up past t f quiet ∙ sym (vain-heard bid_out plan gives_up past u g still) in
    same-fields _ _ _ _ _ _ _ _ _ _ _ _ _ _ (f.said ∙ sym g.said) (quiet ∙ sym still) (at.refused ∙ sym on.refused) reply heard (at.wish ∙ sym on.wish) (at.pause ∙ sym on.pause)

-- ---- One turn of a pair.

module _ (p q : Plan) (past : PairHistory) (bids : Bids) (place : SoundTurn) where
  abbrev bid_out : Bool
  bid_out = is_bid_out (up past)

  abbrev up_speaks : Bool
  up_speaks = primary_speaks p q (gives_up_now (up past)) (down_gives_up past) past bids

  abbrev down_speaks : Bool
  down_speaks = secondary_speaks p q (gives_up_now (up past)) (down_gives_up past) past bids

  -- what each station said, if it spoke
  pub record IsPairOf (primary secondary : Option SpokenTurn) : Type 0 where
    pub primary_follows : Part p (gives_up_now (up past)) (up past) up_speaks primary
    pub secondary_follows : Part q (down_gives_up past) (down past) down_speaks (counted bid_out secondary)
    pub collide : Collide primary secondary
    pub placed : ArePartsAt place primary secondary

  same-parts : (t u v w : Option SpokenTurn) → IsPairOf t u → IsPairOf v w → (t ≡ v) × (u ≡ w)
  same-parts None u (Some v) w a b = absurd (true-false up_speaks b.primary_follows.0 a.primary_follows)
  same-parts (Some t) u None w a b = absurd (true-false up_speaks a.primary_follows.0 b.primary_follows)
  same-parts None None None (Some w) a b = absurd (true-false down_speaks b.secondary_follows.0 a.secondary_follows)
  same-parts None (Some u) None None a b = absurd (true-false down_speaks a.secondary_follows.0 b.secondary_follows)
  same-parts (Some t) None (Some v) (Some w) a b = absurd (true-false down_speaks b.secondary_follows.0 a.secondary_follows)
  same-parts (Some t) (Some u) (Some v) None a b = absurd (true-false down_speaks a.secondary_follows.0 b.secondary_follows)
  same-parts None None None None a b = (refl, refl)
  same-parts (Some t) None (Some v) None a b = (ap (λ x. Some x) (same-turn false p (gives_up_now (up past)) (up past) place t v a.primary_follows.1 b.primary_follows.1 a.placed b.placed), refl)
  same-parts None (Some u) None (Some w) a b = (refl, ap (λ x. Some x) (same-turn bid_out q (down_gives_up past) (down past) place u w a.secondary_follows.1 b.secondary_follows.1 a.placed b.placed))
  same-parts (Some t) (Some u) (Some v) (Some w) a b = (
    ap (λ x. Some x) (same-vain false p (gives_up_now (up past)) (up past) place t v a.primary_follows.1 b.primary_follows.1 a.collide.0 b.collide.0 a.placed.0 b.placed.0),
    ap (λ x. Some x) (same-vain bid_out q (down_gives_up past) (down past) place u w a.secondary_follows.1 b.secondary_follows.1 a.collide.1 b.collide.1 a.placed.1 b.placed.1),
  )

  -- what holds of no lone speaker holds of no turn in which one speaks alone
  pub none-alone : (Fits : Option SpokenTurn → Option SpokenTurn → Type 0) (P Q : Type 0) → ((t : SpokenTurn) → Follows p (gives_up_now (up past)) (up past) t → IsAt place t → Fits (Some t) None → P → ⊥)
      → ((u : SpokenTurn) → Follows q (down_gives_up past) (down past) (as_counted bid_out u) → IsAt place u → Fits None (Some u) → Q → ⊥) → (t u : Option SpokenTurn) → IsPairOf t u → Fits t u → OfOneSpeaker p q past bids P Q → ⊥
  none-alone Fits P Q first second None u a fits (inl b) = true-false up_speaks b.0 a.primary_follows
  none-alone Fits P Q first second (Some t) (Some u) a fits (inl b) = true-false down_speaks a.secondary_follows.0 b.1
  none-alone Fits P Q first second (Some t) None a fits (inl b) = first t a.primary_follows.1 a.placed fits b.2
  none-alone Fits P Q first second (Some t) u a fits (inr b) = true-false up_speaks a.primary_follows.0 b.0
  none-alone Fits P Q first second None None a fits (inr b) = true-false down_speaks b.1 a.secondary_follows
  none-alone Fits P Q first second None (Some u) a fits (inr b) = second u a.secondary_follows.1 a.placed fits b.2

pub parts-of : (p q : Plan) (past : PairHistory) (place : PairPlace) (t : SpokenPair) → PairFollows p q (gives_up_now (up past)) (down_gives_up past) past t → IsPairAt place t → IsPairOf p q past place.bids place.place t.primary t.secondary
parts-of p q past place t f at = record {
  primary_follows = subst (λ b. Part p (gives_up_now (up past)) (up past) (primary_speaks p q (gives_up_now (up past)) (down_gives_up past) past b) t.primary) at.bids f.primary;
  secondary_follows = subst (λ b. Part q (down_gives_up past) (down past) (secondary_speaks p q (gives_up_now (up past)) (down_gives_up past) past b) (counted (is_bid_out (up past)) t.secondary)) at.bids f.secondary;
  collide = f.collide;
  placed = at.parts;
}

-- a turn of a pair by its fields
abbrev pub pair-turn : Bids → Option SpokenTurn → Option SpokenTurn → SpokenPair
pair-turn bids t u = record { bids = bids; primary = t; secondary = u }

same-pair-fields : (b c : Bids) (t u v w : Option SpokenTurn) → b ≡ c → t ≡ v → u ≡ w → pair-turn b t u ≡ pair-turn c v w
same-pair-fields b c t u v w eb ep es = rw (eb, ep, es) refl

-- two turns of a pair at one place after one past are the same
same-pair : (p q : Plan) (past : PairHistory) (place : PairPlace) (t u : SpokenPair) → PairFollows p q (gives_up_now (up past)) (down_gives_up past) past t → PairFollows p q (gives_up_now (up past)) (down_gives_up past) past u → IsPairAt place t → IsPairAt place u → t ≡ u
same-pair p q past place t u f g at on =
    let same = same-parts p q past place.bids place.place t.primary t.secondary u.primary u.secondary (parts-of p q past place t f at) (parts-of p q past place u g on) in
    same-pair-fields _ _ _ _ _ _ (at.bids ∙ sym on.bids) same.0 same.1

pub same-pair_place : (x y : PairPlace) → Some x ≡ Some y → x ≡ y
same-pair_place x y e = cc

-- ---- Histories of a pair.

pub pair-rest : (p q : Plan) (places : List PairPlace) (t : SpokenPair) (past : PairHistory) → IsPairSpokenOver p q places (t ∷ past) → IsPairSpokenOver p q places past
pair-rest p q places t past s = record { conversation = s.conversation.1; placed = s.placed.1 }

-- histories of one length are the same
pub same-pair_history : (p q : Plan) (places : List PairPlace) (h g : PairHistory) → IsPairSpokenOver p q places h → IsPairSpokenOver p q places g → length h ≡ length g → h ≡ g
same-pair_history p q places [] [] s r e = refl
same-pair_history p q places [] (u ∷ g) s r e = absurd (omega (arith, e))
same-pair_history p q places (t ∷ h) [] s r e = absurd (omega (arith, e))
same-pair_history p q places (t ∷ h) (u ∷ g) s r e =
    let same : h ≡ g = same-pair_history p q places h g (pair-rest p q places t h s) (pair-rest p q places u g r) (omega (arith, e)) in
    let place : s.placed.0.0 ≡ r.placed.0.0 = same-pair_place _ _ (sym s.placed.0.1 ∙ ap (λ x. slice_get places (length x)) same ∙ r.placed.0.1) in
    let f : PairFollows p q (gives_up_now (up g)) (down_gives_up g) g t = subst (λ x. PairFollows p q (gives_up_now (up x)) (down_gives_up x) x t) same s.conversation.0 in
    let at : IsPairAt r.placed.0.0 t = subst (λ x. IsPairAt x t) place s.placed.0.2 in
    rw (same, same-pair p q g r.placed.0.0 t u f r.conversation.0 at r.placed.0.2) refl

-- a shorter history goes on as the longer one did
pub pair-goes-on-within : (p q : Plan) (places : List PairPlace) (h g : PairHistory) → IsPairSpokenOver p q places h → IsPairSpokenOver p q places g → length h < length g
    → (t : SpokenPair) × IsPairSpokenOver p q places (t ∷ h)
pair-goes-on-within p q places h [] s r less = absurd (omega (arith, less))
pair-goes-on-within p q places h (u ∷ g) s r less = elim (cases_order (length h) (length g)) [
  | inl same ↦ (u, subst (λ x. IsPairSpokenOver p q places (u ∷ x)) (sym (same-pair_history p q places h g s (pair-rest p q places u g r) same)) r)
  | inr (inl shorter) ↦ pair-goes-on-within p q places h g s (pair-rest p q places u g r) shorter
  | inr (inr longer) ↦ absurd (omega (arith, less, longer))
]

-- ---- Where nothing is due.

says-nothing : (own other : Say) (let_it : Bool) → own ≡ Say.Nothing → speaks own other let_it ≡ true → ⊥
says-nothing own other let_it nothing e = false≢true (rw nothing at e)

-- neither speaks where nothing is due
pub neither-speaks : (p q : Plan) (h : PairHistory) (bids : Bids) → NothingIsDue p q h
    → (primary_speaks p q (gives_up_now (up h)) (down_gives_up h) h bids ≡ true) ⊎ (secondary_speaks p q (gives_up_now (up h)) (down_gives_up h) h bids ≡ true) → ⊥
neither-speaks p q h bids n (inl e) = says-nothing (due p (gives_up_now (up h)) (up h) (down h)) (due q (down_gives_up h) (down h) (up h)) (lets_primary bids) n.primary e
neither-speaks p q h bids n (inr e) = says-nothing (due q (down_gives_up h) (down h) (up h)) (due p (gives_up_now (up h)) (up h) (down h)) (lets_secondary bids) n.secondary e

-- where there is a place and one speaks, the conversation isn't whole
pub unfinished : (p q : Plan) (places : List PairPlace) (h : PairHistory) (place : PairPlace) (bids : Bids) → IsPairConversationOver p q places h → slice_get places (length h) ≡ Some place
    → (primary_speaks p q (gives_up_now (up h)) (down_gives_up h) h bids ≡ true) ⊎ (secondary_speaks p q (gives_up_now (up h)) (down_gives_up h) h bids ≡ true) → ⊥
unfinished p q places h place bids c here some = elim c.whole [
  | inl long ↦ let within : length h < length places = slice_get_within places (length h) place here in omega (arith, long, within)
  | inr nothing ↦ neither-speaks p q h bids nothing some
]

-- nothing is due at either where neither speaks
pub silent-says : (x y : Say) (bids : Bids) → speaks x y (lets_primary bids) ≡ false → speaks y x (lets_secondary bids) ≡ false → (x ≡ Say.Nothing) × (y ≡ Say.Nothing)
silent-says Say.Nothing Say.Nothing bids e f = (refl, refl)
silent-says Say.Nothing y bids e f = absurd (true≢false f)
silent-says x Say.Nothing bids e f = absurd (true≢false e)
silent-says x y Bids.Secondary e f = absurd (true≢false f)
silent-says x y _ e f = absurd (true≢false e)

-- a whole conversation is no part of a longer one
pub pair-no-longer : (p q : Plan) (places : List PairPlace) (h : PairHistory) (t : SpokenPair) → IsPairConversationOver p q places h → IsPairSpokenOver p q places (t ∷ h) → ⊥
pair-no-longer p q places h t c s = unfinished p q places h s.placed.0.0 t.bids c s.placed.0.1 s.conversation.0.goes_on

pub one_pair_conversation : OnePairConversation
one_pair_conversation p q places h g c d = elim (cases_order (length h) (length g)) [
  | inl same ↦ same-pair_history p q places h g c.spoken d.spoken same
  | inr (inl shorter) ↦ let more = pair-goes-on-within p q places h g c.spoken d.spoken shorter in absurd (pair-no-longer p q places h more.0 c more.1)
  | inr (inr longer) ↦ let more = pair-goes-on-within p q places g h d.spoken c.spoken longer in absurd (pair-no-longer p q places g more.0 d more.1)
]

-- ---- Where a fate breaks its rule.

-- no turn stands at a place whose fate breaks its rule
broken-pair : (p q : Plan) (places : List PairPlace) (n : ℕ) (t : SpokenPair) (b : PairBreaksAt p q places n) → IsPairSpokenOver p q places (t ∷ b.past) → ⊥
broken-pair p q places n t b s =
    let place : s.placed.0.0 ≡ b.place = same-pair_place _ _ (sym s.placed.0.1 ∙ b.here) in
    let parts = parts-of p q b.past b.place t s.conversation.0 (subst (λ x. IsPairAt x t) place s.placed.0.2) in
    none-alone p q b.past b.place.bids b.place.place (λ x y. Unit {0}) _ _
    (λ v f at fits broken. broken-place false p (gives_up_now (up b.past)) (up b.past) b.place.place v f at broken)
    (λ v f at fits broken. broken-place (is_bid_out (up b.past)) q (down_gives_up b.past) (down b.past) b.place.place v f at broken)
    t.primary t.secondary parts tt b.breaks

-- one station speaks
pub one-speaks : (x y : Bool) (P Q : Type 0) → ((x ≡ true) × (y ≡ false) × P) ⊎ ((x ≡ false) × (y ≡ true) × Q) → (x ≡ true) ⊎ (y ≡ true)
one-speaks x y P Q (inl a) = inl a.0
one-speaks x y P Q (inr a) = inr a.1

pub none_pair_breaks : NonePairBreaks
none_pair_breaks p q places h n c b = elim (cases_order (length b.past) (length h)) [
  | inl same ↦
      let e : h ≡ b.past = sym (same-pair_history p q places b.past h b.spoken c.spoken same) in
      unfinished p q places b.past b.place b.place.bids (subst (IsPairConversationOver p q places) e c) b.here (one-speaks _ _ _ _ b.breaks)
  | inr (inl shorter) ↦ let more = pair-goes-on-within p q places b.past h b.spoken c.spoken shorter in broken-pair p q places n more.0 b more.1
  | inr (inr longer) ↦ let more = pair-goes-on-within p q places h b.past c.spoken b.spoken longer in pair-no-longer p q places h more.0 c more.1
]

pub one_pair_break : OnePairBreak
one_pair_break p q places n m a b = elim (cases_order (length a.past) (length b.past)) [
  | inl same ↦ sym a.before ∙ ap (λ k. k + 1) same ∙ b.before
  | inr (inl shorter) ↦ let more = pair-goes-on-within p q places a.past b.past a.spoken b.spoken shorter in absurd (broken-pair p q places n more.0 a more.1)
  | inr (inr longer) ↦ let more = pair-goes-on-within p q places b.past a.past b.spoken a.spoken longer in absurd (broken-pair p q places m more.0 b more.1)
]
