-- Of a schedule there is one conversation: what is spoken over it is a part of whatever longer is spoken over it.
use Rattle.std.proofs.Common.{◌≡◌, ◌⊎◌, inl, inr, ℕ, ◌+◌, ◌<◌, ◌≤◌, Bool, true, false, ◌&&◌, List, [], ◌∷◌, length, slice_get, Option, Some, None, refl, sym, ap, ◌∙◌, subst, arith}
use Rattle.std.proofs.lemmas.Bool.{cases_order, true≢false}
use Rattle.std.proofs.lemmas.Option.{slice_get_within, same_Some}
use Rattle.bsc_link.specs.declared.sound.Sound.{Sound}
use Rattle.bsc_link.specs.declared.say.Say.{Say}
use Rattle.bsc_link.specs.declared.wish.Wish.{Wish}
use Rattle.bsc_link.specs.declared.reply.Reply.{Reply}
use Rattle.bsc_history.specs.declared.spoken_turn.SpokenTurn.{SpokenTurn}
use Rattle.bsc_history.specs.declared.sound_turn.SoundTurn.{SoundTurn}
use Rattle.bsc_history.specs.History.{History, Plan, is_over}
use Rattle.bsc_history.specs.Known.{gives_up_now}
use Rattle.bsc_history.specs.ReplyRule.{replying}
use Rattle.bsc_history.specs.Fate.{sound_of, sound_of_reply, after_fate}
use Rattle.bsc_history.specs.Conversation.{Follows, IsAt, IsSpokenOver, IsConversationOver, BreaksAt, is_block, OneConversation, NoneBreaks, OneBreak}
use Rattle.bsc_history.specs.Pair.{as_counted, sound_counted}
use Rattle.bsc_history.specs.PairSchedule.{BreaksPart}
use Rattle.bsc_history.proofs.Phases.{turn}

pub true-false : (b : Bool) → b ≡ true → b ≡ false → ⊥
true-false b e f = true≢false (sym e ∙ f)

pub same-fields : (s s' : Say) (a a' : Sound) (f f' : Bool) (r r' : Option Reply) (x x' : Sound) (w w' : Wish) (p p' : Bool) → s ≡ s' → a ≡ a' → f ≡ f' → r ≡ r' → x ≡ x' → w ≡ w' → p ≡ p' → turn s a f r x w p ≡ turn s' a' f' r' x' w' p'
same-fields s s' a a' f f' r r' x x' w w' p p' es ea ef er ex ew ep = rw (es, ea, ef, er, ex, ew, ep) refl

-- two turns at one place after one past are the same, whether a bid is out or not
pub same-turn : (bid_out : Bool) (plan : Plan) (gives_up : Bool) (past : History) (place : SoundTurn) (t u : SpokenTurn) → Follows plan gives_up past (as_counted bid_out t) → Follows plan gives_up past (as_counted bid_out u) → IsAt place t → IsAt place u → t ≡ u
same-turn bid_out plan gives_up past place t u f g at on =
    let said : t.said ≡ u.said = f.said ∙ sym g.said in
    let arrived : t.arrived ≡ u.arrived = same_Some _ _ (sym at.up ∙ ap (λ x. after_fate place.up (sound_of x)) said ∙ on.up) in
    let refused : t.refused ≡ u.refused = at.refused ∙ ap (λ x. place.refused && is_block x) arrived ∙ sym on.refused in
    let wish : t.wish ≡ u.wish = at.wish ∙ sym on.wish in
    let reply : t.reply ≡ u.reply = f.replied ∙ rw (arrived, refused, wish) refl ∙ sym g.replied in
    let heard : t.heard ≡ u.heard = same_Some _ _ (sym at.down ∙ ap (λ x. after_fate place.down (sound_of_reply x)) reply ∙ on.down) in
    same-fields _ _ _ _ _ _ _ _ _ _ _ _ _ _ said arrived refused reply heard wish (at.pause ∙ sym on.pause)

pub rest : (plan : Plan) (places : List SoundTurn) (t : SpokenTurn) (past : History) → IsSpokenOver plan places (t ∷ past) → IsSpokenOver plan places past
rest plan places t past s = record { conversation = s.conversation.1; placed = s.placed.1 }

-- histories of one length are the same
pub same-history : (plan : Plan) (places : List SoundTurn) (h g : History) → IsSpokenOver plan places h → IsSpokenOver plan places g → length h ≡ length g → h ≡ g
same-history plan places [] [] s r e = refl
same-history plan places [] (u ∷ g) s r e = absurd (omega (arith, e))
same-history plan places (t ∷ h) [] s r e = absurd (omega (arith, e))
same-history plan places (t ∷ h) (u ∷ g) s r e =
    let same : h ≡ g = same-history plan places h g (rest plan places t h s) (rest plan places u g r) (omega (arith, e)) in
    let place : s.placed.0.0 ≡ r.placed.0.0 = same_Some _ _ (sym s.placed.0.1 ∙ ap (λ x. slice_get places (length x)) same ∙ r.placed.0.1) in
    let f : Follows plan (gives_up_now g) g t = subst (λ x. Follows plan (gives_up_now x) x t) same s.conversation.0 in
    let at : IsAt r.placed.0.0 t = subst (λ x. IsAt x t) place s.placed.0.2 in
    rw (same, same-turn false plan (gives_up_now g) g r.placed.0.0 t u f r.conversation.0 at r.placed.0.2) refl

-- a shorter history goes on as the longer one did
pub goes-on-within : (plan : Plan) (places : List SoundTurn) (h g : History) → IsSpokenOver plan places h → IsSpokenOver plan places g → length h < length g
    → (t : SpokenTurn) × IsSpokenOver plan places (t ∷ h)
goes-on-within plan places h [] s r less = absurd (omega (arith, less))
goes-on-within plan places h (u ∷ g) s r less = elim (cases_order (length h) (length g)) [
  | inl same ↦ (u, subst (λ x. IsSpokenOver plan places (u ∷ x)) (sym (same-history plan places h g s (rest plan places u g r) same)) r)
  | inr (inl shorter) ↦ goes-on-within plan places h g s (rest plan places u g r) shorter
  | inr (inr longer) ↦ absurd (omega (arith, less, longer))
]

placed-within : (plan : Plan) (places : List SoundTurn) (h : History) → IsSpokenOver plan places h → length h ≤ length places
placed-within plan places [] s = omega arith
placed-within plan places (t ∷ h) s =
    let within : length h < length places = slice_get_within places (length h) s.placed.0.0 s.placed.0.1 in
    omega (arith, within)

-- a whole conversation is no part of a longer one
pub no-longer : (plan : Plan) (places : List SoundTurn) (h : History) (t : SpokenTurn) → IsConversationOver plan places h → (plan ≡ [] → ⊥) → IsSpokenOver plan places (t ∷ h) → ⊥
no-longer plan places h t c blocks s = elim c.whole [
  | inl none ↦ blocks none
  | inr (inl long) ↦ let within : length (t ∷ h) ≤ length places = placed-within plan places (t ∷ h) s in omega (arith, long, within)
  | inr (inr over) ↦ true-false _ over s.conversation.0.goes_on
]

-- with blocks or without
pub cases-plan : (plan : Plan) → (plan ≡ []) ⊎ (plan ≡ [] → ⊥)
cases-plan [] = inl refl
cases-plan (b ∷ plan) = inr (λ e. cc)

pub one_conversation : OneConversation
one_conversation plan places h g c d = elim (cases-plan plan) [
  | inl none ↦ c.empty none ∙ sym (d.empty none)
  | inr blocks ↦ elim (cases_order (length h) (length g)) [
    | inl same ↦ same-history plan places h g c.spoken d.spoken same
    | inr (inl shorter) ↦ let more = goes-on-within plan places h g c.spoken d.spoken shorter in absurd (no-longer plan places h more.0 c blocks more.1)
    | inr (inr longer) ↦ let more = goes-on-within plan places g h d.spoken c.spoken longer in absurd (no-longer plan places g more.0 d blocks more.1)
  ]
]

some-none : (o : Option Sound) (x : Sound) → o ≡ Some x → o ≡ None → ⊥
some-none o x e f = absurd (let d : Some x ≡ None = sym e ∙ f in cc)

-- no turn stands at a place whose fate breaks its rule
pub broken-place : (bid_out : Bool) (plan : Plan) (gives_up : Bool) (past : History) (place : SoundTurn) (t : SpokenTurn) → Follows plan gives_up past (as_counted bid_out t) → IsAt place t → BreaksPart (sound_counted bid_out) plan gives_up past place → ⊥
broken-place bid_out plan gives_up past place t f at (inl up) = some-none _ t.arrived (ap (λ x. after_fate place.up (sound_of x)) (sym f.said) ∙ at.up) up
broken-place bid_out plan gives_up past place t f at (inr (arrived, up, down)) =
    let same : t.arrived ≡ arrived = same_Some _ _ (sym at.up ∙ ap (λ x. after_fate place.up (sound_of x)) f.said ∙ up) in
    let refused : t.refused ≡ (place.refused && is_block arrived) = at.refused ∙ ap (λ x. place.refused && is_block x) same in
    let reply : t.reply ≡ replying past (sound_counted bid_out arrived) (place.refused && is_block arrived) place.wish = f.replied ∙ rw (same, refused, at.wish) refl in
    some-none _ t.heard (ap (λ x. after_fate place.down (sound_of_reply x)) (sym reply) ∙ at.down) down

broken-turn : (plan : Plan) (places : List SoundTurn) (n : ℕ) (t : SpokenTurn) (b : BreaksAt plan places n) → IsSpokenOver plan places (t ∷ b.past) → ⊥
broken-turn plan places n t b s =
    let place : s.placed.0.0 ≡ b.place = same_Some _ _ (sym s.placed.0.1 ∙ b.here) in
    broken-place false plan (gives_up_now b.past) b.past b.place t s.conversation.0 (subst (λ x. IsAt x t) place s.placed.0.2) b.breaks

pub none_breaks : NoneBreaks
none_breaks plan places h n c b = elim (cases_order (length b.past) (length h)) [
  | inl same ↦
      let e : b.past ≡ h = same-history plan places b.past h b.spoken c.spoken same in
      elim c.whole [
        | inl none ↦ b.blocks none
        | inr (inl long) ↦
            let within : length b.past < length places = slice_get_within places (length b.past) b.place b.here in
            absurd (omega (arith, long, within, same))
        | inr (inr over) ↦ true-false (is_over h) over (ap is_over (sym e) ∙ b.goes_on)
      ]
  | inr (inl shorter) ↦ let more = goes-on-within plan places b.past h b.spoken c.spoken shorter in broken-turn plan places n more.0 b more.1
  | inr (inr longer) ↦ let more = goes-on-within plan places h b.past c.spoken b.spoken longer in no-longer plan places h more.0 c b.blocks more.1
]

pub one_break : OneBreak
one_break plan places n m a b = elim (cases_order (length a.past) (length b.past)) [
  | inl same ↦ sym a.before ∙ ap (λ k. k + 1) same ∙ b.before
  | inr (inl shorter) ↦ let more = goes-on-within plan places a.past b.past a.spoken b.spoken shorter in absurd (broken-turn plan places n more.0 a more.1)
  | inr (inr longer) ↦ let more = goes-on-within plan places b.past a.past b.spoken a.spoken longer in absurd (broken-turn plan places m more.0 b more.1)
]
