-- Where a looked-at fate breaks a rule there is no conversation.
use Rattle.std.proofs.Common.{Bool, ◌≡◌, ◌≢◌, inl, inr, ℕ, ◌<◌, false, ◌&&◌, List, [], ◌∷◌, length, slice_get, Some, None, refl, ap, sym, ◌∙◌, subst, arith}
use Rattle.std.proofs.lemmas.Bool.{cases_order}
use Rattle.std.proofs.lemmas.Option.{slice_get_within, same_Some}
use Rattle.bsc_codes.specs.declared.block.Block.{Block}
use Rattle.bsc_frame.specs.declared.frame.Frame.{Frame}
use Rattle.bsc_frame.specs.Laws.{OneHearing}
use Rattle.bsc_frame.specs.Written.{Written}
use Rattle.bsc_link.specs.declared.reply.Reply.{Reply}
use Rattle.bsc_link.specs.declared.say.Say.{Say}
use Rattle.bsc_link.specs.declared.sound.Sound.{Sound}
use Rattle.rje_station.specs.Hearing.{sound_heard}
use Rattle.rje_station.specs.Sending.{IsWrittenOf}
use Rattle.line_world.specs.declared.fate.Fate.{Fate}
use Rattle.bsc_history.specs.declared.sound_fate.SoundFate.{SoundFate}
use Rattle.bsc_history.specs.declared.sound_turn.SoundTurn.{SoundTurn}
use Rattle.bsc_history.specs.declared.spoken_turn.SpokenTurn.{SpokenTurn}
use Rattle.line_world.specs.declared.turn.Turn.{Turn}
use Rattle.bsc_history.specs.History.{History, is_over}
use Rattle.bsc_history.specs.Known.{gives_up_now}
use Rattle.bsc_history.specs.Conversation.{IsAt, Follows, IsSpokenOver, is_block}
use Rattle.line_world.specs.Damage.{Tells, Fits, HasBadCut, IsNoDamage}
use Rattle.bsc_history.specs.Fate.{is_damage_of, sound_of, sound_of_reply, after_fate}
use Rattle.line_world.specs.Plan.{plan_of}
use Rattle.bsc_history.specs.SayingRule.{saying}
use Rattle.line_world.specs.Run.{TellsTurn, FitsReply, FitsTurn, FitsAtItsPlace, IsConversationOn, BreaksTurn, BreaksFirst, as_it_is, NoDamageNoConversation, BadCutNoConversation}
use Rattle.line_world.proofs.Telling.{telling}
use Rattle.bsc_history.proofs.ForRuns.{same-history, rest, goes-on-within, no-longer, true-false, saying-speaks}

-- ---- Bytes that are sent are one.

written_one : (f : Frame) (a b : List ℕ) → Written f a → Written f b → a ≡ b
written_one f a b w v = w.whole ∙ sym v.whole

due_one : (say : Say) (rest : List Block) (a b : List ℕ) → IsWrittenOf say rest a → IsWrittenOf say rest b → a ≡ b
due_one Say.Bid rest a b w v = written_one _ a b w v
due_one Say.Ask rest a b w v = written_one _ a b w v
due_one Say.Delay rest a b w v = written_one _ a b w v
due_one Say.End rest a b w v = written_one _ a b w v
due_one Say.Block [] a b w v = absurd w
due_one Say.Block (x ∷ rest) a b w v = written_one _ a b w v
due_one Say.Again [] a b w v = absurd w
due_one Say.Again (x ∷ rest) a b w v = written_one _ a b w v
due_one Say.Nothing rest a b w v = absurd w

-- ---- A fate that fits, and leaves something, breaks no rule.

abbrev pub Keeps : (Fate → Sound → List ℕ → Type 0) → Type 0
Keeps Breaks = (fate : Fate) (said : Sound) (sent : List ℕ) (told : SoundFate) (x : Sound) → said ≢ Sound.Quiet → Fits fate sent → Tells fate told → after_fate told said ≡ Some x → Breaks fate said sent → ⊥

pub cuts_kept : Keeps HasBadCut
cuts_kept (Fate.Arrives cuts) said sent told x n fits tells after b = b fits
cuts_kept Fate.Lost said sent told x n fits tells after b = b
cuts_kept (Fate.Damaged bytes) said sent told x n fits tells after b = b

none_after : (said y x : Sound) → said ≢ Sound.Quiet → is_damage_of said y ≡ false → after_fate (SoundFate.Damaged y) said ≡ Some x → ⊥
none_after Sound.Quiet y x n e after = n refl
none_after Sound.Block y x n e after = let f : None ≡ Some x = rw e at after in absurd cc
none_after Sound.Ttd y x n e after = let f : None ≡ Some x = rw e at after in absurd cc
none_after _ y x n e after = let f : None ≡ Some x = rw e at after in absurd cc

damage_kept_as : OneHearing → (said x y z : Sound) (bytes : List ℕ) (told : SoundFate) → said ≢ Sound.Quiet → told ≡ SoundFate.Damaged y → after_fate told said ≡ Some x → z ≡ y → is_damage_of said z ≡ false → ⊥
damage_kept_as one said x y z bytes told n is after same e = none_after said y x n (subst (λ s. is_damage_of said s ≡ false) same e) (rw is at after)

pub damage_kept : OneHearing → Keeps IsNoDamage
damage_kept one (Fate.Arrives cuts) said sent told x n fits tells after b = b
damage_kept one Fate.Lost said sent told x n fits tells after b = b
damage_kept one (Fate.Damaged bytes) said sent told x n fits tells after (inl many) = absurd (omega (arith, many, fits))
damage_kept one (Fate.Damaged bytes) said sent told x n fits (y, heard, is) after (inr (z, wrong, e)) =
    let same : z ≡ y = wrong.sound_is ∙ ap sound_heard (one bytes.items wrong.what heard.what wrong.heard heard.heard) ∙ sym heard.sound_is in
    damage_kept_as one said x y z bytes.items told n is after same e

-- ---- The turn that stands where a fate breaks a rule.

pub record FittingTurn {X T : Type 0} (Fits : List T → T → X → Type 0) (turns : List X) (IsSpoken : List T → Type 0) (past : List T) : Type 0 where
  pub t : T
  pub spoken : IsSpoken (t ∷ past)
  pub turn : X
  pub here : slice_get turns (length past) ≡ Some turn
  pub fits : Fits past t turn

-- of two histories that may be spoken and are one where they are as long, the longer one has a turn where the shorter one ends
pub fits_within : {X T : Type 0} (Fits : List T → T → X → Type 0) (turns : List X) (IsSpoken : List T → Type 0) → ((t : T) (past : List T) → IsSpoken (t ∷ past) → IsSpoken past)
    → ((h g : List T) → IsSpoken h → IsSpoken g → length h ≡ length g → h ≡ g)
    → (h g : List T) → IsSpoken h → IsSpoken g → FitsAtItsPlace Fits turns g → length h < length g → FittingTurn Fits turns IsSpoken h
fits_within Fits turns IsSpoken before one h [] s r fits less = absurd (omega (arith, less))
fits_within Fits turns IsSpoken before one h (u ∷ g) s r fits less = elim (cases_order (length h) (length g)) [
  | inl same ↦
      let e : g ≡ h = sym (one h g s (before u g r) same) in
      subst (FittingTurn Fits turns IsSpoken) e (record { t = u; spoken = r; turn = fits.0.0; here = fits.0.1; fits = fits.0.2 })
  | inr (inl shorter) ↦ fits_within Fits turns IsSpoken before one h g s (before u g r) fits.1 shorter
  | inr (inr longer) ↦ absurd (omega (arith, less, longer))
]

speaks_some : (say : Say) → say ≢ Say.Nothing → sound_of say ≢ Sound.Quiet
speaks_some Say.Bid n = λ e. cc
speaks_some Say.Ask n = λ e. cc
speaks_some Say.Delay n = λ e. cc
speaks_some Say.End n = λ e. cc
speaks_some Say.Block n = λ e. cc
speaks_some Say.Again n = λ e. cc
speaks_some Say.Nothing n = absurd (n refl)

reply_some : (reply : Reply) → sound_of_reply (Some reply) ≢ Sound.Quiet
reply_some Reply.Ack0 = λ e. cc
reply_some Reply.Ack1 = λ e. cc
reply_some Reply.Nak = λ e. cc
reply_some Reply.Wack = λ e. cc
reply_some Reply.Rvi = λ e. cc

none_planned : (blocks : List Block) → plan_of blocks ≡ [] → blocks ≡ []
none_planned [] e = refl
none_planned (b ∷ bs) e = absurd cc

-- `u` is the turn `t` as it counts
pub record AsCounted (counts : Sound → Sound) (t u : SpokenTurn) : Type 0 where
  pub said : t.said ≡ u.said
  pub arrived : u.arrived ≡ counts t.arrived
  pub refused : t.refused ≡ u.refused
  pub reply : t.reply ≡ u.reply
  pub wish : t.wish ≡ u.wish

as_said : (t : SpokenTurn) → AsCounted as_it_is t t
as_said t = record { said = refl; arrived = refl; refused = refl; reply = refl; wish = refl }

-- no turn that fits stands at a place of which a fate breaks a rule; `u` is the turn as it counts
pub no_turn : (Breaks : Fate → Sound → List ℕ → Type 0) → Keeps Breaks → (counts : Sound → Sound) → (blocks : List Block) (gives_up : Bool) (past : History) (turn : Turn) (place : SoundTurn) (t u : SpokenTurn)
    → Follows (plan_of blocks) gives_up past u → AsCounted counts t u → IsAt place t → FitsTurn blocks gives_up past t turn → TellsTurn turn place → BreaksTurn Breaks counts blocks gives_up past turn place → ⊥
no_turn Breaks keeps counts blocks gives_up past turn place t u f k at fits tells b =
    let plan = plan_of blocks in
    let said : Sound = sound_of (saying plan gives_up past) in
    let some : said ≢ Sound.Quiet = speaks_some _ (saying-speaks plan gives_up past f.goes_on) in
    let up : after_fate place.up said ≡ Some t.arrived = ap (λ x. after_fate place.up (sound_of x)) (sym (k.said ∙ f.said)) ∙ at.up in
    let sent : fits.up.0 ≡ b.sent = due_one (saying plan gives_up past) _ _ _ fits.up.1 b.due in
    elim b.breaks [
      | inl broken ↦ keeps turn.up said b.sent place.up t.arrived some (subst (Fits turn.up) sent fits.up.2) tells.up up broken
      | inr down ↦
          let same : t.arrived ≡ down.arrived = same_Some _ _ (sym up ∙ down.up) in
          let counted : u.arrived ≡ counts down.arrived = k.arrived ∙ ap counts same in
          let refused : u.refused ≡ (place.refused && is_block down.arrived) = sym k.refused ∙ at.refused ∙ ap (λ x. place.refused && is_block x) same in
          let wish : u.wish ≡ turn.wish = sym k.wish ∙ at.wish ∙ tells.wish in
          let reply : t.reply ≡ Some down.reply = k.reply ∙ f.replied ∙ rw (counted, refused, wish) down.replies in
          let heard : after_fate place.down (sound_of_reply (Some down.reply)) ≡ Some t.heard = ap (λ x. after_fate place.down (sound_of_reply x)) (sym reply) ∙ at.down in
          let fitting : FitsReply turn.down (Some down.reply) = subst (FitsReply turn.down) reply fits.down in
          let bytes : fitting.0 ≡ down.reply_sent = written_one _ _ _ fitting.1 down.written in
          keeps turn.down (sound_of_reply (Some down.reply)) down.reply_sent place.down t.heard (reply_some down.reply) (subst (Fits turn.down) bytes fitting.2) tells.down heard down.breaks
    ]

module _ (Breaks : Fate → Sound → List ℕ → Type 0) (keeps : Keeps Breaks) (blocks : List Block) (turns : List Turn) (places : List SoundTurn) (h : History) (n : ℕ)
    (c : IsConversationOn blocks turns places h) (b : BreaksFirst Breaks blocks turns places n) where
  stands_there : FittingTurn (λ past t turn. FitsTurn blocks (gives_up_now past) past t turn) turns (IsSpokenOver (plan_of blocks) places) b.past → ⊥
  stands_there g =
      let turn : g.turn ≡ b.turn = same_Some _ _ (sym g.here ∙ b.here) in
      let tells : TellsTurn b.turn b.place = telling TellsTurn turns places (length b.past) b.turn b.place b.told b.here b.there in
      let place : g.spoken.placed.0.0 ≡ b.place = same_Some _ _ (sym g.spoken.placed.0.1 ∙ b.there) in
      no_turn Breaks keeps as_it_is blocks (gives_up_now b.past) b.past b.turn b.place g.t g.t g.spoken.conversation.0 (as_said g.t) (subst (λ x. IsAt x g.t) place g.spoken.placed.0.2) (subst (FitsTurn blocks (gives_up_now b.past) b.past g.t) turn g.fits) tells b.breaks

  plan_none : plan_of blocks ≡ [] → blocks ≡ []
  plan_none = none_planned blocks

  pub no_conversation : ⊥
  no_conversation = elim (cases_order (length b.past) (length h)) [
    | inl same ↦
        let e : b.past ≡ h = same-history (plan_of blocks) places b.past h b.spoken c.conversation.spoken same in
        elim c.conversation.whole [
          | inl none ↦ b.some_block (plan_none none)
          | inr (inl long) ↦
              let within : length b.past < length places = slice_get_within places (length b.past) b.place b.there in
              absurd (omega (arith, long, within, same))
          | inr (inr over) ↦ true-false (is_over h) over (ap is_over (sym e) ∙ b.goes_on)
        ]
    | inr (inl shorter) ↦ stands_there (fits_within _ turns _ (rest (plan_of blocks) places) (same-history (plan_of blocks) places) b.past h b.spoken c.conversation.spoken c.fits shorter)
    | inr (inr longer) ↦ let more = goes-on-within (plan_of blocks) places h b.past c.conversation.spoken b.spoken longer in no-longer (plan_of blocks) places h more.0 c.conversation (λ none. b.some_block (plan_none none)) more.1
  ]

pub no_damage_no_conversation : OneHearing → NoDamageNoConversation
no_damage_no_conversation one blocks turns places h n c b = no_conversation IsNoDamage (damage_kept one) blocks turns places h n c b

pub bad_cut_no_conversation : BadCutNoConversation
bad_cut_no_conversation blocks turns places h n c b = no_conversation HasBadCut cuts_kept blocks turns places h n c b
