-- Where a looked-at fate breaks a rule there is no conversation of two stations that both have jobs.
use Rattle.std.proofs.Common.{Bool, ◌≡◌, inl, inr, ℕ, false, List, length, refl, sym, ◌∙◌, subst}
use Rattle.std.proofs.lemmas.Bool.{cases_order}
use Rattle.std.proofs.lemmas.Option.{same_Some}
use Rattle.bsc_codes.specs.declared.block.Block.{Block}
use Rattle.bsc_frame.specs.Laws.{OneHearing}
use Rattle.bsc_link.specs.declared.sound.Sound.{Sound}
use Rattle.bsc_history.specs.declared.spoken_turn.SpokenTurn.{SpokenTurn}
use Rattle.bsc_history.specs.History.{Plan}
use Rattle.bsc_history.specs.Known.{gives_up_now}
use Rattle.bsc_history.specs.Pair.{PairHistory, up, down, is_bid_out, sound_counted, as_counted}
use Rattle.bsc_history.specs.PairCount.{down_gives_up}
use Rattle.bsc_history.specs.PairSchedule.{PairPlace, IsPairAt, IsPairSpokenOver, IsPairConversationOver}
use Rattle.line_world.specs.declared.fate.Fate.{Fate}
use Rattle.pair_world.specs.declared.pair_turn.PairTurn.{PairTurn}
use Rattle.line_world.specs.Damage.{HasBadCut, IsNoDamage}
use Rattle.line_world.specs.Plan.{plan_of}
use Rattle.pair_world.specs.PairRun.{TellsPair, FitParts, IsPairConversationOn, BreaksPairFirst, NoDamageNoPair, BadCutNoPair}
use Rattle.bsc_history.proofs.ForRuns.{IsPairOf, none-alone, parts-of, same-pair_place, same-pair_history, pair-rest, pair-goes-on-within, pair-no-longer, one-speaks, unfinished}
use Rattle.line_world.proofs.ForPairs.{Keeps, cuts_kept, damage_kept, AsCounted, FittingTurn, fits_within, no_turn, telling}

-- ---- The turn that stands where a fate breaks a rule.

as_it_counts : (bid_out : Bool) (t : SpokenTurn) → AsCounted (sound_counted bid_out) t (as_counted bid_out t)
as_it_counts bid_out t = record { said = refl; arrived = refl; refused = refl; reply = refl; wish = refl }

module _ (Breaks : Fate → Sound → List ℕ → Type 0) (keeps : Keeps Breaks) (ups downs : List Block) (turns : List PairTurn) (places : List PairPlace) (h : PairHistory) (n : ℕ)
    (c : IsPairConversationOn ups downs turns places h) (b : BreaksPairFirst Breaks ups downs turns places n) where
  abbrev p : Plan
  p = plan_of ups

  abbrev q : Plan
  q = plan_of downs

  stands_there : FittingTurn (λ past t turn. FitParts ups downs past turn.turn t.primary t.secondary) turns (IsPairSpokenOver p q places) b.past → ⊥
  stands_there g =
      let past = b.past in
      let turn : g.turn ≡ b.turn = same_Some _ _ (sym g.here ∙ b.here) in
      let place : g.spoken.placed.0.0 ≡ b.place = same-pair_place _ _ (sym g.spoken.placed.0.1 ∙ b.there) in
      let tells : TellsPair b.turn b.place = telling TellsPair turns places (length past) b.turn b.place b.told b.here b.there in
      let parts = parts-of p q past b.place g.t g.spoken.conversation.0 (subst (λ x. IsPairAt x g.t) place g.spoken.placed.0.2) in
      none-alone p q past b.turn.bids b.place.place (FitParts ups downs past b.turn.turn) _ _
      (λ t f at fits broken. no_turn Breaks keeps (sound_counted false) ups (gives_up_now (up past)) (up past) b.turn.turn b.place.place t t f (as_it_counts false t) at fits tells.tells broken)
      (λ u f at fits broken. no_turn Breaks keeps (sound_counted (is_bid_out (up past))) downs (down_gives_up past) (down past) b.turn.turn b.place.place u (as_counted (is_bid_out (up past)) u) f (as_it_counts (is_bid_out (up past)) u) at fits tells.tells broken)
      g.t.primary g.t.secondary (subst (λ x. IsPairOf p q past x b.place.place g.t.primary g.t.secondary) tells.bids parts)
      (subst (λ x. FitParts ups downs past x.turn g.t.primary g.t.secondary) turn g.fits) b.breaks

  pub no_pair : ⊥
  no_pair = elim (cases_order (length b.past) (length h)) [
    | inl same ↦
        let e : h ≡ b.past = sym (same-pair_history p q places b.past h b.spoken c.conversation.spoken same) in
        unfinished p q places b.past b.place b.turn.bids (subst (IsPairConversationOver p q places) e c.conversation) b.there (one-speaks _ _ _ _ b.breaks)
    | inr (inl shorter) ↦ stands_there (fits_within _ turns _ (pair-rest p q places) (same-pair_history p q places) b.past h b.spoken c.conversation.spoken c.fits shorter)
    | inr (inr longer) ↦ let more = pair-goes-on-within p q places h b.past c.conversation.spoken b.spoken longer in pair-no-longer p q places h more.0 c.conversation more.1
  ]

pub no_damage_no_pair : OneHearing → NoDamageNoPair
no_damage_no_pair one ups downs turns places h n c b = no_pair IsNoDamage (damage_kept one) ups downs turns places h n c b

pub bad_cut_no_pair : BadCutNoPair
bad_cut_no_pair ups downs turns places h n c b = no_pair HasBadCut cuts_kept ups downs turns places h n c b
