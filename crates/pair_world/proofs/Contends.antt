-- Both contenders stand where looking back says.
use Rattle.std.proofs.Common.{◌≡◌, inl, inr, Bool, true, false, not, if◌then◌else◌, [], ◌∷◌, Some, None, refl, sym, ap, ◌∙◌}
use Rattle.std.proofs.lemmas.Bool.{false≢true, cases_Bool, not-true}
use Rattle.std.proofs.Math.Bool.{and-true}
use Rattle.bsc_link.specs.declared.rank.Rank.{Rank}
use Rattle.bsc_link.specs.declared.sound.Sound.{Sound}
use Rattle.bsc_link.specs.Contender.{ContenderState, first_contender_state, takes_enq}
use Rattle.bsc_history.specs.declared.spoken_turn.SpokenTurn.{SpokenTurn}
use Rattle.bsc_history.specs.History.{History, Plan, is_over}
use Rattle.bsc_history.specs.Known.{has_grant}
use Rattle.bsc_history.specs.ReplyRule.{was_bid}
use Rattle.bsc_history.specs.Fate.{sound_of, MayBeHeardAs}
use Rattle.bsc_history.specs.Conversation.{Follows, MayBeSpoken}
use Rattle.bsc_history.proofs.ForRuns.{Phase, Phase-from_spoken, and-false, and-left, true-false}
use Rattle.bsc_history.specs.declared.bids.Bids.{Bids}
use Rattle.bsc_history.specs.Pair.{PairHistory, up, down, is_bid_out, is_open, without_enq, as_counted, due, is_something}
use Rattle.pair_world.specs.Contending.{own_turn, other_turn, is_sending, place_of}
use Rattle.pair_world.proofs.Contenders.{own-step, noted-step, other-step, noted-at, lost-at, noted-lost, rank-own, rank-other, takes-secondary, takes-primary}

-- something is due only where the station doesn't receive
pub due-closed : (plan : Plan) (g : Bool) (own other : History) → is_something (due plan g own other) ≡ true → is_open other ≡ false
due-closed [] g own other e = absurd (false≢true e)
due-closed (b ∷ plan) g own other e = elim (cases_Bool (is_open other)) [ inl o ↦ absurd (false≢true (rw o at e)) | inr o ↦ o ]

closed-phase : (own : History) → Phase own → was_bid own ≡ false → has_grant own ≡ false
closed-phase own (inl early) none = early.ungranted
closed-phase own (inr (inl level)) none = absurd (true-false _ level.bid_for none)
closed-phase own (inr (inr ahead)) none = absurd (true-false _ ahead.bid_for none)

-- a sender whose receiver wasn't bid for has no grant
pub closed-ungranted : (plan : Plan) (own : History) → MayBeSpoken plan own → is_open own ≡ false → is_over own ≡ false → has_grant own ≡ false
closed-ungranted plan own spoken closed goes = closed-phase own (Phase-from_spoken plan own spoken) (sym (and-true (was_bid own)) ∙ (rw goes at closed))

closed-sending : (plan : Plan) (own : History) → MayBeSpoken plan own → is_open own ≡ false → is_sending own ≡ false
closed-sending plan own spoken closed = elim (cases_Bool (is_over own)) [
  | inl over ↦ rw over (and-false (has_grant own) false refl)
  | inr goes ↦ rw (closed-ungranted plan own spoken closed goes) refl
]

-- WHERE BOTH CONTENDERS STAND

pub record Contends (h : PairHistory) (a b : ContenderState) : Type 0 where
  pub p_rank : a.rank ≡ Rank.Primary
  pub q_rank : b.rank ≡ Rank.Secondary
  pub p_place : a.place ≡ place_of (is_open (down h)) (is_sending (up h))
  pub q_place : b.place ≡ place_of (is_open (up h)) (is_sending (down h))
  pub p_noted : a.bid_noted ≡ is_bid_out (up h)
  pub apart : is_open (down h) ≡ true → is_bid_out (up h) ≡ false

pub contends_first : Contends [] (first_contender_state Rank.Primary) (first_contender_state Rank.Secondary)
contends_first = record { p_rank = refl; q_rank = refl; p_place = refl; q_place = refl; p_noted = refl; apart = λ o. refl }

module _ (p q : Plan) (past : PairHistory) (a b : ContenderState) (s : Contends past a b) (up_spoken : MayBeSpoken p (up past)) (down_spoken : MayBeSpoken q (down past)) where
  -- who takes an ENQ, while the other may speak
  pub primary_takes : is_open (up past) ≡ false → takes_enq a ≡ not (is_bid_out (up past))
  primary_takes closed =
      let idle = closed-sending p (up past) up_spoken closed in
      takes-primary a (is_open (down past)) (is_bid_out (up past)) s.p_rank (s.p_place ∙ ap (place_of (is_open (down past))) idle) s.p_noted s.apart

  pub secondary_takes : is_open (down past) ≡ false → takes_enq b ≡ true
  secondary_takes closed =
      let idle = closed-sending q (down past) down_spoken closed in
      takes-secondary b (is_open (up past)) s.q_rank (s.q_place ∙ ap (place_of (is_open (up past))) idle)

  -- THE PRIMARY SPEAKS ALONE

  pub primary_alone : (bids : Bids) (g : Bool) (u : SpokenTurn) → is_open (down past) ≡ false → Follows p g (up past) u
      → Contends (record { bids = bids; primary = Some u; secondary = None } ∷ past) (own_turn u.said u.heard a) (other_turn u.said u.arrived b)
  primary_alone bids g u closed f =
      let idle : is_sending (down past) ≡ false = closed-sending q (down past) down_spoken closed in
      let place : a.place ≡ place_of false (is_sending (up past)) = s.p_place ∙ ap (λ x. place_of x (is_sending (up past))) closed in
      let theirs : b.place ≡ place_of (is_open (up past)) false = s.q_place ∙ ap (place_of (is_open (up past))) idle in
      record {
        p_rank = rank-own u.said u.heard a ∙ s.p_rank;
        q_rank = rank-other u.said u.arrived b ∙ s.q_rank;
        p_place = own-step p g a (up past) u f place ∙ ap (λ x. place_of x (is_sending (u ∷ up past))) (sym closed);
        q_place = other-step p g false b (up past) u f f.arrived (secondary_takes closed) theirs ∙ ap (place_of (is_open (u ∷ up past))) (sym idle);
        p_noted = noted-step p g a (up past) u f place s.p_noted;
        apart = λ o. absurd (true-false _ o closed);
      }

  -- THE SECONDARY SPEAKS ALONE

  -- an ENQ opens the direction only while the primary's bid isn't out
  opens-at : (was bid_out : Bool) (arrived : Sound) → elim (if bid_out then without_enq arrived else arrived) [ Sound.Enq ↦ true | _ ↦ was ] ≡ true → (was ≡ true → bid_out ≡ false) → bid_out ≡ false
  opens-at was false arrived e apart = refl
  opens-at was true Sound.Enq e apart = apart e
  opens-at was true _ e apart = apart e

  pub secondary_alone : (bids : Bids) (g : Bool) (v : SpokenTurn) → is_open (up past) ≡ false → Follows q g (down past) (as_counted (is_bid_out (up past)) v) → MayBeHeardAs (sound_of v.said) v.arrived
      → Contends (record { bids = bids; primary = None; secondary = Some v } ∷ past) (other_turn v.said v.arrived a) (own_turn v.said v.heard b)
  secondary_alone bids g v closed f may =
      let bid_out = is_bid_out (up past) in
      let idle : is_sending (up past) ≡ false = closed-sending p (up past) up_spoken closed in
      let place : b.place ≡ place_of false (is_sending (down past)) = s.q_place ∙ ap (λ x. place_of x (is_sending (down past))) closed in
      let theirs : a.place ≡ place_of (is_open (down past)) false = s.p_place ∙ ap (place_of (is_open (down past))) idle in
      let takes = primary_takes closed in
      let apart : was_bid (down past) ≡ true → bid_out ≡ false = λ x. s.apart (rw (x, f.goes_on) refl) in
      record {
        p_rank = rank-other v.said v.arrived a ∙ s.p_rank;
        q_rank = rank-own v.said v.heard b ∙ s.q_rank;
        p_place = other-step q g bid_out a (down past) v f may takes theirs ∙ ap (place_of (is_open (as_counted bid_out v ∷ down past))) (sym idle);
        q_place = own-step q g b (down past) (as_counted bid_out v) f place ∙ ap (λ x. place_of x (is_sending (as_counted bid_out v ∷ down past))) (sym closed);
        p_noted = noted-at v.said v.arrived a (λ e. s.p_noted ∙ not-true bid_out (sym takes ∙ e)) ∙ s.p_noted;
        apart = λ o. opens-at (was_bid (down past)) bid_out v.arrived (and-left _ _ o) apart;
      }

  -- BOTH SPEAK

  lost-closed : (own : History) (bid_out : Bool) (t : SpokenTurn) → t.arrived ≡ Sound.Quiet → was_bid own ≡ false → is_open (as_counted bid_out t ∷ own) ≡ false
  lost-closed own true t e none = rw (e, none) refl
  lost-closed own false t e none = rw (e, none) refl

  pub both_speak : (bids : Bids) (g k : Bool) (u v : SpokenTurn) → is_open (up past) ≡ false → is_open (down past) ≡ false → Follows p g (up past) u → Follows q k (down past) (as_counted (is_bid_out (up past)) v) → u.arrived ≡ Sound.Quiet → v.arrived ≡ Sound.Quiet
      → Contends (record { bids = bids; primary = Some u; secondary = Some v } ∷ past) (other_turn v.said Sound.Quiet (own_turn u.said u.heard a)) (other_turn u.said Sound.Quiet (own_turn v.said v.heard b))
  both_speak bids g k u v up_closed down_closed f d u_lost v_lost =
      let bid_out = is_bid_out (up past) in
      let p_place : a.place ≡ place_of false (is_sending (up past)) = s.p_place ∙ ap (λ x. place_of x (is_sending (up past))) down_closed in
      let q_place : b.place ≡ place_of false (is_sending (down past)) = s.q_place ∙ ap (λ x. place_of x (is_sending (down past))) up_closed in
      let up_none : was_bid (up past) ≡ false = sym (and-true (was_bid (up past))) ∙ (rw f.goes_on at up_closed) in
      let down_none : was_bid (down past) ≡ false = sym (and-true (was_bid (down past))) ∙ (rw d.goes_on at down_closed) in
      let up_shut : is_open (u ∷ up past) ≡ false = lost-closed (up past) false u u_lost up_none in
      let down_shut : is_open (as_counted bid_out v ∷ down past) ≡ false = lost-closed (down past) bid_out v v_lost down_none in
      record {
        p_rank = rank-other v.said Sound.Quiet (own_turn u.said u.heard a) ∙ rank-own u.said u.heard a ∙ s.p_rank;
        q_rank = rank-other u.said Sound.Quiet (own_turn v.said v.heard b) ∙ rank-own v.said v.heard b ∙ s.q_rank;
        p_place = lost-at v.said (own_turn u.said u.heard a) _ (own-step p g a (up past) u f p_place) ∙ ap (λ x. place_of x (is_sending (u ∷ up past))) (sym down_shut);
        q_place = lost-at u.said (own_turn v.said v.heard b) _ (own-step q k b (down past) (as_counted bid_out v) d q_place) ∙ ap (λ x. place_of x (is_sending (as_counted bid_out v ∷ down past))) (sym up_shut);
        p_noted = noted-lost v.said (own_turn u.said u.heard a) ∙ noted-step p g a (up past) u f p_place s.p_noted;
        apart = λ o. absurd (true-false _ o down_shut);
      }
