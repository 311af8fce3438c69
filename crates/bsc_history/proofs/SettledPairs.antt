-- Over each schedule there is a conversation of two stations that both have jobs, or a fate that breaks its rule.
use Rattle.std.proofs.Common.{◌≡◌, ◌⊎◌, inl, inr, ℕ, zero, suc, ◌+◌, ◌<◌, ◌≤◌, Bool, true, false, List, [], ◌∷◌, length, slice_get, get_or, Some, None, refl, arith, add-one}
use Rattle.std.proofs.lemmas.Bool.{cases_Bool, false≢true}
use Rattle.std.proofs.lemmas.Option.{slice_get-get_or}
use Rattle.bsc_link.specs.declared.sound.Sound.{Sound}
use Rattle.bsc_history.specs.declared.bids.Bids.{Bids}
use Rattle.bsc_history.specs.declared.spoken_turn.SpokenTurn.{SpokenTurn}
use Rattle.bsc_history.specs.declared.sound_turn.SoundTurn.{SoundTurn}
use Rattle.bsc_history.specs.History.{History, Plan, is_over}
use Rattle.bsc_history.specs.Known.{gives_up_now}
use Rattle.bsc_history.specs.declared.sound_fate.SoundFate.{SoundFate}
use Rattle.bsc_history.specs.Fate.{sound_of}
use Rattle.bsc_history.specs.SayingRule.{saying}
use Rattle.bsc_history.specs.Conversation.{Follows}
use Rattle.bsc_history.specs.Pair.{SpokenPair, PairHistory, up, down, is_bid_out, is_open, as_counted, due, is_something}
use Rattle.bsc_history.specs.PairCount.{down_gives_up}
use Rattle.bsc_history.specs.PairConversation.{PairFollows, primary_speaks, secondary_speaks}
use Rattle.bsc_history.specs.PairSchedule.{PairPlace, IsVain, IsPairAt, IsPairSpokenOver, IsPairConversationOver, BreaksPairRule, PairBreaksAt, EveryPairSchedule}
use Rattle.bsc_history.proofs.Line.{lost-after}
use Rattle.bsc_history.proofs.Phases.{turn}
use Rattle.bsc_history.proofs.Within.{and-left}
use Rattle.bsc_history.proofs.Settled.{alone-turn, any-place}
use Rattle.bsc_history.proofs.OnePairConversation.{vain-follows, silent-says, pair-turn}

-- a station at which something is due isn't over
due-goes : (plan : Plan) (gives_up : Bool) (own other : History) → is_something (due plan gives_up own other) ≡ true → is_over own ≡ false
due-goes [] gives_up own other e = absurd (false≢true e)
due-goes (b ∷ plan) gives_up own other e = elim (cases_Bool (is_open other)) [
  | inl receives ↦ absurd (false≢true (rw receives at e))
  | inr closed ↦ elim (cases_Bool (is_over own)) [
    | inl over ↦ absurd (false≢true (rw (closed, over) at e))
    | inr goes ↦ goes
  ]
]

-- a station's turn in which nothing arrives
lost-turn : (bid_out : Bool) (plan : Plan) (gives_up : Bool) (past : History) (place : SoundTurn) → is_over past ≡ false → (t : SpokenTurn) × Follows plan gives_up past (as_counted bid_out t) × IsVain place t × (t.arrived ≡ Sound.Quiet)
lost-turn bid_out plan gives_up past place goes =
    let t : SpokenTurn = turn (saying plan gives_up past) Sound.Quiet false None Sound.Quiet place.wish place.pause in
    (t, vain-follows bid_out plan gives_up past t goes refl refl refl refl refl, record { refused = refl; wish = refl; pause = refl }, refl)

-- it goes on, and k turns were spoken
record PairGoesOn (p q : Plan) (places : List PairPlace) (k : ℕ) : Type 0 where
  h : PairHistory
  long : length h ≡ k
  spoken : IsPairSpokenOver p q places h

abbrev IsPairSettled : Plan → Plan → List PairPlace → Type 0
IsPairSettled p q places = ((h : PairHistory) × IsPairConversationOver p q places h) ⊎ ((n : ℕ) × PairBreaksAt p q places n)

any-pair_place : PairPlace
any-pair_place = record { bids = Bids.Both; place = any-place }

module _ (p q : Plan) (places : List PairPlace) (k : ℕ) (place : PairPlace) (g : PairGoesOn p q places k) (here : slice_get places (length g.h) ≡ Some place) where
  abbrev up_gives_up : Bool
  up_gives_up = gives_up_now (up g.h)

  abbrev bid_out : Bool
  bid_out = is_bid_out (up g.h)

  abbrev up_speaks : Bool
  up_speaks = primary_speaks p q up_gives_up (down_gives_up g.h) g.h place.bids

  abbrev down_speaks : Bool
  down_speaks = secondary_speaks p q up_gives_up (down_gives_up g.h) g.h place.bids

  abbrev Next : Type 0
  Next = IsPairSettled p q places ⊎ PairGoesOn p q places (k + 1)

  up-goes : up_speaks ≡ true → is_over (up g.h) ≡ false
  up-goes e = due-goes p up_gives_up (up g.h) (down g.h) (and-left _ _ e)

  down-goes : down_speaks ≡ true → is_over (down g.h) ≡ false
  down-goes e = due-goes q (down_gives_up g.h) (down g.h) (up g.h) (and-left _ _ e)

  pair-more : (t : SpokenPair) → PairFollows p q up_gives_up (down_gives_up g.h) g.h t → IsPairAt place t → Next
  pair-more t f at = inr (record { h = t ∷ g.h; long = omega (arith, g.long); spoken = record { conversation = (f, g.spoken.conversation); placed = ((place, here, at), g.spoken.placed) } })

  pair-broken : BreaksPairRule p q g.h place → Next
  pair-broken broken = inl (inr (length g.h + 1, record { past = g.h; before = refl; spoken = g.spoken; place = place; here = here; breaks = broken }))

  primary-next : up_speaks ≡ true → down_speaks ≡ false → Next
  primary-next says rests = elim (alone-turn false p up_gives_up (up g.h) place.place (up-goes says)) [
    | inl broken ↦ pair-broken (inl (says, rests, broken))
    | inr (t, f, at) ↦ pair-more (pair-turn place.bids (Some t) None) (record { goes_on = inl says; primary = (says, f); secondary = rests; arrived = tt; collide = tt }) (record { bids = refl; parts = at })
  ]

  secondary-next : up_speaks ≡ false → down_speaks ≡ true → Next
  secondary-next rests says = elim (alone-turn bid_out q (down_gives_up g.h) (down g.h) place.place (down-goes says)) [
    | inl broken ↦ pair-broken (inr (rests, says, broken))
    | inr (t, f, at) ↦ pair-more (pair-turn place.bids None (Some t)) (record { goes_on = inr says; primary = rests; secondary = (says, f); arrived = (place.place.up, at.up); collide = tt }) (record { bids = refl; parts = at })
  ]

  both-next : up_speaks ≡ true → down_speaks ≡ true → Next
  both-next says speaking =
      let t = lost-turn false p up_gives_up (up g.h) place.place (up-goes says) in
      let u = lost-turn bid_out q (down_gives_up g.h) (down g.h) place.place (down-goes speaking) in
      pair-more (pair-turn place.bids (Some t.0) (Some u.0))
      (record { goes_on = inl says; primary = (says, t.1); secondary = (speaking, u.1); arrived = (SoundFate.Lost, rw u.3 (lost-after (sound_of u.0.said))); collide = (t.3, u.3) }) (record { bids = refl; parts = (t.2, u.2) })

  none-next : up_speaks ≡ false → down_speaks ≡ false → Next
  none-next rests silent =
      let both = silent-says (due p up_gives_up (up g.h) (down g.h)) (due q (down_gives_up g.h) (down g.h) (up g.h)) place.bids rests silent in
      inl (inl (g.h, record { spoken = g.spoken; whole = inr (record { primary = both.0; secondary = both.1 }) }))

  one-more-pair : Next
  one-more-pair = elim (cases_Bool up_speaks) [
    | inl says ↦ elim (cases_Bool down_speaks) [ inl speaking ↦ both-next says speaking | inr silent ↦ primary-next says silent ]
    | inr rests ↦ elim (cases_Bool down_speaks) [ inl speaking ↦ secondary-next rests speaking | inr silent ↦ none-next rests silent ]
  ]

pair-settled-within : (p q : Plan) (places : List PairPlace) (k : ℕ) → k ≤ length places → IsPairSettled p q places ⊎ PairGoesOn p q places k
pair-settled-within p q places zero within = inr (record { h = []; long = refl; spoken = record { conversation = tt; placed = tt } })
pair-settled-within p q places (suc k) within = elim (pair-settled-within p q places k (omega (arith, within))) [
  | inl settled ↦ inl settled
  | inr g ↦
      let less : length g.h < length places = omega (arith, g.long, within) in
      rw (← add-one k) (one-more-pair p q places k (get_or places (length g.h) any-pair_place) g (slice_get-get_or places (length g.h) any-pair_place less))
]

pair-settled-all : (p q : Plan) (places : List PairPlace) → IsPairSettled p q places ⊎ PairGoesOn p q places (length places) → IsPairSettled p q places
pair-settled-all p q places (inl settled) = settled
pair-settled-all p q places (inr g) = inl (g.h, record { spoken = g.spoken; whole = inl g.long })

pub every_pair_schedule : EveryPairSchedule
every_pair_schedule p q places = pair-settled-all p q places (pair-settled-within p q places (length places) (omega arith))
