-- The one conversation of two stations that both have jobs over a schedule of sounds. Own profile.
use Rattle.std.specs.Prelude.{◌≡◌, ◌⊎◌, ℕ, ◌+◌, Bool, true, false, ◌&&◌, List, [], ◌∷◌, length, slice_get, Option, Some, None}
use Rattle.bsc_link.specs.declared.say.Say.{Say}
use Rattle.bsc_link.specs.declared.sound.Sound.{Sound}
use Rattle.bsc_history.specs.declared.bids.Bids.{Bids}
use Rattle.bsc_history.specs.declared.sound_turn.SoundTurn.{SoundTurn}
use Rattle.bsc_history.specs.declared.spoken_turn.SpokenTurn.{SpokenTurn}
use Rattle.bsc_history.specs.History.{History, Plan}
use Rattle.bsc_history.specs.Known.{gives_up_now}
use Rattle.bsc_history.specs.ReplyRule.{replying}
use Rattle.bsc_history.specs.SayingRule.{saying}
use Rattle.bsc_history.specs.Fate.{sound_of, sound_of_reply, after_fate}
use Rattle.bsc_history.specs.Conversation.{IsAt, is_block}
use Rattle.bsc_history.specs.Pair.{SpokenPair, PairHistory, up, down, is_bid_out, sound_counted, due}
use Rattle.bsc_history.specs.PairCount.{down_gives_up}
use Rattle.bsc_history.specs.PairConversation.{IsPairConversation, primary_speaks, secondary_speaks}

-- a place of the schedule: who speaks where both could, and a turn of sounds
pub record PairPlace : Type 0 where
  pub bids : Bids
  pub place : SoundTurn

-- in a collision the fates aren't looked at
pub record IsVain (place : SoundTurn) (t : SpokenTurn) : Type 0 where
  pub refused : t.refused ≡ false
  pub wish : t.wish ≡ place.wish
  pub pause : t.pause ≡ place.pause

-- what each station said, if it spoke, is that of its place
abbrev pub ArePartsAt : SoundTurn → Option SpokenTurn → Option SpokenTurn → Type 0
ArePartsAt place None None = Unit {0}
ArePartsAt place (Some t) None = IsAt place t
ArePartsAt place None (Some u) = IsAt place u
ArePartsAt place (Some t) (Some u) = IsVain place t × IsVain place u

pub record IsPairAt (place : PairPlace) (t : SpokenPair) : Type 0 where
  pub bids : t.bids ≡ place.bids
  pub parts : ArePartsAt place.place t.primary t.secondary

-- each turn is at its place, the oldest turn at the first
abbrev pub ArePairsAt : List PairPlace → PairHistory → Type 0
ArePairsAt places [] = Unit {0}
ArePairsAt places (t ∷ past) = ((place : PairPlace) × (slice_get places (length past) ≡ Some place) × IsPairAt place t) × ArePairsAt places past

-- these turns were spoken over the schedule, and it may go on; p, q: the blocks of the primary and of the secondary
pub record IsPairSpokenOver (p q : Plan) (places : List PairPlace) (h : PairHistory) : Type 0 where
  pub conversation : IsPairConversation p q h
  pub placed : ArePairsAt places h

-- nothing is due at either station
pub record NothingIsDue (p q : Plan) (h : PairHistory) : Type 0 where
  pub primary : due p (gives_up_now (up h)) (up h) (down h) ≡ Say.Nothing
  pub secondary : due q (down_gives_up h) (down h) (up h) ≡ Say.Nothing

-- the conversation of these blocks over this schedule: it goes on until the schedule ends or nothing is due at either
pub record IsPairConversationOver (p q : Plan) (places : List PairPlace) (h : PairHistory) : Type 0 where
  pub spoken : IsPairSpokenOver p q places h
  pub whole : (length h ≡ length places) ⊎ NothingIsDue p q h

-- a fate breaks its rule where one station speaks alone: that of what is due, or else that of the reply
abbrev pub BreaksPart : (Sound → Sound) → Plan → Bool → History → SoundTurn → Type 0
BreaksPart counts plan gives_up own place =
    let said = sound_of (saying plan gives_up own) in
    (after_fate place.up said ≡ None)
    ⊎ ((arrived : Sound) × (after_fate place.up said ≡ Some arrived)
    × (after_fate place.down (sound_of_reply (replying own (counts arrived) (place.refused && is_block arrived) place.wish)) ≡ None))

-- one station speaks alone, and this holds of its direction: what counts of a sound, its blocks, whether it gives up, and its past
abbrev pub OfOneSpeaker : Plan → Plan → PairHistory → Bids → (P Q : Type 0) → Type 0
OfOneSpeaker p q past bids P Q =
    let up_speaks = primary_speaks p q (gives_up_now (up past)) (down_gives_up past) past bids in
    let down_speaks = secondary_speaks p q (gives_up_now (up past)) (down_gives_up past) past bids in
    ((up_speaks ≡ true) × (down_speaks ≡ false) × P) ⊎ ((up_speaks ≡ false) × (down_speaks ≡ true) × Q)

-- a fate of this place breaks its rule after the past
abbrev pub BreaksPairRule : Plan → Plan → PairHistory → PairPlace → Type 0
BreaksPairRule p q past place =
    OfOneSpeaker p q past place.bids
    (BreaksPart (sound_counted false) p (gives_up_now (up past)) (up past) place.place)
    (BreaksPart (sound_counted (is_bid_out (up past))) q (down_gives_up past) (down past) place.place)

-- the first fate that breaks its rule is one of turn n, counted from 1, after the conversation of the turns before it
pub record PairBreaksAt (p q : Plan) (places : List PairPlace) (n : ℕ) : Type 0 where
  pub past : PairHistory
  pub before : length past + 1 ≡ n
  pub spoken : IsPairSpokenOver p q places past
  pub place : PairPlace
  pub here : slice_get places (length past) ≡ Some place
  pub breaks : BreaksPairRule p q past place

-- WHAT HOLDS OF SCHEDULES

-- over a schedule there is one conversation of a pair
abbrev pub OnePairConversation : Type 0
OnePairConversation =
    (p q : Plan) (places : List PairPlace) (h g : PairHistory) → IsPairConversationOver p q places h → IsPairConversationOver p q places g
    → h ≡ g

-- where there is one, no fate broke its rule
abbrev pub NonePairBreaks : Type 0
NonePairBreaks =
    (p q : Plan) (places : List PairPlace) (h : PairHistory) (n : ℕ) → IsPairConversationOver p q places h → PairBreaksAt p q places n → ⊥

-- and at most one turn's fate is the first that breaks its rule
abbrev pub OnePairBreak : Type 0
OnePairBreak = (p q : Plan) (places : List PairPlace) (n m : ℕ) → PairBreaksAt p q places n → PairBreaksAt p q places m → n ≡ m

-- every schedule is settled: it has a conversation of the pair, or a turn whose fate is the first to break its rule
abbrev pub EveryPairSchedule : Type 0
EveryPairSchedule =
    (p q : Plan) (places : List PairPlace) → ((h : PairHistory) × IsPairConversationOver p q places h) ⊎ ((n : ℕ) × PairBreaksAt p q places n)
