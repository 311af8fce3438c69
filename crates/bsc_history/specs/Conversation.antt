-- Conversations: histories in which each turn follows from those before it, by the saying rule, the reply rule and the line; and the one
-- conversation over a schedule of sounds. Own profile.
use Rattle.std.specs.Prelude.{◌≡◌, ◌⊎◌, ℕ, ◌+◌, Bool, true, false, ◌&&◌, List, [], ◌∷◌, length, slice_get, Some, None}
use Rattle.bsc_link.specs.declared.sound.Sound.{Sound}
use Rattle.bsc_history.specs.declared.spoken_turn.SpokenTurn.{SpokenTurn}
use Rattle.bsc_history.specs.declared.sound_turn.SoundTurn.{SoundTurn}
use Rattle.bsc_history.specs.History.{History, Plan, is_over}
use Rattle.bsc_history.specs.Known.{gives_up_now}
use Rattle.bsc_history.specs.ReplyRule.{replying}
use Rattle.bsc_history.specs.SayingRule.{saying}
use Rattle.bsc_history.specs.Fate.{sound_of, sound_of_reply, after_fate, MayBeHeardAs}

-- the turn may follow the past, by both rules and the line; only a block can be refused
pub record Follows (plan : Plan) (gives_up : Bool) (past : History) (t : SpokenTurn) : Type 0 where
  pub goes_on : is_over past ≡ false
  pub said : t.said ≡ saying plan gives_up past
  pub arrived : MayBeHeardAs (sound_of t.said) t.arrived
  pub refusal : t.refused ≡ true → t.arrived ≡ Sound.Block
  pub replied : t.reply ≡ replying past t.arrived t.refused t.wish
  pub heard : MayBeHeardAs (sound_of_reply t.reply) t.heard

-- a conversation in which the sender may give up at any turn, or at none
abbrev pub MayBeSpoken : Plan → History → Type 0
MayBeSpoken plan [] = Unit {0}
MayBeSpoken plan (t ∷ past) = ((gives_up : Bool) × Follows plan gives_up past t) × MayBeSpoken plan past

-- a conversation: the sender gives up after seven tries or three hundred holds
abbrev pub IsConversation : Plan → History → Type 0
IsConversation plan [] = Unit {0}
IsConversation plan (t ∷ past) = Follows plan (gives_up_now past) past t × IsConversation plan past

-- OVER A SCHEDULE

abbrev pub is_block : Sound → Bool
is_block Sound.Block = true
is_block _ = false

-- the turn is that of its place in the schedule: what arrived and what was heard are what the fates made of what was said and replied,
-- and a block that arrives is refused where the schedule says so
pub record IsAt (place : SoundTurn) (t : SpokenTurn) : Type 0 where
  pub up : after_fate place.up (sound_of t.said) ≡ Some t.arrived
  pub refused : t.refused ≡ (place.refused && is_block t.arrived)
  pub down : after_fate place.down (sound_of_reply t.reply) ≡ Some t.heard
  pub wish : t.wish ≡ place.wish
  pub pause : t.pause ≡ place.pause

-- each turn is at its place, the oldest turn at the first
abbrev pub AreAt : List SoundTurn → History → Type 0
AreAt places [] = Unit {0}
AreAt places (t ∷ past) = ((place : SoundTurn) × (slice_get places (length past) ≡ Some place) × IsAt place t) × AreAt places past

-- these turns were spoken over the schedule, and it may go on
pub record IsSpokenOver (plan : Plan) (places : List SoundTurn) (h : History) : Type 0 where
  pub conversation : IsConversation plan h
  pub placed : AreAt places h

-- the conversation of these blocks over this schedule: without blocks there are no turns, and else it goes on until the schedule ends or it
-- is over
pub record IsConversationOver (plan : Plan) (places : List SoundTurn) (h : History) : Type 0 where
  pub empty : plan ≡ [] → h ≡ []
  pub spoken : IsSpokenOver plan places h
  pub whole : (plan ≡ []) ⊎ ((length h ≡ length places) ⊎ (is_over h ≡ true))

-- a fate of this place breaks its rule after the past: that of what is due, or else that of the reply
abbrev pub BreaksRule : Plan → History → SoundTurn → Type 0
BreaksRule plan past place =
    let said = sound_of (saying plan (gives_up_now past) past) in
    (after_fate place.up said ≡ None)
    ⊎ ((arrived : Sound) × (after_fate place.up said ≡ Some arrived)
    × (after_fate place.down (sound_of_reply (replying past arrived (place.refused && is_block arrived) place.wish)) ≡ None))

-- the first fate that breaks its rule is one of turn n, counted from 1, after the conversation of the turns before it
pub record BreaksAt (plan : Plan) (places : List SoundTurn) (n : ℕ) : Type 0 where
  pub past : History
  pub before : length past + 1 ≡ n
  pub blocks : (plan ≡ []) → ⊥
  pub spoken : IsSpokenOver plan places past
  pub goes_on : is_over past ≡ false
  pub place : SoundTurn
  pub here : slice_get places (length past) ≡ Some place
  pub breaks : BreaksRule plan past place

-- WHAT HOLDS OF SCHEDULES

-- over a schedule there is one conversation
abbrev pub OneConversation : Type 0
OneConversation =
    (plan : Plan) (places : List SoundTurn) (h g : History) → IsConversationOver plan places h → IsConversationOver plan places g → h ≡ g

-- where there is one, no fate broke its rule
abbrev pub NoneBreaks : Type 0
NoneBreaks = (plan : Plan) (places : List SoundTurn) (h : History) (n : ℕ) → IsConversationOver plan places h → BreaksAt plan places n → ⊥

-- and at most one turn's fate is the first that breaks its rule
abbrev pub OneBreak : Type 0
OneBreak = (plan : Plan) (places : List SoundTurn) (n m : ℕ) → BreaksAt plan places n → BreaksAt plan places m → n ≡ m

-- a schedule is settled: it has a conversation, or a turn whose fate is the first to break its rule
abbrev pub IsSettled : Plan → List SoundTurn → Type 0
IsSettled plan places = ((h : History) × IsConversationOver plan places h) ⊎ ((n : ℕ) × BreaksAt plan places n)

-- every schedule is
abbrev pub EverySchedule : Type 0
EverySchedule = (plan : Plan) (places : List SoundTurn) → IsSettled plan places
