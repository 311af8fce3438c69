-- Two stations that both have jobs: what they said to each other, turn by turn, and the two directions that are cut out of it. Own profile.
use Rattle.std.specs.Prelude.{Bool, true, false, not, ◌&&◌, if◌then◌else◌, List, [], ◌∷◌, Option, Some, None}
use Rattle.bsc_link.specs.declared.sound.Sound.{Sound}
use Rattle.bsc_link.specs.declared.say.Say.{Say}
use Rattle.bsc_history.specs.declared.spoken_turn.SpokenTurn.{SpokenTurn}
use Rattle.bsc_history.specs.History.{History, Plan, is_over}
use Rattle.bsc_history.specs.ReplyRule.{was_bid}
use Rattle.bsc_history.specs.SayingRule.{saying}
use Rattle.bsc_history.specs.declared.bids.Bids.{Bids}

-- one turn: who may speak where something is due at both, and what the primary and the secondary said, where they spoke, and what came of it
pub record SpokenPair : Type 0 where
  pub bids : Bids
  pub primary : Option SpokenTurn
  pub secondary : Option SpokenTurn

-- the turns so far, the newest first
abbrev pub PairHistory : Type 0
PairHistory = List SpokenPair

-- THE TWO DIRECTIONS

abbrev pub with_turn : Option SpokenTurn → History → History
with_turn None past = past
with_turn (Some t) past = t ∷ past

-- up: the turns in which the primary spoke
abbrev pub up : PairHistory → History
up [] = []
up (t ∷ past) = with_turn t.primary (up past)

-- some turn said a bid
abbrev pub has_bid : History → Bool
has_bid [] = false
has_bid (t ∷ past) = elim t.said [ Say.Bid ↦ true | _ ↦ has_bid past ]

-- a station's bid is out from its first bid until its direction is over
abbrev pub is_bid_out : History → Bool
is_bid_out own = has_bid own && not (is_over own)

-- an ENQ that doesn't count is as lost
abbrev pub without_enq : Sound → Sound
without_enq Sound.Enq = Sound.Quiet
without_enq sound = sound

-- what counts of a sound: while the other's bid is out, an ENQ doesn't
abbrev pub sound_counted : Bool → Sound → Sound
sound_counted bid_out sound = if bid_out then without_enq sound else sound

-- the turn as it counts
abbrev pub as_counted : Bool → SpokenTurn → SpokenTurn
as_counted bid_out t = record t { arrived = sound_counted bid_out t.arrived }

abbrev pub counted : Bool → Option SpokenTurn → Option SpokenTurn
counted bid_out None = None
counted bid_out (Some t) = Some (as_counted bid_out t)

-- down: the turns in which the secondary spoke; an ENQ of it doesn't count as arrived while the primary's bid is out
abbrev pub down : PairHistory → History
down [] = []
down (t ∷ past) = with_turn (counted (is_bid_out (up past)) t.secondary) (down past)

-- WHO SPEAKS

-- a station receives from the first ENQ that counts until the other's direction is over
abbrev pub is_open : History → Bool
is_open other = was_bid other && not (is_over other)

-- what is due at a station: nothing where it has no block, or receives
abbrev pub due : Plan → Bool → History → History → Say
due [] gives_up own other = Say.Nothing
due (begins ∷ plan) gives_up own other = if is_open other then Say.Nothing else saying (begins ∷ plan) gives_up own

abbrev pub is_something : Say → Bool
is_something Say.Nothing = false
is_something _ = true

abbrev pub lets_primary : Bids → Bool
lets_primary Bids.Secondary = false
lets_primary _ = true

abbrev pub lets_secondary : Bids → Bool
lets_secondary Bids.Primary = false
lets_secondary _ = true

-- a station speaks where something is due at it, and, if something is due at the other too, where it is let
abbrev pub speaks : Say → Say → Bool → Bool
speaks own other let_it = is_something own && (if is_something other then let_it else true)
