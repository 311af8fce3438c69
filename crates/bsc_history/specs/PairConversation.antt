-- Conversations of two stations that both have jobs: in each turn a station speaks where something is due, and what it says and what comes
-- of it follow in its direction, by the rules of one sender and one receiver. Own profile.
use Rattle.std.specs.Prelude.{◌≡◌, ◌⊎◌, Bool, false, true, [], ◌∷◌, Option, Some, None}
use Rattle.bsc_link.specs.declared.outcome.Outcome.{Outcome}
use Rattle.bsc_link.specs.declared.sound.Sound.{Sound}
use Rattle.bsc_history.specs.declared.spoken_turn.SpokenTurn.{SpokenTurn}
use Rattle.bsc_history.specs.History.{History, Plan}
use Rattle.bsc_history.specs.Known.{gives_up_now}
use Rattle.bsc_history.specs.Fate.{sound_of, MayBeHeardAs}
use Rattle.bsc_history.specs.Outcome.{outcome_by}
use Rattle.bsc_history.specs.Conversation.{Follows}
use Rattle.bsc_history.specs.declared.bids.Bids.{Bids}
use Rattle.bsc_history.specs.Pair.{SpokenPair, PairHistory, up, down, is_bid_out, counted, due, speaks, lets_primary, lets_secondary}
use Rattle.bsc_history.specs.PairCount.{down_gives_up, down_gave_up}

-- a direction's part of a turn: none where its sender doesn't speak, else what follows in the direction
abbrev pub Part : Plan → Bool → History → Bool → Option SpokenTurn → Type 0
Part plan gives_up past speaks None = speaks ≡ false
Part plan gives_up past speaks (Some t) = (speaks ≡ true) × Follows plan gives_up past t

-- what arrived is what the line may bring, also where it doesn't count
abbrev pub IsBrought : Option SpokenTurn → Type 0
IsBrought None = Unit {0}
IsBrought (Some t) = MayBeHeardAs (sound_of t.said) t.arrived

-- of two that speak at once nothing arrives
abbrev pub Collide : Option SpokenTurn → Option SpokenTurn → Type 0
Collide (Some t) (Some u) = (t.arrived ≡ Sound.Quiet) × (u.arrived ≡ Sound.Quiet)
Collide _ _ = Unit {0}

abbrev pub primary_speaks : Plan → Plan → Bool → Bool → PairHistory → Bids → Bool
primary_speaks p q p_gives_up q_gives_up past bids =
    speaks (due p p_gives_up (up past) (down past)) (due q q_gives_up (down past) (up past)) (lets_primary bids)

abbrev pub secondary_speaks : Plan → Plan → Bool → Bool → PairHistory → Bids → Bool
secondary_speaks p q p_gives_up q_gives_up past bids =
    speaks (due q q_gives_up (down past) (up past)) (due p p_gives_up (up past) (down past)) (lets_secondary bids)

-- the turn may follow the past; p, q: the blocks of the primary and of the secondary
pub record PairFollows (p q : Plan) (p_gives_up q_gives_up : Bool) (past : PairHistory) (t : SpokenPair) : Type 0 where
  pub goes_on : (primary_speaks p q p_gives_up q_gives_up past t.bids ≡ true) ⊎ (secondary_speaks p q p_gives_up q_gives_up past t.bids ≡ true)
  pub primary : Part p p_gives_up (up past) (primary_speaks p q p_gives_up q_gives_up past t.bids) t.primary
  pub secondary : Part q q_gives_up (down past) (secondary_speaks p q p_gives_up q_gives_up past t.bids) (counted (is_bid_out (up past)) t.secondary)
  pub arrived : IsBrought t.secondary
  pub collide : Collide t.primary t.secondary

-- a conversation in which both may give up at any turn, or at none
abbrev pub MayBePairSpoken : Plan → Plan → PairHistory → Type 0
MayBePairSpoken p q [] = Unit {0}
MayBePairSpoken p q (t ∷ past) = ((g : Bool × Bool) × PairFollows p q g.0 g.1 past t) × MayBePairSpoken p q past

-- a conversation: the primary gives up after seven tries or three hundred holds, and so does the secondary, whose count begins again where
-- it gives way
abbrev pub IsPairConversation : Plan → Plan → PairHistory → Type 0
IsPairConversation p q [] = Unit {0}
IsPairConversation p q (t ∷ past) = PairFollows p q (gives_up_now (up past)) (down_gives_up past) past t × IsPairConversation p q past

-- how the secondary's transmission ends
abbrev pub down_outcome : Plan → PairHistory → Option Outcome
down_outcome [] h = Some Outcome.Done
down_outcome (begins ∷ plan) h = outcome_by (begins ∷ plan) (down_gave_up h) (down_gives_up h) (down h)
