-- The law of agreement in each direction of a pair. Own profile.
use Rattle.std.specs.Prelude.{◌≡◌, ◌⊎◌, ◌+◌, ◌≤◌, ◌∷◌, length}
use Rattle.bsc_link.specs.declared.say.Say.{Say}
use Rattle.bsc_history.specs.declared.spoken_turn.SpokenTurn.{SpokenTurn}
use Rattle.bsc_history.specs.History.{History, Plan}
use Rattle.bsc_history.specs.Known.{known}
use Rattle.bsc_history.specs.Got.{got}
use Rattle.bsc_history.specs.Agreement.{first_numbers}
use Rattle.bsc_history.specs.Conversation.{MayBeSpoken}
use Rattle.bsc_history.specs.Pair.{PairHistory, up, down}
use Rattle.bsc_history.specs.PairConversation.{MayBePairSpoken, IsPairConversation}

-- both ends of a direction agree
pub record EndsAgree (plan : Plan) (h : History) : Type 0 where
  -- the receiver got as many blocks as the sender knows of, or one more
  pub at_most_one_more : (length (got h) ≡ known h) ⊎ (length (got h) ≡ known h + 1)
  -- from the first on, in order and each once
  pub in_order : got h ≡ first_numbers (length (got h))
  -- neither end counts past the last block
  pub within_plan : (known h ≤ length plan) × (length (got h) ≤ length plan)
  -- before each turn that says a block the sender knows of all that the receiver got
  pub known_before_blocks : (t : SpokenTurn) (past : History) → h ≡ t ∷ past → (t.said ≡ Say.Block) ⊎ (t.said ≡ Say.Again) → length (got past) ≡ known past

-- each direction is a history of the law of agreement
abbrev pub DirectionsMayBeSpoken : Type 0
DirectionsMayBeSpoken = (p q : Plan) (h : PairHistory) → MayBePairSpoken p q h → MayBeSpoken p (up h) × MayBeSpoken q (down h)

-- a conversation is one in which both give up at some turn or at none
abbrev pub PairConversationsMayBeSpoken : Type 0
PairConversationsMayBeSpoken = (p q : Plan) (h : PairHistory) → IsPairConversation p q h → MayBePairSpoken p q h

-- so both ends agree, each way
abbrev pub AgreesEachWay : Type 0
AgreesEachWay = (p q : Plan) (h : PairHistory) → IsPairConversation p q h → EndsAgree p (up h) × EndsAgree q (down h)
