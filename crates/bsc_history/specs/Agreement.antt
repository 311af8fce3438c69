-- The law of agreement: what both ends of a line know of each other, whatever the line loses or damages and whenever the sender gives up.
-- Own profile.
use Rattle.std.specs.Prelude.{◌≡◌, ◌⊎◌, ℕ, zero, suc, ◌+◌, ◌≤◌, List, [], ◌∷◌, ◌++◌, length}
use Rattle.bsc_link.specs.declared.say.Say.{Say}
use Rattle.bsc_history.specs.declared.spoken_turn.SpokenTurn.{SpokenTurn}
use Rattle.bsc_history.specs.History.{History, Plan}
use Rattle.bsc_history.specs.Known.{known}
use Rattle.bsc_history.specs.Got.{got}
use Rattle.bsc_history.specs.Conversation.{MayBeSpoken, IsConversation}

-- the numbers from 1 to n
abbrev pub first_numbers : ℕ → List ℕ
first_numbers zero = []
first_numbers (suc n) = first_numbers n ++ suc n ∷ []

-- the receiver got as many blocks as the sender knows of, or one more
abbrev pub GetsAtMostOneMore : Type 0
GetsAtMostOneMore = (plan : Plan) (h : History) → MayBeSpoken plan h → (length (got h) ≡ known h) ⊎ (length (got h) ≡ known h + 1)

-- before each turn that says a block, for the first time or again, the sender knows of all blocks that the receiver got
abbrev pub KnowsBeforeBlocks : Type 0
KnowsBeforeBlocks =
    (plan : Plan) (t : SpokenTurn) (past : History) → MayBeSpoken plan (t ∷ past) → (t.said ≡ Say.Block) ⊎ (t.said ≡ Say.Again)
    → length (got past) ≡ known past

-- the receiver got the blocks from the first on, in order and each once
abbrev pub GetsInOrder : Type 0
GetsInOrder = (plan : Plan) (h : History) → MayBeSpoken plan h → got h ≡ first_numbers (length (got h))

-- neither end counts past the last block
abbrev pub StaysWithinPlan : Type 0
StaysWithinPlan = (plan : Plan) (h : History) → MayBeSpoken plan h → (known h ≤ length plan) × (length (got h) ≤ length plan)

-- a conversation is one in which the sender gives up at some turn or at none
abbrev pub ConversationsMayBeSpoken : Type 0
ConversationsMayBeSpoken = (plan : Plan) (h : History) → IsConversation plan h → MayBeSpoken plan h
