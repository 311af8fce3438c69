-- Each direction of a pair is a history of the law of agreement.
use Rattle.std.proofs.Common.{Bool, [], ◌∷◌, Option, Some, None, subst}
use Rattle.bsc_history.specs.declared.spoken_turn.SpokenTurn.{SpokenTurn}
use Rattle.bsc_history.specs.Agreement.{GetsAtMostOneMore, KnowsBeforeBlocks, GetsInOrder, StaysWithinPlan}
use Rattle.bsc_history.specs.Conversation.{MayBeSpoken}
use Rattle.bsc_history.specs.History.{History, Plan}
use Rattle.bsc_history.specs.Known.{gives_up_now}
use Rattle.bsc_history.specs.Pair.{with_turn, up, down, is_bid_out, counted}
use Rattle.bsc_history.specs.PairCount.{down_gives_up}
use Rattle.bsc_history.specs.PairConversation.{Part}
use Rattle.bsc_history.specs.PairAgreement.{EndsAgree, DirectionsMayBeSpoken, PairConversationsMayBeSpoken, AgreesEachWay}

part-spoken : (plan : Plan) (gives_up : Bool) (past : History) (speaks : Bool) (t : Option SpokenTurn) → MayBeSpoken plan past → Part plan gives_up past speaks t → MayBeSpoken plan (with_turn t past)
part-spoken plan gives_up past speaks None spoken part = spoken
part-spoken plan gives_up past speaks (Some t) spoken part = ((gives_up, part.1), spoken)

pub directions_may_be_spoken : DirectionsMayBeSpoken
directions_may_be_spoken p q [] spoken = (tt, tt)
directions_may_be_spoken p q (t ∷ past) spoken =
    let rest = directions_may_be_spoken p q past spoken.1 in
    let f = spoken.0.1 in (
      part-spoken p spoken.0.0.0 (up past) _ t.primary rest.0 f.primary,
      part-spoken q spoken.0.0.1 (down past) _ (counted (is_bid_out (up past)) t.secondary) rest.1 f.secondary,
    )

pub pair_conversations_may_be_spoken : PairConversationsMayBeSpoken
pair_conversations_may_be_spoken p q [] c = tt
pair_conversations_may_be_spoken p q (t ∷ past) c = (((gives_up_now (up past), down_gives_up past), c.0), pair_conversations_may_be_spoken p q past c.1)

-- the law of one direction
pub agrees : GetsAtMostOneMore → KnowsBeforeBlocks → GetsInOrder → StaysWithinPlan → (plan : Plan) (h : History) → MayBeSpoken plan h → EndsAgree plan h
agrees most knows order within plan h spoken = record {
  at_most_one_more = most plan h spoken;
  in_order = order plan h spoken;
  within_plan = within plan h spoken;
  known_before_blocks = λ t past is said. knows plan t past (subst (MayBeSpoken plan) is spoken) said;
}

pub agrees_each_way : GetsAtMostOneMore → KnowsBeforeBlocks → GetsInOrder → StaysWithinPlan → AgreesEachWay
agrees_each_way most knows order within p q h c =
    let spoken = directions_may_be_spoken p q h (pair_conversations_may_be_spoken p q h c) in
    (agrees most knows order within p (up h) spoken.0, agrees most knows order within q (down h) spoken.1)
