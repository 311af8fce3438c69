-- From the law of agreement of the crate below.
use Rattle.bsc_history.proofs.PairAgreement.{directions_may_be_spoken, pair_conversations_may_be_spoken, agrees_each_way}
use Rattle.bsc_history.proofs.laws.pair_ends_agree.Goals as goal

pub returns-clause-directions : goal.returns-clause-directions
returns-clause-directions c = directions_may_be_spoken

pub returns-clause-conversations : goal.returns-clause-conversations
returns-clause-conversations c = pair_conversations_may_be_spoken

pub returns-clause-agrees : goal.returns-clause-agrees
returns-clause-agrees c =
    let law = c.ends_agree.ensures in
    agrees_each_way law.at_most_one_more law.known_before_blocks law.in_order law.within_plan
