-- Each clause is a law of proofs/Agreement.antt or proofs/Within.antt.
use Rattle.bsc_history.proofs.Agreement.{at_most_one_more, known_before_blocks, in_order, conversations_may_be_spoken}
use Rattle.bsc_history.proofs.Within.{stays_within_plan}
use Rattle.bsc_history.proofs.laws.ends_agree.Goals as goal

pub returns-clause-at_most_one_more : goal.returns-clause-at_most_one_more
returns-clause-at_most_one_more c = at_most_one_more

pub returns-clause-known_before_blocks : goal.returns-clause-known_before_blocks
returns-clause-known_before_blocks c = known_before_blocks

pub returns-clause-in_order : goal.returns-clause-in_order
returns-clause-in_order c = in_order

pub returns-clause-within_plan : goal.returns-clause-within_plan
returns-clause-within_plan c = stays_within_plan

pub returns-clause-conversations : goal.returns-clause-conversations
returns-clause-conversations c = conversations_may_be_spoken
