-- Each clause is a law of proofs/SettledPairs.antt or proofs/OnePairConversation.antt.
use Rattle.bsc_history.proofs.OnePairConversation.{one_pair_conversation, none_pair_breaks, one_pair_break}
use Rattle.bsc_history.proofs.SettledPairs.{every_pair_schedule}
use Rattle.bsc_history.proofs.laws.one_pair_conversation.Goals as goal

pub returns-clause-one : goal.returns-clause-one
returns-clause-one c = one_pair_conversation

pub returns-clause-none_breaks : goal.returns-clause-none_breaks
returns-clause-none_breaks c = none_pair_breaks

pub returns-clause-one_break : goal.returns-clause-one_break
returns-clause-one_break c = one_pair_break

pub returns-clause-every : goal.returns-clause-every
returns-clause-every c = every_pair_schedule
