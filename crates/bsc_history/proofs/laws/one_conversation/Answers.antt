-- Each clause is a law of proofs/Settled.antt or proofs/OneConversation.antt.
use Rattle.bsc_history.proofs.OneConversation.{one_conversation, none_breaks, one_break}
use Rattle.bsc_history.proofs.Settled.{every_schedule}
use Rattle.bsc_history.proofs.laws.one_conversation.Goals as goal

pub returns-clause-one : goal.returns-clause-one
returns-clause-one c = one_conversation

pub returns-clause-none_breaks : goal.returns-clause-none_breaks
returns-clause-none_breaks c = none_breaks

pub returns-clause-one_break : goal.returns-clause-one_break
returns-clause-one_break c = one_break

pub returns-clause-every : goal.returns-clause-every
returns-clause-every c = every_schedule
