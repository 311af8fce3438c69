-- Each clause is a law of proofs/SenderCore.antt or proofs/ReceiverCore.antt.
use Rattle.bsc_history.proofs.SenderCore.{sender_core_says, sender_core_keeps, sender_core_counts}
use Rattle.bsc_history.proofs.ReceiverCore.{receiver_core_keeps, receiver_core_replies, receiver_core_accepts, conversations_are_spoken}
use Rattle.bsc_history.proofs.laws.cores_keep_rules.Goals as goal

pub returns-clause-spoken : goal.returns-clause-spoken
returns-clause-spoken c = conversations_are_spoken

pub returns-clause-says : goal.returns-clause-says
returns-clause-says c = sender_core_says

pub returns-clause-sender_keeps : goal.returns-clause-sender_keeps
returns-clause-sender_keeps c = sender_core_keeps

pub returns-clause-counts : goal.returns-clause-counts
returns-clause-counts c = sender_core_counts

pub returns-clause-receiver_keeps : goal.returns-clause-receiver_keeps
returns-clause-receiver_keeps c = receiver_core_keeps

pub returns-clause-replies : goal.returns-clause-replies
returns-clause-replies c = receiver_core_replies

pub returns-clause-accepts : goal.returns-clause-accepts
returns-clause-accepts c = receiver_core_accepts
