use Rattle.std.proofs.lemmas.Bool.{false_from_ne_true}
use Rattle.std.proofs.Common.{arith}
use Rattle.bsc_frame.proofs.listener.data.in_front_of_dle.Goals as goal

pub returns-in-Some-clause-data : goal.returns-in-Some-clause-data
returns-in-Some-clause-data c = λ k l. false_from_ne_true _ (c.in-Some.ensures.0.before k (omega arith) l)

pub returns-in-None-clause-data : goal.returns-in-None-clause-data
returns-in-None-clause-data c = λ k l. false_from_ne_true _ (c.in-None.ensures k (omega arith) l)
