use Rattle.bsc_frame.proofs.DataRuns.{normal_bytes}
use Rattle.bsc_frame.proofs.NormalBytes.{passes}
use Rattle.bsc_frame.proofs.listener.data.normal_in_front.Goals as goal

pub returns-in-Some-clause-data : goal.returns-in-Some-clause-data
returns-in-Some-clause-data c = λ k l. passes _ (c.in-Some.ensures.before k l)

pub returns-in-None-clause-data : goal.returns-in-None-clause-data
returns-in-None-clause-data c = normal_bytes c.args.bytes.now c.in-None.ensures
