use Rattle.bsc_adapter.proofs.Saying.{is_said}
use Rattle.bsc_adapter.proofs.said.for_adapter.Goals as goal

pub returns : goal.returns
returns c = is_said c.args.written.now c.middle.result.now c.behind.result c.behind.ensures c.middle.ensures
