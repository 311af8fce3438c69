use Rattle.bsc_adapter.proofs.Steps.{one_more}
use Rattle.bsc_adapter.proofs.from_adapter.FromAdapter.take.Goals as goal

pub returns : goal.returns
returns c = one_more c.args.self.now (record { place = c.step.new.place; check = c.step.new.check }) c.args.byte c.step.result.items c.step.ensures.says c.step.ensures.next
