use Rattle.std.proofs.Common.{rules}
use Rattle.bsc_adapter.proofs.Steps.{nothing_made}
use Rattle.bsc_adapter.proofs.from_adapter.FromAdapter.reset.Goals as goal

pub returns : goal.returns
returns c = search (rules, nothing_made)
