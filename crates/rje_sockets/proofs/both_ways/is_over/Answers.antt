use Rattle.std.proofs.Common.{rules}
use Rattle.rje_sockets.proofs.both_ways.is_over.Goals as goal

pub returns-then-eq : goal.returns-then-eq
returns-then-eq c = search rules
