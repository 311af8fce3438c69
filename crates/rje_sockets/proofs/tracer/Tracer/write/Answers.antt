use Rattle.std.proofs.Common.{rules}
use Rattle.rje_sockets.proofs.tracer.Tracer.write.Goals as goal

pub returns-else-is_err : goal.returns-else-is_err
returns-else-is_err g c = search rules
