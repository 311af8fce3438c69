use Rattle.std.specs.Io.KnownBytes.{Keeps}
use Rattle.rje_net.proofs.socket_line.read_on.Given as goal

abbrev pub invariant-loop : goal.invariant-loop
invariant-loop g l = Keeps (g.S.Read.remaining l.fn.stream) (g.S.Read.remaining l.stream)
