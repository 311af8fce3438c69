use Rattle.std.specs.Io.KnownBytes.{Appends}
use Rattle.std.specs.Prelude.{take}
use Rattle.std.proofs.Common.{◌≤◌, length}
use Rattle.rje_net.proofs.socket_line.write_through.Given as goal

abbrev pub invariant-loop : goal.invariant-loop
invariant-loop g l = (l.place ≤ length l.bytes) × Appends (g.S.Write.contents l.fn.stream) (g.S.Write.contents l.stream) (take l.place l.bytes)
