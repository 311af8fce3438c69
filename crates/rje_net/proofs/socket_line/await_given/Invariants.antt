use Rattle.std.specs.Io.KnownBytes.{Consumes}
use Rattle.std.proofs.Common.{List}
use Rattle.rje_answers.specs.declared.given.Given.{Given}
use Rattle.rje_net.specs.Hearing.{Brought, HappensInTurn, bytes_of}
use Rattle.rje_net.proofs.socket_line.await_given.Given as goal

abbrev pub invariant-loop : goal.invariant-loop
invariant-loop g l = (brought : List Brought) × Consumes (g.S.Read.remaining l.fn.stream) (g.S.Read.remaining l.stream) (bytes_of brought)
    × HappensInTurn l.fn.answers brought Given.Nothing l.answers
