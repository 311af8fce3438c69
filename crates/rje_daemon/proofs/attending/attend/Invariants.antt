use Rattle.rje_session.specs.Staying.{GoesOnAsDay}
use Rattle.rje_daemon.proofs.attending.attend.Given as goal

abbrev pub invariant-loop : goal.invariant-loop
invariant-loop g l = GoesOnAsDay l.initial.day l.day
