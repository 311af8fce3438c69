-- The series so far tells runs over the schedules so far.
use Rattle.std.proofs.Common.{map}
use Rattle.line_world.proofs.Attempts.{AreRunsSoFar}
use Rattle.line_world.proofs.running_all.run_all.Given as goal

abbrev pub invariant-loop-turns : goal.invariant-loop-turns
invariant-loop-turns l = record { so_far : AreRunsSoFar l.jobs (map (λ turns. turns.items) l.schedules) l.turns-index l.series }
