use Rattle.std.proofs.Common.{take}
use Rattle.std.specs.List.{AllByRecursion}
use Rattle.rje_jobs.specs.Fitting.{JobFits}
use Rattle.rje_station.proofs.sending.first_unfit.first_unfit.Given as goal

abbrev pub invariant-loop-i : goal.invariant-loop-i
invariant-loop-i l = AllByRecursion JobFits (take l.i l.jobs)
