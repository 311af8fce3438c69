use Rattle.std.proofs.Common.{take}
use Rattle.std.specs.List.{AllByRecursion}
use Rattle.rje_files.specs.Entry.{jobs_in}
use Rattle.rje_jobs.specs.Fitting.{JobFits}
use Rattle.rje_commands.proofs.commands.check_command.first_unfit.Given as goal

abbrev pub invariant-loop-i : goal.invariant-loop-i
invariant-loop-i l = AllByRecursion JobFits (take l.i (jobs_in l.entries))
