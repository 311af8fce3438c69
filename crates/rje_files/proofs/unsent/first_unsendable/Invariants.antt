use Rattle.std.proofs.Common.{take}
use Rattle.std.specs.List.{All}
use Rattle.rje_files.specs.Unsent.{CanPass}
use Rattle.rje_files.proofs.unsent.first_unsendable.Given as goal

abbrev pub invariant-loop-place : goal.invariant-loop-place
invariant-loop-place l = All CanPass (take l.place l.entries)
