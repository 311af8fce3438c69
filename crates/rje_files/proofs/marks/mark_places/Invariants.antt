use Rattle.std.proofs.Common.{◌≡◌, ◌++◌, drop}
use Rattle.rje_files.proofs.Marking.{marks_from}
use Rattle.rje_files.proofs.marks.mark_places.Given as goal

abbrev pub invariant-loop-entry : goal.invariant-loop-entry
invariant-loop-entry l = l.places.items ++ marks_from l.start (drop l.entry-index l.entries) ≡ marks_from 14 l.fn.entries
