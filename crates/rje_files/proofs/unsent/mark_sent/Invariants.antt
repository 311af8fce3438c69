use Rattle.std.proofs.Common.{◌≡◌, ◌++◌, take, drop}
use Rattle.rje_files.specs.Unsent.{with_sent}
use Rattle.rje_files.proofs.unsent.mark_sent.Given as goal

abbrev pub invariant-loop-entry : goal.invariant-loop-entry
invariant-loop-entry l = take l.entry-index l.entries ++ with_sent l.left (drop l.entry-index l.entries) ≡ with_sent l.fn.count l.fn.entries
