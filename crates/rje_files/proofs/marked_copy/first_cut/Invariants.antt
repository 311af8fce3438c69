use Rattle.std.proofs.Common.{◌≡◌, ◌+◌, drop}
use Rattle.rje_files.specs.Entry.{bad_entry, bad_entry_from}
use Rattle.rje_files.specs.Unsent.{with_sent}
use Rattle.rje_files.proofs.marked_copy.first_cut.Given as goal

abbrev pub invariant-loop-place : goal.invariant-loop-place
invariant-loop-place l = bad_entry_from (l.place + 1) (with_sent l.left (drop l.place l.entries)) ≡ bad_entry (with_sent l.fn.count l.fn.entries)
