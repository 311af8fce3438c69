use Rattle.std.proofs.Common.{◌≡◌, ◌+◌, drop}
use Rattle.rje_files.specs.Entry.{bad_entry, bad_entry_from}
use Rattle.rje_files.proofs.job_file.name.first_bad.Given as goal

abbrev pub invariant-loop-place : goal.invariant-loop-place
invariant-loop-place l = bad_entry l.entries ≡ bad_entry_from (l.place + 1) (drop l.place l.entries)
