use Rattle.std.proofs.Common.{◌-◌}
use Rattle.rje_files.proofs.Collected.{CollectedSo}
use Rattle.rje_files.proofs.job_file.collecting.collect_jobs.Given as goal

abbrev pub invariant-loop-i : goal.invariant-loop-i
invariant-loop-i l = CollectedSo l.version l.initial.rest l.rest (l.count - l.i) l.i l.jobs.items
