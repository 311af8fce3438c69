use Rattle.std.proofs.Common.{◌≡◌, ◌+◌, ◌≤◌, drop}
use Rattle.rje_print.specs.ReportTexts.{whole_jobs}
use Rattle.rje_print.proofs.report_lines.whole_jobs.Given as goal

abbrev pub invariant-loop-job : goal.invariant-loop-job
invariant-loop-job l = record {
  few : l.count ≤ l.job-index;
  counted : l.count + whole_jobs (drop l.job-index l.jobs) ≡ whole_jobs l.jobs;
}
