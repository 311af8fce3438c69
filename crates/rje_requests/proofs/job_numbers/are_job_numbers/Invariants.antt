use Rattle.std.proofs.Common.{◌↔◌, length}
use denote.Shadow.{shadow}
use denote.Text.{Utf8}
use Rattle.rje_requests.specs.JobNumbers.{AreJobNumbers}
use Rattle.rje_requests.proofs.job_numbers.are_job_numbers.Given as goal

abbrev pub invariant-loop-first : goal.invariant-loop-first
invariant-loop-first l = shadow (Utf8 l.rest) × (AreJobNumbers l.text ↔ AreJobNumbers l.rest)

abbrev pub decreases-loop-first : goal.decreases-loop-first
decreases-loop-first l = length l.rest
