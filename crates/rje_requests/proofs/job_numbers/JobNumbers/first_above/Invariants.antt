use Rattle.std.proofs.Common.{length}
use denote.Shadow.{shadow}
use denote.Text.{Utf8}
use Rattle.rje_requests.proofs.Numbers.{AreLeft}
use Rattle.rje_requests.proofs.job_numbers.JobNumbers.first_above.Given as goal

abbrev pub invariant-loop-first : goal.invariant-loop-first
invariant-loop-first l = shadow (Utf8 l.rest) × AreLeft l.self.text.now l.rest l.most

abbrev pub decreases-loop-first : goal.decreases-loop-first
decreases-loop-first l = length l.rest
