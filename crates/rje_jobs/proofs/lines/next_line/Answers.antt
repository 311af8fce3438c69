use Rattle.std.proofs.Common.{arith}
use Rattle.std.proofs.lemmas.Grind.{common_steps}
use Rattle.rje_jobs.proofs.FirstLine.{line_at, line_alone}
use Rattle.rje_jobs.proofs.lines.next_line.Goals as goal

pub returns-in-Some-clause-line : goal.returns-in-Some-clause-line
returns-in-Some-clause-line c =
    let first = line_at c.args.rest.now c.in-Some.end c.in-Some.ensures.place in
    rw (c.without_cr.ensures, c.split_at.ensures.front, c.split_at-in-Some.ensures.back) first

pub returns-in-None-clause-line : goal.returns-in-None-clause-line
returns-in-None-clause-line c = line_alone c.args.rest.now (grind (arith, common_steps)) c.in-None.ensures.place
