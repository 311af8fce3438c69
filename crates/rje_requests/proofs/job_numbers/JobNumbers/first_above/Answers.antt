use Rattle.std.proofs.Common.{rules}
use Rattle.rje_requests.proofs.Numbers.{all_left, fewer_left, first_above, last_above}
use Rattle.rje_requests.proofs.job_numbers.JobNumbers.first_above.Goals as goal

pub loop-first-init : goal.loop-first-init
loop-first-init c = (search rules, all_left c.args.self.now.text.now c.args.most)

pub loop-first-preserved : goal.loop-first-preserved
loop-first-preserved c = (
  search rules,
  fewer_left c.args.self.now.text.now c.loop-first.rest.now c.in-Some.first.now c.in-Some.more.now c.args.most c.loop-first.invariant.1 c.in-Some.ensures.parts
      c.in_default-above.ensures,
)

pub returns-in-Some-above : goal.returns-in-Some-above
returns-in-Some-above c = record {
  above = first_above c.args.self.now.text.now c.loop-first.rest.now c.in-Some.first.now c.in-Some.more.now c.args.most c.in-Some-above.number
      c.loop-first.invariant.1 c.in-Some.ensures.parts c.in-Some-above.ensures;
}

pub returns : goal.returns
returns c = record {
  above = last_above c.args.self.now.text.now c.loop-first.rest.now c.args.most c.above-2.result c.loop-first.invariant.1 c.in_default.ensures.parts
      c.above-2.ensures;
}
