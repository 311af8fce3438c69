use Rattle.std.proofs.Common.{lit<}
use Rattle.rje_requests.proofs.Numbers.{split_parts}
use Rattle.rje_requests.proofs.job_numbers.first_part.Goals as goal

pub returns-clause-parts : goal.returns-clause-parts
returns-clause-parts c = split_parts c.args.text.now c.split_once.result (c.split_once.ensures.byte (lit< tt) (λ w o h. h))
