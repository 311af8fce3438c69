-- What `any` tells of the parts.
use Rattle.std.proofs.Common.{lit<, tests, rules}
use Rattle.std.proofs.lemmas.Iterator.Search.{any_from_yields_List}
use Rattle.std.proofs.lemmas.Iterator.Splits.{YieldsList-from_str_split}
use Rattle.rje_requests.specs.JobNumbers.{is_number}
use Rattle.rje_requests.proofs.job_numbers.is_among.Goals as goal

pub returns : goal.returns
returns c =
    any_from_yields_List (is_number c.args.number) _ _ c.any.result c.any.ensures.ran
    (YieldsList-from_str_split 44 c.args.text.now (lit< tt) c.split.ensures.text c.split.ensures.has_more c.split.ensures.pattern)
    (λ part b q k. search (rules, tests))
