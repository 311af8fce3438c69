-- What `all` tells of the parts.
use Rattle.std.proofs.Common.{lit<, tests, rules}
use Rattle.std.proofs.lemmas.Iterator.{cases_from_all}
use Rattle.std.proofs.lemmas.Iterator.Splits.{YieldsList-from_str_split}
use Rattle.rje_requests.specs.Callers.{IsAddress, parts_of}
use Rattle.rje_requests.proofs.Parts.{Lacks, all_told}
use Rattle.rje_requests.proofs.callers.are_addresses.Goals as goal

pub returns : goal.returns
returns c =
    let text = c.args.text.now in
    all_told IsAddress c.all.result (parts_of text)
    (cases_from_all _ _ _ IsAddress (Lacks IsAddress) c.all.ensures.ran
    (YieldsList-from_str_split 44 text (lit< tt) c.split.ensures.text c.split.ensures.has_more c.split.ensures.pattern)
    (λ part q k. search (rules, tests)) (λ part q k. search (rules, tests)))
