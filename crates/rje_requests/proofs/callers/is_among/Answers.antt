-- What `any` tells of the parts.
use Rattle.std.proofs.Common.{List, ℕ, lit<, tests, rules}
use Rattle.std.proofs.lemmas.Iterator.{cases_from_any}
use Rattle.std.proofs.lemmas.Iterator.Splits.{YieldsList-from_str_split}
use Rattle.std.specs.Net.Grammar.{IsIpv4Text}
use Rattle.rje_requests.specs.Callers.{parts_of}
use Rattle.rje_requests.proofs.Parts.{Lacks, any_told}
use Rattle.rje_requests.proofs.callers.is_among.Goals as goal

pub returns : goal.returns
returns c =
    let text = c.args.text.now in
    let Is : List ℕ → Type 0 = λ part. IsIpv4Text part c.args.address in
    any_told Is c.any.result (parts_of text)
    (cases_from_any _ _ _ Is (Lacks Is) c.any.ensures.ran
    (YieldsList-from_str_split 44 text (lit< tt) c.split.ensures.text c.split.ensures.has_more c.split.ensures.pattern)
    (λ part q k. search (rules, tests)) (λ part q k. search (rules, tests)))
