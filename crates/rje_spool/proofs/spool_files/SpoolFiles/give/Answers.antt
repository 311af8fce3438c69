use Rattle.std.proofs.Common.{◌≡◌, ◌≤◌, ◌+◌, ◌∙◌, List, length, ap, arith, rules}
use Rattle.std.proofs.lemmas.List.{length-append}
use Rattle.rje_spool.proofs.spool_files.SpoolFiles.give.Goals as goal

pub returns-clause-numbered : goal.returns-clause-numbered
returns-clause-numbered g c = λ same.
    let many : length c.append.new.self.items ≤ 18446744073709551615 = search rules in
    let whole = ap (λ (l : List _). length l) c.in_ok-append.ensures.items ∙ length-append c.args.jobs.now.items c.into_vec-more.result.items in
    let more = ap (λ (l : List _). length l) c.into_vec-more.ensures.vector in
    let given = c.in_ok-add.ensures.jobs in
    let count = c.len.ensures.count in
    omega arith
