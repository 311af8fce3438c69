use Rattle.std.proofs.Common.{rules, ◌≡◌, ◌+◌, ◌∷◌, drop, get_or, sym, ap, ◌∙◌}
use Rattle.std.proofs.lemmas.List.{drop_more}
use Rattle.rje_station.proofs.Uncounted.{begins_with}
use Rattle.rje_station.proofs.sending.uncounted.begin_job.Goals as goal

pub returns-then-at-jobs-clause-rest : goal.returns-then-at-jobs-clause-rest
returns-then-at-jobs-clause-rest c =
    let job = c.index-jobs-at.result in
    let here : job ≡ get_or c.args.jobs.now c.args.at job = search rules in
    begins_with (drop c.args.at c.args.jobs.now) (drop (c.args.at + 1) c.args.jobs.now) job _ _
    (drop_more c.args.jobs.now c.args.at job c.if-at-jobs.true ∙ ap (λ j. j ∷ drop (c.args.at + 1) c.args.jobs.now) (sym here)) c.put_block.ensures.next
