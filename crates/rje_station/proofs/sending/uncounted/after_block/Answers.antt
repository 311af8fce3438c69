use Rattle.std.proofs.Common.{rules, ◌≡◌, ◌+◌, suc, drop, get_or, ap, ◌∙◌, arith}
use Rattle.rje_jobs.specs.Blocks.{blocks}
use Rattle.rje_station.proofs.Uncounted.{more_etx, fit_at, place_within}
use Rattle.rje_station.proofs.sending.uncounted.after_block.Goals as goal

pub put_block-requires-clause-sent : goal.put_block-requires-clause-sent
put_block-requires-clause-sent c =
    let job = c.index-jobs-at.result in
    let here : job ≡ get_or c.args.jobs.now c.args.at job = search rules in
    let within = place_within c.args.jobs.now c.args.at c.args.closing c.args.place c.requires.within in
    fit_at c.args.jobs.now c.args.at job c.requires.fit within here

pub returns-in-Etx-clause-rest : goal.returns-in-Etx-clause-rest
returns-in-Etx-clause-rest c =
    let more : c.args.at + 1 ≡ suc c.args.at = omega arith in
    let within = rw c.in-Etx.is at c.requires.within in
    rw c.in-Etx.is (c.begin_job.ensures.rest ∙ ap (λ n. blocks (drop n c.args.jobs.now)) more ∙ more_etx c.args.jobs.now c.args.at c.args.place within)
