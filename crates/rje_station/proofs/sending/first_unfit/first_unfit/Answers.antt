use Rattle.std.proofs.Common.{rules, ◌≡◌, get_or}
use Rattle.rje_jobs.specs.Fitting.{JobFits}
use Rattle.rje_station.proofs.Unfit.{fit_on, unfit_at}
use Rattle.rje_station.proofs.sending.first_unfit.first_unfit.Goals as goal

pub returns-then-not-job_fits : goal.returns-then-not-job_fits
returns-then-not-job_fits c =
    let job = c.index-jobs-i.result in
    let here : job ≡ get_or c.args.jobs.now c.loop-i.i job = search rules in
    let unfit : JobFits job → ⊥ = search rules in
    unfit_at c.args.jobs.now c.loop-i.i job c.loop-i.invariant c.loop-i-test.true here unfit

pub loop-i-preserved : goal.loop-i-preserved
loop-i-preserved c =
    let job = c.index-jobs-i.result in
    let here : job ≡ get_or c.args.jobs.now c.loop-i.i job = search rules in
    let fits : JobFits job = search rules in
    fit_on c.args.jobs.now c.loop-i.i job c.loop-i.invariant c.loop-i-test.true here fits
