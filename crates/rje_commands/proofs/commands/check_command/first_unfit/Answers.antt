use Rattle.std.proofs.Common.{rules, ◌≡◌, ◌<◌, ℕ, List, get_or, length, take, subst, ap, sym, ◌∙◌, arith}
use Rattle.std.specs.List.{AllByRecursion}
use Rattle.std.proofs.Math.Seq.{take-length}
use Rattle.std.proofs.lemmas.List.{get_or-map, length-map}
use Rattle.rje_files.specs.declared.entry.Entry.{Entry}
use Rattle.rje_files.specs.Entry.{jobs_in}
use Rattle.rje_jobs.specs.declared.job.Job.{Job}
use Rattle.rje_jobs.specs.Fitting.{JobFits}
use Rattle.rje_station.proofs.Unfit.{fit_on, unfit_at}
use Rattle.rje_commands.proofs.commands.check_command.first_unfit.Goals as goal

within : (entries : List Entry) (i : ℕ) → i < length entries → i < length (jobs_in entries)
within entries i l = omega (arith, length-map entries (λ (e : Entry). e.job), l)

job_at : (entries : List Entry) (i : ℕ) (entry : Entry) → i < length entries → entry ≡ get_or entries i entry → entry.job ≡ get_or (jobs_in entries) i entry.job
job_at entries i entry l here = ap (λ (e : Entry). e.job) here ∙ sym (get_or-map (λ (e : Entry). e.job) entries i entry entry.job l)

pub returns-then-not-job_fits : goal.returns-then-not-job_fits
returns-then-not-job_fits c =
    let entry = c.index-entries-i.result in
    let here : entry ≡ get_or c.args.entries.now c.loop-i.i entry = search rules in
    let unfit : JobFits entry.job → ⊥ = search rules in
    unfit_at (jobs_in c.args.entries.now) c.loop-i.i entry.job c.loop-i.invariant (within c.args.entries.now c.loop-i.i c.loop-i-test.true)
    (job_at c.args.entries.now c.loop-i.i entry c.loop-i-test.true here) unfit

pub loop-i-preserved : goal.loop-i-preserved
loop-i-preserved c =
    let entry = c.index-entries-i.result in
    let here : entry ≡ get_or c.args.entries.now c.loop-i.i entry = search rules in
    let fits : JobFits entry.job = search rules in
    fit_on (jobs_in c.args.entries.now) c.loop-i.i entry.job c.loop-i.invariant (within c.args.entries.now c.loop-i.i c.loop-i-test.true)
    (job_at c.args.entries.now c.loop-i.i entry c.loop-i-test.true here) fits

pub returns : goal.returns
returns c =
    let jobs = jobs_in c.args.entries.now in
    let end : c.loop-i.i ≡ length jobs = omega (arith, length-map c.args.entries.now (λ (e : Entry). e.job), c.loop-i-test.false, c.loop-i.auto.i-end) in
    subst (λ (js : List Job). AllByRecursion JobFits js) (ap (λ (n : ℕ). take n jobs) end ∙ take-length jobs) c.loop-i.invariant
