use Rattle.std.proofs.lemmas.Grind.{common_steps}
use Rattle.std.proofs.Common.{◌≡◌, ◌≢◌, ◌∙◌, arith, List, [], subst, sym, length, ◌==◌, false}
use Rattle.std.specs.List.{All}
use Rattle.rje_files.specs.declared.entry.Entry.{Entry}
use Rattle.rje_files.specs.JobFile.{HasEntries}
use Rattle.rje_files.specs.Marks.{AreMarks}
use Rattle.rje_files.specs.Unsent.{CanPass}
use Rattle.rje_jobs.specs.declared.job.Job.{Job}
use Rattle.rje_spool.proofs.outgoing.of_job_file.Goals as goal

some_jobs : (jobs : List Job) → false ≡ (length jobs == 0) → jobs ≢ []
some_jobs jobs none is = grind (arith, common_steps)

pub returns-clause-jobs : goal.returns-clause-jobs
returns-clause-jobs c =
    let entries = c.in-Ok.entries.items in
    let all : All CanPass entries = subst (λ (es : List Entry). All CanPass es) c.as_slice.ensures.value c.in_default.ensures.first in
    let marks : AreMarks c.args.bytes.now c.in-Ok-mark_places.places.items =
    c.in-Ok-mark_places.ensures.marks c.args.bytes.now (subst (λ (es : List Entry). HasEntries es c.args.bytes.now) (sym c.as_slice-2.ensures.value) c.in-Ok.ensures.file)
    (subst (λ (es : List Entry). All CanPass es) (sym c.as_slice-2.ensures.value) all) in
    ((entries, c.in-Ok.ensures.file, all, c.in-Ok-unsent_jobs.ensures.jobs), marks, some_jobs c.in-Ok-unsent_jobs.jobs (sym c.if-is_empty.false ∙ c.is_empty.ensures.none))
