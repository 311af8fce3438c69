use Rattle.std.proofs.Common.{◌≡◌, ℕ, suc, ◌+◌, List, ◌∷◌, ap, ◌∙◌, arith}
use Rattle.rje_day.specs.declared.disposition.Disposition.TheVariants.{InDoubt}
use Rattle.rje_session.specs.Ledger.{Entry, Settled}
use Rattle.rje_spool.specs.Backed.{Spooled, with_first_doubted}
use Rattle.rje_spool.proofs.folder_spool.FolderSpool.doubt_all.Goals as goal

pub loop-job-preserved : goal.loop-job-preserved
loop-job-preserved g c = λ kept.
    let more : suc c.loop-job.job ≡ c.loop-job.job + 1 = omega arith in
    c.in-Ok.ensures.entered kept ∙ ap (λ (entries : List Entry). Settled c.loop-job.job InDoubt ∷ entries) (c.loop-job.invariant kept)
    ∙ ap (λ (n : ℕ). with_first_doubted n c.args.self.now.entries) more
