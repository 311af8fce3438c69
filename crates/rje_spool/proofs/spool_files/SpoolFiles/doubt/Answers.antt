use Rattle.std.proofs.Common.{◌∙◌}
use Rattle.rje_spool.proofs.spool_files.SpoolFiles.doubt.Goals as goal

pub returns-then-doubted-clause-doubted : goal.returns-then-doubted-clause-doubted
returns-then-doubted-clause-doubted g c = rw (c.tell_written.ensures.given ∙ c.tell_doubt.ensures.given) c.in-Ok.ensures.doubted

pub returns-in-Err-clause-left : goal.returns-in-Err-clause-left
returns-in-Err-clause-left g c = rw c.told_fault.ensures.files c.in-Err.ensures.failed
