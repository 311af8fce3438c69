use Rattle.std.proofs.Common.{◌∙◌}
use Rattle.rje_spool.proofs.spool_files.SpoolFiles.count.Goals as goal

pub returns-in-Ok-clause-sent : goal.returns-in-Ok-clause-sent
returns-in-Ok-clause-sent g c = λ told. rw (c.tell_sent.ensures.given, c.tell_sent.ensures.folder) (c.in-Ok.ensures.sent told)

pub returns-in-Err-clause-left : goal.returns-in-Err-clause-left
returns-in-Err-clause-left g c = rw (c.fault_of.ensures.given ∙ c.tell_doubt.ensures.given) c.in-Err.ensures.failed

pub returns-in-Ok-clause-marked : goal.returns-in-Ok-clause-marked
returns-in-Ok-clause-marked g c = λ told. rw (c.tell_sent.ensures.given, c.tell_sent.ensures.folder) (c.in-Ok.ensures.marked told)
