use Rattle.rje_spool.proofs.spool_files.SpoolFiles.take_back.Goals as goal

pub returns-in-Err-clause-left : goal.returns-in-Err-clause-left
returns-in-Err-clause-left g c = rw c.tell_doubt.ensures.given c.in-Err.ensures.failed
