use Rattle.rje_spool.proofs.spool_files.SpoolFiles.goes_out.Goals as goal

pub returns-in-Ok-clause-out : goal.returns-in-Ok-clause-out
returns-in-Ok-clause-out g c told = c.in-Ok.ensures.out told
