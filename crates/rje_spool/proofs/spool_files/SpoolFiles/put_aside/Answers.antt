use Rattle.rje_spool.proofs.Backed.{goes_on_twice}
use Rattle.rje_spool.proofs.spool_files.SpoolFiles.put_aside.Goals as goal

pub returns-clause-on : goal.returns-clause-on
returns-clause-on g c = λ told.
    let (moves, moved, each) = c.refuse.ensures.asks told in
    goes_on_twice _ _ _ (moves, moved) (c.explain.ensures.on told)
