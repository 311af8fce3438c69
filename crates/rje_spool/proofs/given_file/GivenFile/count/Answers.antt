use Rattle.rje_spool.proofs.Backed.{goes_on_twice}
use Rattle.rje_spool.proofs.given_file.GivenFile.count.Goals as goal

pub returns-then-ends_with-clause-on : goal.returns-then-ends_with-clause-on
returns-then-ends_with-clause-on g c = λ told. goes_on_twice _ _ _ (c.set_mark.ensures.on told) (c.is_sent.ensures.on told)

pub returns-else-ends_with-clause-on : goal.returns-else-ends_with-clause-on
returns-else-ends_with-clause-on g c = λ told. goes_on_twice _ _ _ (c.set_mark.ensures.on told) (c.take_back.ensures.on told)
