use Rattle.rje_spool.proofs.Backed.{goes_on_twice}
use Rattle.rje_spool.proofs.given_file.GivenFile.lies_ready.Goals as goal

pub returns-then-is_err-clause-on : goal.returns-then-is_err-clause-on
returns-then-is_err-clause-on g c = λ told. goes_on_twice _ _ _ (c.take_back-ready.ensures.on told) (c.stays_in_doubt.ensures.on told)
