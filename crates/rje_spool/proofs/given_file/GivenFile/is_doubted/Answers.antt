use Rattle.rje_spool.proofs.Backed.{goes_on_twice}
use Rattle.rje_spool.proofs.given_file.GivenFile.is_doubted.Goals as goal

pub returns-in_ok-goes_out-in_default-clause-on : goal.returns-in_ok-goes_out-in_default-clause-on
returns-in_ok-goes_out-in_default-clause-on g c = λ told. goes_on_twice _ _ _ (c.goes_out.ensures.on told) (c.stays_in_doubt.ensures.on told)
