use Rattle.std.proofs.Common.{◌∙◌}
use Rattle.rje_spool.proofs.Backed.{goes_on_twice}
use Rattle.rje_spool.proofs.spool_files.SpoolFiles.take_over.Goals as goal

pub returns-in-Err : goal.returns-in-Err
returns-in-Err g c = record {
  given = c.leave.ensures.given;
  on = λ told.
      let (calls, is, each) = c.take_over-taken.ensures.asks told in
      goes_on_twice _ _ _ (calls, is) (c.leave.ensures.on told);
  path = c.leave.ensures.path ∙ c.take_over-taken.ensures.path;
}
