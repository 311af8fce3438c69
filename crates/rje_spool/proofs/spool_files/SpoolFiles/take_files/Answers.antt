use Rattle.std.proofs.Common.{◌∙◌}
use Rattle.rje_spool.proofs.Backed.{goes_on_twice}
use Rattle.rje_spool.proofs.spool_files.SpoolFiles.take_files.Goals as goal

pub returns-in_err-take_file-clause-on : goal.returns-in_err-take_file-clause-on
returns-in_err-take_file-clause-on g c = λ told. goes_on_twice _ _ _ (c.loop.invariant.on told) (c.take_file.ensures.on told)

pub loop-preserved : goal.loop-preserved
loop-preserved g c = record {
  numbered = c.in_ok-take_file.ensures.numbered c.loop.invariant.numbered;
  on = λ told. goes_on_twice _ _ _ (c.loop.invariant.on told) (c.take_file.ensures.on told);
  path = c.take_file.ensures.path ∙ c.loop.invariant.path;
}
