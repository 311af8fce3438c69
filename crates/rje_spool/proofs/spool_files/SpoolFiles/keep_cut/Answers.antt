use Rattle.std.specs.Prelude.{string_bytes}
use Rattle.rje_spool.proofs.Backed.{goes_on_twice}
use Rattle.rje_spool.proofs.spool_files.SpoolFiles.keep_cut.Goals as goal

pub returns-clause-kept : goal.returns-clause-kept
returns-clause-kept g c = λ told. (
  string_bytes c.in_ok-path.path,
  g.D.Disk.asked c.keep_in.new.self.folder.disk,
  c.drop_earlier.ensures.on told,
  c.in_ok-path.ensures.made told,
  c.in_ok-path.ensures.named told,
  c.in_ok-path.ensures.kept told,
)

pub returns-clause-on : goal.returns-clause-on
returns-clause-on g c = λ told. goes_on_twice _ _ _ (c.keep_in.ensures.on told) (c.drop_earlier.ensures.on told)
