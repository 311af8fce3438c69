use Rattle.std.proofs.Common.{sym}
use Rattle.rje_spool.proofs.spool_files.SpoolFiles.given.Goals as goal

pub returns : goal.returns
returns g c = (c.in_ok-file.file.now, sym c.in_ok-file.ensures, c.given.ensures)
