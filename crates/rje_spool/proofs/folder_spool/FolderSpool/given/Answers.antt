use Rattle.std.proofs.Common.{ap}
use Rattle.rje_spool.specs.Backed.{Spooled}
use Rattle.rje_spool.proofs.folder_spool.FolderSpool.given.Goals as goal

pub returns : goal.returns
returns g c = rw (ap (λ (s : Spooled). s.files) c.self.view_is) at c.given.ensures
