use Rattle.std.specs.Prelude.{string_bytes}
use Rattle.rje_spool.proofs.Backed.{are_backed}
use Rattle.rje_spool.proofs.folder_spool.FolderSpool.can_receive.Goals as goal

pub invariant_of-self : goal.invariant_of-self
invariant_of-self g c = λ told kept. rw c.can_receive.ensures.path
    (are_backed (string_bytes c.self.inside.files.folder.path) (g.B.Ledger.entries c.self.inside.book) (g.D.Disk.asked c.self.inside.files.folder.disk) (g.D.Disk.asked c.can_receive.new.self.folder.disk)
    (c.can_receive.ensures.on told) (c.self.invariant told kept))
