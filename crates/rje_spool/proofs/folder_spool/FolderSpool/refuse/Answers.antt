use Rattle.std.specs.Prelude.{string_bytes}
use Rattle.rje_spool.proofs.Backed.{are_backed}
use Rattle.rje_spool.proofs.folder_spool.FolderSpool.refuse.Goals as goal

pub invariant_of-self : goal.invariant_of-self
invariant_of-self g c = λ told kept. rw c.refuse_file.ensures.path
    (are_backed (string_bytes c.self.inside.files.folder.path) (g.B.Ledger.entries c.self.inside.book) (g.D.Disk.asked c.self.inside.files.folder.disk) (g.D.Disk.asked c.refuse_file.new.self.folder.disk)
    (c.refuse_file.ensures.on told) (c.self.invariant told kept))
