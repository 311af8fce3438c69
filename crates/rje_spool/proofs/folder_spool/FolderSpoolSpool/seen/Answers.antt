use Rattle.std.proofs.Common.{◌∙◌}
use Rattle.std.specs.Prelude.{string_bytes}
use Rattle.rje_spool.proofs.Backed.{are_backed, goes_on_twice}
use Rattle.rje_spool.proofs.folder_spool.FolderSpoolSpool.seen.Goals as goal

pub invariant_of-self : goal.invariant_of-self
invariant_of-self g c = λ told kept. rw (c.seen.ensures.folder, c.finish_hidden.ensures.path ∙ c.make_paper.ensures.path)
    (are_backed (string_bytes c.self.inside.files.folder.path) (g.B.Ledger.entries c.self.inside.book) (g.D.Disk.asked c.self.inside.files.folder.disk) (g.D.Disk.asked c.finish_hidden.new.self.folder.disk)
    (goes_on_twice _ _ _ (c.make_paper.ensures.on told) (c.finish_hidden.ensures.on told)) (c.self.invariant told kept))
