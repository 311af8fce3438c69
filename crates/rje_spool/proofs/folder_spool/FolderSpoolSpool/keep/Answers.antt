use Rattle.std.proofs.Common.{◌∙◌}
use Rattle.std.specs.Prelude.{string_bytes}
use Rattle.rje_spool.proofs.Backed.{are_backed, goes_on_twice}
use Rattle.rje_spool.proofs.folder_spool.FolderSpoolSpool.keep.Goals as goal

pub invariant_of-self : goal.invariant_of-self
invariant_of-self g c = λ told kept. rw (c.keep.ensures.path ∙ c.make_paper.ensures.path)
    (are_backed (string_bytes c.self.inside.files.folder.path) (g.B.Ledger.entries c.self.inside.book) (g.D.Disk.asked c.self.inside.files.folder.disk) (g.D.Disk.asked c.keep.new.self.folder.disk)
    (goes_on_twice _ _ _ (c.make_paper.ensures.on told) (c.keep.ensures.on told)) (c.self.invariant told kept))

pub invariant_of-self-2 : goal.invariant_of-self-2
invariant_of-self-2 g c = λ told kept. rw (c.keep.ensures.path ∙ c.make_paper.ensures.path, c.enter_kept.ensures.entered kept) (
  g.D.Disk.asked c.make_paper.new.self.folder.disk,
  rw (c.make_paper.ensures.path) at (c.in_ok-keep.ensures.kept told),
  are_backed (string_bytes c.self.inside.files.folder.path) (g.B.Ledger.entries c.self.inside.book) (g.D.Disk.asked c.self.inside.files.folder.disk) (g.D.Disk.asked c.make_paper.new.self.folder.disk) (c.make_paper.ensures.on told) (c.self.invariant told kept),
)
