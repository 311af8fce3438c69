use Rattle.rje_spool.specs.Backed.{Spooled}
use Rattle.std.proofs.Common.{ap}
use Rattle.std.specs.Prelude.{string_bytes}
use Rattle.rje_spool.proofs.Backed.{are_backed}
use Rattle.rje_spool.proofs.folder_spool.FolderSpoolSpool.goes_out.Goals as goal

pub invariant_of-self : goal.invariant_of-self
invariant_of-self g c = λ told kept. rw c.goes_out.ensures.path (are_backed (string_bytes c.self.inside.files.folder.path) (g.B.Ledger.entries c.self.inside.book) (g.D.Disk.asked c.self.inside.files.folder.disk) (g.D.Disk.asked c.goes_out.new.self.folder.disk)
    (c.goes_out.ensures.on told) (c.self.invariant told kept))

pub invariant_of-self-2 : goal.invariant_of-self-2
invariant_of-self-2 g c = λ told kept. rw (c.goes_out.ensures.path, c.enter_out.ensures.entered kept) (are_backed (string_bytes c.self.inside.files.folder.path) (g.B.Ledger.entries c.self.inside.book) (g.D.Disk.asked c.self.inside.files.folder.disk) (g.D.Disk.asked c.goes_out.new.self.folder.disk)
    (c.goes_out.ensures.on told) (c.self.invariant told kept))

pub returns-clause-out : goal.returns-clause-out
returns-clause-out g c = λ told. rw (ap (λ (s : Spooled). s.files) c.self.view_is, ap (λ (s : Spooled). s.station) c.self.view_is, ap (λ (s : Spooled). s.asked) c.self.view_is) at (c.in_ok-goes_out.ensures.out told)
