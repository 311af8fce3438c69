use Rattle.rje_spool.specs.Backed.{Spooled}
use Rattle.std.proofs.Common.{ap}
use Rattle.std.specs.Prelude.{string_bytes}
use Rattle.rje_spool.proofs.Backed.{are_backed}
use Rattle.rje_spool.proofs.GivenFiles.{where_err}
use Rattle.rje_spool.proofs.folder_spool.FolderSpoolSpool.settle.Goals as goal

pub invariant_of-self : goal.invariant_of-self
invariant_of-self g c = λ told kept. rw c.settle.ensures.path (are_backed (string_bytes c.self.inside.files.folder.path) (g.B.Ledger.entries c.self.inside.book) (g.D.Disk.asked c.self.inside.files.folder.disk) (g.D.Disk.asked c.settle.new.self.folder.disk)
    (c.settle.ensures.on told) (c.self.invariant told kept))

pub invariant_of-self-2 : goal.invariant_of-self-2
invariant_of-self-2 g c = λ told kept. rw (c.settle.ensures.path, c.enter_settled.ensures.entered kept) (are_backed (string_bytes c.self.inside.files.folder.path) (g.B.Ledger.entries c.self.inside.book) (g.D.Disk.asked c.self.inside.files.folder.disk) (g.D.Disk.asked c.settle.new.self.folder.disk)
    (c.settle.ensures.on told) (c.self.invariant told kept))

pub returns-clause-stands : goal.returns-clause-stands
returns-clause-stands g c = λ told. rw (ap (λ (s : Spooled). s.files) c.self.view_is, ap (λ (s : Spooled). s.station) c.self.view_is) at (c.in_ok-settle.ensures.stands told)

pub returns-in_err-settle-clause-left : goal.returns-in_err-settle-clause-left
returns-in_err-settle-clause-left g c = where_err c.from_residual.result _ (rw (ap (λ (s : Spooled). s.files) c.self.view_is) at (c.in_err-settle.ensures.left))

pub returns-clause-marked : goal.returns-clause-marked
returns-clause-marked g c = λ told. rw (ap (λ (s : Spooled). s.files) c.self.view_is, ap (λ (s : Spooled). s.asked) c.self.view_is) at (c.in_ok-settle.ensures.marked told)
