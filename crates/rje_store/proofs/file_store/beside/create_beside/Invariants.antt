use Rattle.rje_store.specs.Replacing.{Adds, MayTry}
use Rattle.rje_store.proofs.file_store.beside.create_beside.Given as goal

abbrev pub invariant-loop-number : goal.invariant-loop-number
invariant-loop-number g l = g.D.Disk.discloses → Adds (MayTry l.path) (g.D.Disk.asked l.fn.disk) (g.D.Disk.asked l.disk)
