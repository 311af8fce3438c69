use Rattle.rje_store.specs.Replacing.{Adds}
use Rattle.rje_folder.specs.Promising.{MayClear}
use Rattle.rje_folder.proofs.clearing.clear.Given as goal

abbrev pub invariant-loop-name : goal.invariant-loop-name
invariant-loop-name g l = g.D.Disk.discloses → Adds (MayClear l.station) (g.D.Disk.asked l.fn.disk) (g.D.Disk.asked l.disk)
