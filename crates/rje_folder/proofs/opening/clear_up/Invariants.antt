use Rattle.rje_store.specs.Replacing.{Adds}
use Rattle.rje_folder.specs.Promising.{MayClear}
use Rattle.rje_folder.proofs.opening.clear_up.Given as goal

abbrev pub invariant-loop-folder : goal.invariant-loop-folder
invariant-loop-folder g l = g.D.Disk.discloses → Adds (MayClear l.station) (g.D.Disk.asked l.fn.disk) (g.D.Disk.asked l.disk)
