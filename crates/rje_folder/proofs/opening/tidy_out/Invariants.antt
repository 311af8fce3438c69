use Rattle.rje_store.specs.Replacing.{Adds}
use Rattle.rje_folder.specs.Promising.{MayTidy}
use Rattle.rje_folder.proofs.opening.tidy_out.Given as goal

abbrev pub invariant-loop-name : goal.invariant-loop-name
invariant-loop-name g l = g.D.Disk.discloses → Adds (MayTidy g.D.FolderDisk.are_one l.station) (g.D.Disk.asked l.fn.disk) (g.D.Disk.asked l.disk)
