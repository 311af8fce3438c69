use Rattle.rje_store.specs.Replacing.{Adds}
use Rattle.rje_folder.specs.Promising.{MayTidy}
use Rattle.rje_folder.proofs.tidying.tidy_doubt.Given as goal

abbrev pub invariant-loop-base : goal.invariant-loop-base
invariant-loop-base g l = g.D.Disk.discloses → Adds (MayTidy g.D.FolderDisk.are_one l.station) (g.D.Disk.asked l.fn.disk) (g.D.Disk.asked l.disk)
