use Rattle.rje_store.specs.Replacing.{Adds}
use Rattle.rje_folder.specs.TakingOver.{MayFinish}
use Rattle.rje_folder.proofs.finishing.finish_some.Given as goal

abbrev pub invariant-loop-hidden : goal.invariant-loop-hidden
invariant-loop-hidden g l = g.D.Disk.discloses → Adds (MayFinish g.D.Disk.opened g.D.File.Read.remaining g.D.FolderDisk.is_open g.D.FolderDisk.is_file g.D.FolderDisk.are_one l.station) (g.D.Disk.asked l.fn.disk) (g.D.Disk.asked l.disk)
