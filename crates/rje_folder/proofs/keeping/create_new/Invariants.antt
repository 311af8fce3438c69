use Rattle.rje_store.specs.Replacing.{Adds}
use Rattle.rje_folder.specs.Keeping.{LeavesNone}
use Rattle.rje_folder.specs.Inside.Calls.{MayCreate}
use Rattle.rje_folder.proofs.keeping.create_new.Given as goal

abbrev pub invariant-loop-number : goal.invariant-loop-number
invariant-loop-number g l = record {
  asks : g.D.Disk.discloses → Adds (MayCreate l.folder) (g.D.Disk.asked l.fn.disk) (g.D.Disk.asked l.disk);
  none : g.D.Disk.discloses → LeavesNone (g.D.Disk.asked l.fn.disk) (g.D.Disk.asked l.disk);
}
