use Rattle.rje_store.specs.Replacing.{Adds}
use Rattle.rje_store.specs.Inside.Filling.{KeepsNames, MayLink}
use Rattle.rje_store.proofs.file_store.beside.link_beside.Given as goal

abbrev pub invariant-loop-number : goal.invariant-loop-number
invariant-loop-number g l = record {
  asks : g.D.Disk.discloses → Adds (MayLink l.path) (g.D.Disk.asked l.fn.disk) (g.D.Disk.asked l.disk);
  keeps : g.D.Disk.discloses → KeepsNames (g.D.Disk.asked l.fn.disk) (g.D.Disk.asked l.disk);
}
