use Rattle.rje_store.specs.Replacing.{Adds}
use Rattle.rje_folder.specs.FileNames.{IsNameOf}
use Rattle.rje_folder.specs.Moving.{MayLink}
use Rattle.rje_folder.specs.Inside.Calls.{KeepsFiles}
use Rattle.rje_folder.proofs.linking.link_free.Given as goal

abbrev pub invariant-loop-number : goal.invariant-loop-number
invariant-loop-number g l = record {
  asks : g.D.Disk.discloses → Adds (MayLink l.from (IsNameOf l.names)) (g.D.Disk.asked l.fn.disk) (g.D.Disk.asked l.disk);
  keeps : g.D.Disk.discloses → KeepsFiles (g.D.Disk.asked l.fn.disk) (g.D.Disk.asked l.disk);
}
