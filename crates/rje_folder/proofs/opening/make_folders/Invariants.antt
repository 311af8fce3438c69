use Rattle.std.proofs.Common.{◌≡◌}
use Rattle.rje_folder.proofs.opening.make_folders.Given as goal

abbrev pub invariant-loop-folder : goal.invariant-loop-folder
invariant-loop-folder g l = g.D.Disk.discloses → g.D.Disk.asked l.disk ≡ g.D.Disk.asked l.fn.disk
