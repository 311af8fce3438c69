use Rattle.std.proofs.Common.{◌≡◌, length}
use Rattle.rje_spool.specs.Backed.{GoesOn}
use Rattle.rje_spool.specs.GivenFiles.{jobs_of}
use Rattle.rje_spool.proofs.spool_files.SpoolFiles.take_files.Given as goal

abbrev pub invariant-loop : goal.invariant-loop
invariant-loop g l = record {
  numbered : jobs_of l.self.given.files.items ≡ length l.jobs.items;
  on : g.D.Disk.discloses → GoesOn (g.D.Disk.asked l.fn.self.folder.disk) (g.D.Disk.asked l.self.folder.disk);
  path : l.self.folder.path ≡ l.fn.self.folder.path;
}
