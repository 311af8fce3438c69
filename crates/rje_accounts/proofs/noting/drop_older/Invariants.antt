use Rattle.rje_store.specs.Replacing.{Adds}
use Rattle.rje_accounts.specs.Noting.{IsNoted, MayDropOlder}
use Rattle.rje_accounts.proofs.noting.drop_older.Given as goal

abbrev pub invariant-loop-text : goal.invariant-loop-text
invariant-loop-text g l = record {
  asks : g.D.Disk.discloses → Adds (MayDropOlder l.station l.noted) (g.D.Disk.asked l.fn.disk) (g.D.Disk.asked l.disk);
  noted : g.D.Disk.discloses → IsNoted l.path (g.D.Disk.asked l.disk);
}
