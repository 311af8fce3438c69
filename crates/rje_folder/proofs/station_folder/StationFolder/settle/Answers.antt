use Rattle.std.proofs.Common.{subst}
use Rattle.std.specs.Prelude.{string_bytes}
use Rattle.rje_store.specs.Replacing.{Adds}
use Rattle.rje_folder.specs.Promising.{MaySettle}
use Rattle.rje_folder.proofs.TakenOut.{out_stays}
use Rattle.rje_folder.proofs.station_folder.StationFolder.settle.Goals as goal

pub returns-clause-asks : goal.returns-clause-asks
returns-clause-asks g c = λ told. rw c.as_str.ensures.value at (c.settle-settled.ensures.asks told)

pub returns-clause-in_doubt : goal.returns-clause-in_doubt
returns-clause-in_doubt g c = λ told is synced.
    let station = string_bytes c.args.self.now.path in
    out_stays g.D.FolderDisk.are_one station c.args.name.now c.args.doubt.now _ _
    (subst (λ d. Adds (MaySettle g.D.FolderDisk.are_one station c.args.name.now c.args.doubt.now d) (g.D.Disk.asked c.args.self.now.disk) (g.D.Disk.asked c.settle-settled.new.disk)) is (rw c.as_str.ensures.value at (c.settle-settled.ensures.asks told)))
    synced
