use Rattle.rje_store.proofs.Replacing.{added_twice}
use Rattle.rje_folder.specs.TakingOut.{MayTakeOut}
use Rattle.rje_folder.proofs.TakenOut.{sync_takes_out}
use Rattle.rje_folder.proofs.taking_out.take_from_out.Goals as goal

pub returns-in_err-sync_names-clause-asks : goal.returns-in_err-sync_names-clause-asks
returns-in_err-sync_names-clause-asks g c = λ told.
    sync_takes_out g.D.FolderDisk.are_one c.args.station.now c.args.name.now c.args.kept.now _ _ (rw (c.in_ok-folder.ensures told) at (c.sync_names.ensures.asks told))

pub returns-clause-asks : goal.returns-clause-asks
returns-clause-asks g c = λ told. added_twice (MayTakeOut g.D.FolderDisk.are_one c.args.station.now c.args.name.now c.args.kept.now) _ _ _
    (sync_takes_out g.D.FolderDisk.are_one c.args.station.now c.args.name.now c.args.kept.now _ _ (rw (c.in_ok-folder.ensures told) at (c.sync_names.ensures.asks told)))
    (c.take_out.ensures.asks told)
