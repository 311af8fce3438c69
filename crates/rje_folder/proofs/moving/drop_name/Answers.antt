use Rattle.rje_folder.specs.Moving.{MayDrop}
use Rattle.rje_store.proofs.Replacing.{added_twice}
use Rattle.rje_folder.proofs.Taken.{sync_kept}
use Rattle.rje_folder.proofs.moving.drop_name.Goals as goal

pub returns-in_err-sync_names-clause-asks : goal.returns-in_err-sync_names-clause-asks
returns-in_err-sync_names-clause-asks g c = λ told.
    sync_kept g.D.FolderDisk.are_one c.args.kept.now c.args.name.now _ _ (rw (c.in_ok-kept_folder.ensures told) at (c.sync_names.ensures.asks told))

pub returns-clause-asks : goal.returns-clause-asks
returns-clause-asks g c = λ told. added_twice (MayDrop g.D.FolderDisk.are_one c.args.kept.now c.args.name.now) _ _ _
    (sync_kept g.D.FolderDisk.are_one c.args.kept.now c.args.name.now _ _ (rw (c.in_ok-kept_folder.ensures told) at (c.sync_names.ensures.asks told)))
    (c.take_away.ensures.asks told)
