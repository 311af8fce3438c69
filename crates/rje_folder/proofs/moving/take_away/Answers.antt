use Rattle.rje_store.proofs.Replacing.{added_twice}
use Rattle.rje_folder.specs.Moving.{MayDrop}
use Rattle.rje_folder.proofs.Taken.{sync_dropped}
use Rattle.rje_folder.proofs.moving.take_away.Goals as goal

pub returns-in_err-sync_names-clause-asks : goal.returns-in_err-sync_names-clause-asks
returns-in_err-sync_names-clause-asks g c = λ told.
    added_twice (MayDrop g.D.FolderDisk.are_one c.args.kept.now c.args.name.now) _ _ _ (c.remove_spare.ensures.asks told)
    (sync_dropped g.D.FolderDisk.are_one c.args.kept.now c.args.name.now _ _ (rw (c.requires.folder told) at (c.sync_names.ensures.asks told)))

pub returns-clause-asks : goal.returns-clause-asks
returns-clause-asks g c = λ told.
    added_twice (MayDrop g.D.FolderDisk.are_one c.args.kept.now c.args.name.now) _ _ _ (c.remove_spare.ensures.asks told)
    (sync_dropped g.D.FolderDisk.are_one c.args.kept.now c.args.name.now _ _ (rw (c.requires.folder told) at (c.sync_names.ensures.asks told)))
