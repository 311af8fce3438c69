use Rattle.std.specs.Prelude.{string_bytes}
use Rattle.rje_store.proofs.Replacing.{added_twice}
use Rattle.rje_folder.specs.Moving.{MayDrop}
use Rattle.rje_folder.proofs.Taken.{sync_kept}
use Rattle.rje_folder.proofs.trying.spare_tried.Goals as goal

pub returns-in_err-sync_names-clause-asks : goal.returns-in_err-sync_names-clause-asks
returns-in_err-sync_names-clause-asks g c = λ told.
    sync_kept g.D.FolderDisk.are_one (string_bytes c.args.second.now.path) c.args.tried.now _ _ (rw (c.requires.folder told) at (c.sync_names.ensures.asks told))

pub returns-clause-asks : goal.returns-clause-asks
returns-clause-asks g c = λ told.
    added_twice (MayDrop g.D.FolderDisk.are_one (string_bytes c.args.second.now.path) c.args.tried.now) _ _ _
    (sync_kept g.D.FolderDisk.are_one (string_bytes c.args.second.now.path) c.args.tried.now _ _ (rw (c.requires.folder told) at (c.sync_names.ensures.asks told)))
    (rw c.as_str.ensures.value at (c.remove_spare.ensures.asks told))
