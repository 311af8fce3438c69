use Rattle.std.proofs.Common.{inl, inr, refl}
use Rattle.rje_store.proofs.Replacing.{added_call, added_none, added_twice}
use Rattle.rje_store.specs.Disk.{Remove, Rename}
use Rattle.rje_accounts.specs.Promising.{MayName}
use Rattle.rje_accounts.proofs.Asked.{sync_added}
use Rattle.rje_accounts.proofs.promising.name_tried.Goals as goal

pub returns-in_err-rename-clause-asks : goal.returns-in_err-rename-clause-asks
returns-in_err-rename-clause-asks g c = λ told.
    let may = MayName g.D.FolderDisk.is_file c.args.tried.now c.args.second.now c.args.file in
    added_call may _ _ _ c.rename.result (Rename c.args.tried.now c.args.second.now) (added_none may _) (c.rename.ensures told) (inl (refl, c.requires.is))

pub returns-in-Err-clause-asks : goal.returns-in-Err-clause-asks
returns-in-Err-clause-asks g c = λ told.
    let may = MayName g.D.FolderDisk.is_file c.args.tried.now c.args.second.now c.args.file in
    let renamed = added_call may _ _ _ c.rename.result (Rename c.args.tried.now c.args.second.now) (added_none may _) (c.rename.ensures told) (inl (refl, c.requires.is)) in
    let synced = sync_added may c.args.second.now _ _ (inr (inl refl)) (rw (c.in_ok-folder.ensures told) at (c.sync_names.ensures.asks told)) in
    added_call may _ _ _ c.remove.result (Remove c.args.second.now) (added_twice may _ _ _ renamed synced) (c.remove.ensures told) (inr (inr refl))

pub returns-in-Ok-true-clause-asks : goal.returns-in-Ok-true-clause-asks
returns-in-Ok-true-clause-asks g c = λ told.
    let may = MayName g.D.FolderDisk.is_file c.args.tried.now c.args.second.now c.args.file in
    let renamed = added_call may _ _ _ c.rename.result (Rename c.args.tried.now c.args.second.now) (added_none may _) (c.rename.ensures told) (inl (refl, c.requires.is)) in
    let synced = sync_added may c.args.second.now _ _ (inr (inl refl)) (rw (c.in_ok-folder.ensures told) at (c.sync_names.ensures.asks told)) in
    added_twice may _ _ _ renamed synced

pub returns-clause-asks : goal.returns-clause-asks
returns-clause-asks g c = λ told.
    let may = MayName g.D.FolderDisk.is_file c.args.tried.now c.args.second.now c.args.file in
    let renamed = added_call may _ _ _ c.rename.result (Rename c.args.tried.now c.args.second.now) (added_none may _) (c.rename.ensures told) (inl (refl, c.requires.is)) in
    let synced = sync_added may c.args.second.now _ _ (inr (inl refl)) (rw (c.in_ok-folder.ensures told) at (c.sync_names.ensures.asks told)) in
    added_call may _ _ _ c.remove-2.result (Remove c.args.second.now) (added_twice may _ _ _ renamed synced) (c.remove-2.ensures told) (inr (inr refl))
