-- A name that is taken away by way of a hidden one: what is asked at each way out.
-- The rename is added first, and then one of three things: the hidden name goes, the shown one comes back, or nothing more (TakenOut).
use Rattle.std.proofs.Common.{◌≢◌, inl, refl, rules}
use Rattle.rje_store.specs.Disk.{Rename}
use Rattle.rje_store.proofs.Replacing.{added_call, added_none, added_twice}
use Rattle.rje_folder.specs.TakingOut.{MayTakeBy}
use Rattle.rje_folder.proofs.TakenOut.{give_takes, spare_takes, sync_takes}
use Rattle.rje_folder.proofs.taking_out.take_by.Goals as goal

pub returns-in_err-rename-clause-asks : goal.returns-in_err-rename-clause-asks
returns-in_err-rename-clause-asks g c = λ told.
    let may = MayTakeBy g.D.FolderDisk.are_one c.args.shown.now c.args.hidden.now c.args.kept.now in
    let differ : c.args.kept.now ≢ c.args.shown.now = search rules in
    let also : c.args.kept.now ≢ c.args.hidden.now = search rules in
    let renames = added_call may _ _ _ c.rename.result (Rename c.args.shown.now c.args.hidden.now) (added_none may _) (c.rename.ensures told) (differ, also, inl refl) in
    renames

pub returns-in_err-sync_names-clause-asks : goal.returns-in_err-sync_names-clause-asks
returns-in_err-sync_names-clause-asks g c = λ told.
    let may = MayTakeBy g.D.FolderDisk.are_one c.args.shown.now c.args.hidden.now c.args.kept.now in
    let differ : c.args.kept.now ≢ c.args.shown.now = search rules in
    let also : c.args.kept.now ≢ c.args.hidden.now = search rules in
    let renames = added_call may _ _ _ c.rename.result (Rename c.args.shown.now c.args.hidden.now) (added_none may _) (c.rename.ensures told) (differ, also, inl refl) in
    added_twice may _ _ _ renames (added_twice may _ _ _ (spare_takes g.D.FolderDisk.are_one c.args.shown.now c.args.hidden.now c.args.kept.now _ _ differ also (c.remove_spare-taken.ensures.asks told)) (sync_takes g.D.FolderDisk.are_one c.args.shown.now c.args.hidden.now c.args.kept.now _ _ differ also (rw (c.requires.folder told) at (c.sync_names.ensures.asks told))))

pub returns-in-Ok-true-clause-asks : goal.returns-in-Ok-true-clause-asks
returns-in-Ok-true-clause-asks g c = λ told.
    let may = MayTakeBy g.D.FolderDisk.are_one c.args.shown.now c.args.hidden.now c.args.kept.now in
    let differ : c.args.kept.now ≢ c.args.shown.now = search rules in
    let also : c.args.kept.now ≢ c.args.hidden.now = search rules in
    let renames = added_call may _ _ _ c.rename.result (Rename c.args.shown.now c.args.hidden.now) (added_none may _) (c.rename.ensures told) (differ, also, inl refl) in
    added_twice may _ _ _ renames (added_twice may _ _ _ (spare_takes g.D.FolderDisk.are_one c.args.shown.now c.args.hidden.now c.args.kept.now _ _ differ also (c.remove_spare-taken.ensures.asks told)) (sync_takes g.D.FolderDisk.are_one c.args.shown.now c.args.hidden.now c.args.kept.now _ _ differ also (rw (c.requires.folder told) at (c.sync_names.ensures.asks told))))

pub returns-in-Err-clause-asks : goal.returns-in-Err-clause-asks
returns-in-Err-clause-asks g c = λ told.
    let may = MayTakeBy g.D.FolderDisk.are_one c.args.shown.now c.args.hidden.now c.args.kept.now in
    let differ : c.args.kept.now ≢ c.args.shown.now = search rules in
    let also : c.args.kept.now ≢ c.args.hidden.now = search rules in
    let renames = added_call may _ _ _ c.rename.result (Rename c.args.shown.now c.args.hidden.now) (added_none may _) (c.rename.ensures told) (differ, also, inl refl) in
    added_twice may _ _ _ renames (added_twice may _ _ _ (spare_takes g.D.FolderDisk.are_one c.args.shown.now c.args.hidden.now c.args.kept.now _ _ differ also (c.remove_spare-taken.ensures.asks told)) (give_takes g.D.FolderDisk.are_one c.args.shown.now c.args.hidden.now c.args.kept.now _ _ differ also (c.give_shown.ensures told)))

pub returns-in-Ok-clause-asks : goal.returns-in-Ok-clause-asks
returns-in-Ok-clause-asks g c = λ told.
    let may = MayTakeBy g.D.FolderDisk.are_one c.args.shown.now c.args.hidden.now c.args.kept.now in
    let differ : c.args.kept.now ≢ c.args.shown.now = search rules in
    let also : c.args.kept.now ≢ c.args.hidden.now = search rules in
    let renames = added_call may _ _ _ c.rename.result (Rename c.args.shown.now c.args.hidden.now) (added_none may _) (c.rename.ensures told) (differ, also, inl refl) in
    added_twice may _ _ _ renames (added_twice may _ _ _ (spare_takes g.D.FolderDisk.are_one c.args.shown.now c.args.hidden.now c.args.kept.now _ _ differ also (c.remove_spare-taken.ensures.asks told)) (give_takes g.D.FolderDisk.are_one c.args.shown.now c.args.hidden.now c.args.kept.now _ _ differ also (c.give_shown.ensures told)))
