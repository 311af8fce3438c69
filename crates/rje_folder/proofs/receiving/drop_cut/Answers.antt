use Rattle.std.proofs.Common.{refl, rules}
use Rattle.rje_store.specs.Disk.{Remove}
use Rattle.rje_store.proofs.Replacing.{added_call, added_none}
use Rattle.rje_folder.specs.Promising.{MayDropCut}
use Rattle.rje_folder.proofs.receiving.drop_cut.Goals as goal

pub returns-in_err-remove : goal.returns-in_err-remove
returns-in_err-remove g c = λ told.
    let may = MayDropCut g.D.FolderDisk.is_file c.args.path.now c.args.file in
    let same : g.D.FolderDisk.is_file (g.D.Disk.asked c.args.disk.now) c.args.path.now c.args.file = search rules in
    added_call may _ _ _ c.remove.result (Remove c.args.path.now) (added_none may _) (c.remove.ensures told) (refl, same)

pub returns : goal.returns
returns g c = λ told.
    let may = MayDropCut g.D.FolderDisk.is_file c.args.path.now c.args.file in
    let same : g.D.FolderDisk.is_file (g.D.Disk.asked c.args.disk.now) c.args.path.now c.args.file = search rules in
    added_call may _ _ _ c.remove.result (Remove c.args.path.now) (added_none may _) (c.remove.ensures told) (refl, same)
