use Rattle.std.proofs.Common.{◌≢◌, inr, refl, rules}
use Rattle.rje_store.specs.Disk.{Remove}
use Rattle.rje_store.proofs.Replacing.{added_call, added_none}
use Rattle.rje_folder.specs.Moving.{MayDrop}
use Rattle.rje_folder.proofs.moving.remove_spare.Goals as goal

pub returns-in_err-remove-clause-asks : goal.returns-in_err-remove-clause-asks
returns-in_err-remove-clause-asks g c = λ told.
    let may = MayDrop g.D.FolderDisk.are_one c.args.kept.now c.args.name.now in
    let differ : c.args.kept.now ≢ c.args.name.now = search rules in
    let one : g.D.FolderDisk.are_one (g.D.Disk.asked c.args.disk.now) c.args.kept.now c.args.name.now = search rules in
    added_call may _ _ _ c.remove.result (Remove c.args.name.now) (added_none may _) (c.remove.ensures told) (inr (inr (refl, (differ, one, c.requires.kept told))))

pub returns-clause-asks : goal.returns-clause-asks
returns-clause-asks g c = λ told.
    let may = MayDrop g.D.FolderDisk.are_one c.args.kept.now c.args.name.now in
    let differ : c.args.kept.now ≢ c.args.name.now = search rules in
    let one : g.D.FolderDisk.are_one (g.D.Disk.asked c.args.disk.now) c.args.kept.now c.args.name.now = search rules in
    added_call may _ _ _ c.remove.result (Remove c.args.name.now) (added_none may _) (c.remove.ensures told) (inr (inr (refl, (differ, one, c.requires.kept told))))
