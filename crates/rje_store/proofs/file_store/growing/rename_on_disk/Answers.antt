use Rattle.std.proofs.Common.{refl}
use Rattle.rje_store.specs.Disk.{Rename}
use Rattle.rje_store.specs.Replacing.{MayReplace}
use Rattle.rje_store.proofs.Replacing.{added_call, added_none, added_twice, sync_may}
use Rattle.rje_store.proofs.file_store.growing.rename_on_disk.Goals as goal

pub returns-in_err-rename-clause-asks : goal.returns-in_err-rename-clause-asks
returns-in_err-rename-clause-asks g c = λ told folder bytes beside whole.
    added_call (MayReplace c.args.to.now bytes) _ _ _ c.rename.result (Rename c.args.from.now c.args.to.now) (added_none (MayReplace c.args.to.now bytes) _) (c.rename.ensures told) (beside, refl, whole)

pub returns-clause-asks : goal.returns-clause-asks
returns-clause-asks g c = λ told folder bytes beside whole.
    added_twice (MayReplace c.args.to.now bytes) _ _ _
    (added_call (MayReplace c.args.to.now bytes) _ _ _ c.rename.result (Rename c.args.from.now c.args.to.now) (added_none (MayReplace c.args.to.now bytes) _) (c.rename.ensures told) (beside, refl, whole))
    (sync_may c.args.to.now bytes _ _ (rw folder at (c.sync_folder.ensures.asks told)))
