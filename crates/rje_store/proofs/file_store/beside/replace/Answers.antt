-- What a replacement asks of the disk at each way out.
-- The calls of its steps are joined by `added_twice`, each weakened to what a replacement may ask.
use Rattle.std.proofs.Common.{subst, sym}
use Rattle.rje_store.specs.Disk.{Remove}
use Rattle.rje_store.specs.Replacing.{IsBeside, MayReplace, MayTry}
use Rattle.rje_store.proofs.Replacing.{added_call, added_twice, added_weaker, name_of_new, sync_may, tried_may}
use Rattle.rje_store.proofs.file_store.beside.replace.Goals as goal

pub returns-in_err-beside-clause-asks : goal.returns-in_err-beside-clause-asks
returns-in_err-beside-clause-asks g c =
    let may = MayReplace c.args.path.now c.args.bytes.now in
    λ told. added_weaker (MayTry c.args.path.now) may (tried_may c.args.path.now c.args.bytes.now) _ _ (c.create_beside.ensures.asks told)

pub returns-in_err-sync_folder-in-Ok-clause-asks : goal.returns-in_err-sync_folder-in-Ok-clause-asks
returns-in_err-sync_folder-in-Ok-clause-asks g c =
    let path = c.args.path.now in
    let bytes = c.args.bytes.now in
    λ told. added_twice (MayReplace path bytes) _ _ _
    (added_twice (MayReplace path bytes) _ _ _
    (added_weaker (MayTry path) (MayReplace path bytes) (tried_may path bytes) _ _ (c.create_beside.ensures.asks told))
    (c.put_in_place.ensures.asks told))
    (sync_may path bytes _ _ (rw (c.in_ok-folder.ensures told) at (c.sync_folder.ensures.asks told)))

pub returns-in-Ok-clause-asks : goal.returns-in-Ok-clause-asks
returns-in-Ok-clause-asks g c =
    let path = c.args.path.now in
    let bytes = c.args.bytes.now in
    λ told. added_twice (MayReplace path bytes) _ _ _
    (added_twice (MayReplace path bytes) _ _ _
    (added_weaker (MayTry path) (MayReplace path bytes) (tried_may path bytes) _ _ (c.create_beside.ensures.asks told))
    (c.put_in_place.ensures.asks told))
    (sync_may path bytes _ _ (rw (c.in_ok-folder.ensures told) at (c.sync_folder.ensures.asks told)))

pub returns-clause-asks : goal.returns-clause-asks
returns-clause-asks g c =
    let path = c.args.path.now in
    let bytes = c.args.bytes.now in
    λ told. added_call (MayReplace path bytes) _ _ _ c.remove.result (Remove c.as_str.result.now)
    (added_twice (MayReplace path bytes) _ _ _
    (added_weaker (MayTry path) (MayReplace path bytes) (tried_may path bytes) _ _ (c.create_beside.ensures.asks told))
    (c.put_in_place.ensures.asks told))
    (c.remove.ensures told)
    (subst (IsBeside path) (sym c.as_str.ensures.value) (name_of_new _ path _ _ _ (c.in_ok-beside.ensures.new told)))
