-- A rename to a path that no file has asks for nothing else, and after `Ok` the file has that path alone, on disk.
-- Each way out adds its calls to those before (`added_call`); `renamed_is` follows what stands under both names through them.
use Rattle.std.proofs.Common.{inl, inr, refl}
use Rattle.rje_store.proofs.Replacing.{added_call, added_none, added_twice}
use Rattle.rje_store.specs.Disk.{Rename}
use Rattle.rje_accounts.specs.BringingIn.{MayRename}
use Rattle.rje_accounts.proofs.Asked.{ok_turn, sync_added}
use Rattle.rje_accounts.proofs.Brought.{renamed_is}
use Rattle.rje_accounts.proofs.bringing_in.move_free.Goals as goal

pub returns-in_err-rename-clause-asks : goal.returns-in_err-rename-clause-asks
returns-in_err-rename-clause-asks g c = λ told.
    let from = c.args.from.now in
    let to = c.args.to.now in
    let may = MayRename from to in
    let renamed = added_call may _ _ _ c.rename.result (Rename from to) (added_none may _) (c.rename.ensures told) (inl refl) in
    renamed

pub returns-in_err-sync_names-clause-asks : goal.returns-in_err-sync_names-clause-asks
returns-in_err-sync_names-clause-asks g c = λ told.
    let from = c.args.from.now in
    let to = c.args.to.now in
    let may = MayRename from to in
    let renamed = added_call may _ _ _ c.rename.result (Rename from to) (added_none may _) (c.rename.ensures told) (inl refl) in
    let first = added_twice may _ _ _ renamed (sync_added may to _ _ (inr (inl refl)) (rw (c.in_ok-to_folder.ensures told) at (c.sync_names.ensures.asks told))) in
    first

pub returns-clause-asks : goal.returns-clause-asks
returns-clause-asks g c = λ told.
    let from = c.args.from.now in
    let to = c.args.to.now in
    let may = MayRename from to in
    let renamed = added_call may _ _ _ c.rename.result (Rename from to) (added_none may _) (c.rename.ensures told) (inl refl) in
    let first = added_twice may _ _ _ renamed (sync_added may to _ _ (inr (inl refl)) (rw (c.in_ok-to_folder.ensures told) at (c.sync_names.ensures.asks told))) in
    let synced = rw (c.in_ok-to_folder.ensures told) at (c.in_ok-sync_names.ensures.synced told) in
    added_twice may _ _ _ first (sync_added may from _ _ (inr (inr (refl, synced))) (rw (c.in_ok-from_folder.ensures told) at (c.sync_names-2.ensures.asks told)))

pub returns-clause-moved : goal.returns-clause-moved
returns-clause-moved g c = λ told.
    ok_turn _ _ c.sync_names-2.result (renamed_is c.args.from.now c.args.to.now _ _ _ _ c.requires (c.in_ok-rename.ensures told) (rw (c.in_ok-to_folder.ensures told) at (c.sync_names.ensures.asks told))
    (rw (c.in_ok-to_folder.ensures told) at (c.in_ok-sync_names.ensures.synced told)) (rw (c.in_ok-from_folder.ensures told) at (c.sync_names-2.ensures.asks told)))
    (rw (c.in_ok-from_folder.ensures told) at (c.sync_names-2.ensures.synced told))
