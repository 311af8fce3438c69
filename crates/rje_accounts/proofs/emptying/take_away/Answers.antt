use Rattle.std.proofs.Common.{inl, inr, refl}
use Rattle.rje_store.proofs.Replacing.{added_call, added_none, added_twice, added_weaker}
use Rattle.rje_store.specs.Disk.{Remove}
use Rattle.rje_accounts.specs.Promising.{MayTakeAway}
use Rattle.rje_accounts.proofs.Asked.{ok_turn, sync_added}
use Rattle.rje_accounts.proofs.Seconds.{removed_gone}
use Rattle.rje_accounts.proofs.emptying.take_away.Goals as goal

pub returns-in-Err-clause-asks : goal.returns-in-Err-clause-asks
returns-in-Err-clause-asks g c = λ told. added_call (MayTakeAway c.args.path.now) _ _ _ c.remove.result (Remove c.args.path.now) (added_none (MayTakeAway c.args.path.now) _) (c.remove.ensures told) (inl refl)

pub returns-clause-asks : goal.returns-clause-asks
returns-clause-asks g c = λ told.
    let may = MayTakeAway c.args.path.now in
    added_twice may _ _ _ (added_call may _ _ _ c.remove.result (Remove c.args.path.now) (added_none may _) (c.remove.ensures told) (inl refl))
    (sync_added may c.args.path.now _ _ (inr refl) (rw (c.in_ok-folder.ensures told) at (c.sync_names.ensures.asks told)))

pub returns-clause-gone : goal.returns-clause-gone
returns-clause-gone g c = λ told.
    ok_turn _ _ c.sync_names.result (removed_gone c.remove.result c.args.path.now _ _ _ (c.remove.ensures told) (rw (c.in_ok-folder.ensures told) at (c.sync_names.ensures.asks told)))
    (rw (c.in_ok-folder.ensures told) at (c.sync_names.ensures.synced told))
