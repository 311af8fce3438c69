use Rattle.std.proofs.Common.{inl, inr, refl}
use Rattle.rje_store.proofs.Replacing.{added_call, added_none, added_twice, added_weaker}
use Rattle.rje_store.specs.declared.new_access.NewAccess.{NewAccess}
use Rattle.rje_store.specs.Disk.{Create}
use Rattle.rje_accounts.specs.Noting.{MayMake}
use Rattle.rje_accounts.proofs.Asked.{ok_turn, sync_added}
use Rattle.rje_accounts.proofs.Noted.{made_noted}
use Rattle.rje_accounts.proofs.noting.note_new.Goals as goal

pub returns-in_err-create-clause-asks : goal.returns-in_err-create-clause-asks
returns-in_err-create-clause-asks g c = λ told. added_call (MayMake c.args.path.now) _ _ _ c.create.result (Create NewAccess.Private c.args.path.now) (added_none (MayMake c.args.path.now) _) (c.create.ensures.asks told) (inl refl)

pub returns-clause-asks : goal.returns-clause-asks
returns-clause-asks g c = λ told.
    let may = MayMake c.args.path.now in
    added_twice may _ _ _ (added_call may _ _ _ c.create.result (Create NewAccess.Private c.args.path.now) (added_none may _) (c.create.ensures.asks told) (inl refl))
    (sync_added may c.args.path.now _ _ (inr refl) (rw (c.in_ok-folder.ensures told) at (c.sync_names.ensures.asks told)))

pub returns-clause-noted : goal.returns-clause-noted
returns-clause-noted g c = λ told.
    ok_turn _ _ c.sync_names.result (made_noted c.args.path.now _ _ _ (c.in_ok-create.ensures.asks told) (rw (c.in_ok-folder.ensures told) at (c.sync_names.ensures.asks told)))
    (rw (c.in_ok-folder.ensures told) at (c.sync_names.ensures.synced told))
