use Rattle.std.proofs.Common.{inl, inr, refl}
use Rattle.rje_store.proofs.Replacing.{added_call, added_none, added_twice, added_weaker}
use Rattle.rje_accounts.specs.Noting.{MayMakeAgain}
use Rattle.rje_accounts.proofs.Asked.{ok_turn, sync_added}
use Rattle.rje_accounts.proofs.Noted.{opened_again, opened_noted}
use Rattle.rje_accounts.proofs.noting.note_again.Goals as goal

pub returns-in_err-open_to_write-clause-asks : goal.returns-in_err-open_to_write-clause-asks
returns-in_err-open_to_write-clause-asks g c = λ told. opened_again c.open_to_write.result c.args.path.now _ _ (c.open_to_write.ensures.asks told)

pub returns-clause-asks : goal.returns-clause-asks
returns-clause-asks g c = λ told.
    let may = MayMakeAgain c.args.path.now in
    added_twice may _ _ _ (opened_again c.open_to_write.result c.args.path.now _ _ (c.open_to_write.ensures.asks told))
    (sync_added may c.args.path.now _ _ (inl (inr refl)) (rw (c.in_ok-folder.ensures told) at (c.sync_names.ensures.asks told)))

pub returns-clause-noted : goal.returns-clause-noted
returns-clause-noted g c = λ told.
    let e = c.in_ok-open_to_write.ensures.asks told in
    ok_turn _ _ c.sync_names.result (opened_noted c.args.path.now e.0 _ _ _ e.1 (rw (c.in_ok-folder.ensures told) at (c.sync_names.ensures.asks told)))
    (rw (c.in_ok-folder.ensures told) at (c.sync_names.ensures.synced told))
