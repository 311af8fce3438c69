use Rattle.std.proofs.Common.{refl}
use Rattle.rje_store.proofs.Replacing.{added_call, added_none}
use Rattle.rje_store.specs.Disk.{Asked, Call, Remove}
use Rattle.rje_accounts.proofs.Seconds.{IsRemoval, removed_others}
use Rattle.rje_accounts.proofs.promising.clear_tried.Goals as goal

pub returns-in-Err-clause-asks : goal.returns-in-Err-clause-asks
returns-in-Err-clause-asks g c = λ told. added_call (IsRemoval c.args.tried.now) _ _ _ c.remove.result (Remove c.args.tried.now) (added_none (IsRemoval c.args.tried.now) _) (c.remove.ensures told) refl

pub returns-in_default-clause-asks : goal.returns-in_default-clause-asks
returns-in_default-clause-asks g c = λ told. added_call (IsRemoval c.args.tried.now) _ _ _ c.remove.result (Remove c.args.tried.now) (added_none (IsRemoval c.args.tried.now) _) (c.remove.ensures told) refl

pub returns-in_default-2-clause-asks : goal.returns-in_default-2-clause-asks
returns-in_default-2-clause-asks g c = λ told. added_call (IsRemoval c.args.tried.now) _ _ _ c.remove.result (Remove c.args.tried.now) (added_none (IsRemoval c.args.tried.now) _) (c.remove.ensures told) refl

pub returns-in-Err-clause-others : goal.returns-in-Err-clause-others
returns-in-Err-clause-others g c = λ name told apart. removed_others c.remove.result name c.args.tried.now _ _ apart (c.remove.ensures told)

pub returns-in_default-clause-others : goal.returns-in_default-clause-others
returns-in_default-clause-others g c = λ name told apart. removed_others c.remove.result name c.args.tried.now _ _ apart (c.remove.ensures told)

pub returns-in_default-2-clause-others : goal.returns-in_default-2-clause-others
returns-in_default-2-clause-others g c = λ name told apart. removed_others c.remove.result name c.args.tried.now _ _ apart (c.remove.ensures told)
