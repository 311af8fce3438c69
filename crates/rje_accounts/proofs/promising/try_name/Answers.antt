use Rattle.std.proofs.Common.{inl, inr, refl}
use Rattle.rje_store.proofs.Replacing.{added_call, added_none}
use Rattle.rje_store.specs.Disk.{Link, Remove}
use Rattle.rje_accounts.specs.Promising.{MayTry}
use Rattle.rje_accounts.proofs.promising.try_name.Goals as goal

pub returns-in_err-link-clause-asks : goal.returns-in_err-link-clause-asks
returns-in_err-link-clause-asks g c = λ told.
    let may = MayTry c.args.name.now c.args.tried.now in
    added_call may _ _ _ c.link.result (Link c.args.name.now c.args.tried.now) (added_none may _) (c.link.ensures.asks told) (inl refl)

pub returns-in-Ok-true-clause-asks : goal.returns-in-Ok-true-clause-asks
returns-in-Ok-true-clause-asks g c = λ told.
    let may = MayTry c.args.name.now c.args.tried.now in
    added_call may _ _ _ c.link.result (Link c.args.name.now c.args.tried.now) (added_none may _) (c.link.ensures.asks told) (inl refl)

pub returns-clause-asks : goal.returns-clause-asks
returns-clause-asks g c = λ told.
    let may = MayTry c.args.name.now c.args.tried.now in
    added_call may _ _ _ c.remove.result (Remove c.args.tried.now)
    (added_call may _ _ _ c.link.result (Link c.args.name.now c.args.tried.now) (added_none may _) (c.link.ensures.asks told) (inl refl))
    (c.remove.ensures told) (inr refl)
