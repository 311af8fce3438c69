use Rattle.std.proofs.Common.{inr, refl, subst, sym}
use Rattle.rje_store.specs.Disk.{Remove}
use Rattle.rje_store.specs.declared.new_access.NewAccess.{NewAccess}
use Rattle.rje_store.specs.Replacing.{IsBeside, MayTry}
use Rattle.rje_store.proofs.Replacing.{added_call, name_of_new, tried_done}
use Rattle.rje_store.proofs.file_store.beside.try_beside.Goals as goal

pub returns-clause-asks : goal.returns-clause-asks
returns-clause-asks g c = λ told. added_call (MayTry c.args.path.now) _ _ _ c.remove.result (Remove c.as_str.result.now) (c.create_beside.ensures.asks told) (c.remove.ensures told)
    (c.as_str.result.now, subst (IsBeside c.args.path.now) (sym c.as_str.ensures.value) (name_of_new NewAccess.Usual c.args.path.now _ _ _ (c.in_ok-beside.ensures.new told)), inr refl)

pub returns-clause-tried : goal.returns-clause-tried
returns-clause-tried g c = λ told. tried_done c.remove.result c.args.path.now _ c.as_str.result.now _ _ (rw (sym c.as_str.ensures.value) at (c.in_ok-beside.ensures.new told)) (c.remove.ensures told)
