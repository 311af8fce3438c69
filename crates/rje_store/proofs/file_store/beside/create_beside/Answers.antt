use Rattle.std.proofs.Common.{inl, refl, subst, sym}
use Rattle.rje_store.specs.Disk.{Create}
use Rattle.rje_store.specs.Replacing.{IsBeside, MayTry}
use Rattle.rje_store.proofs.Replacing.{added_call}
use Rattle.rje_store.proofs.file_store.beside.create_beside.Goals as goal

pub returns-in-Ok-clause-asks : goal.returns-in-Ok-clause-asks
returns-in-Ok-clause-asks g c = λ told. added_call (MayTry c.args.path.now) _ _ _ c.create.result (Create c.args.access c.as_str.result.now) (c.loop-number.invariant told) (c.create.ensures.asks told)
    (c.as_str.result.now, subst (IsBeside c.args.path.now) (sym c.as_str.ensures.value) c.in_ok-beside.ensures, inl (c.args.access, refl))

pub returns-in-Err-2-clause-asks : goal.returns-in-Err-2-clause-asks
returns-in-Err-2-clause-asks g c = λ told. added_call (MayTry c.args.path.now) _ _ _ c.create.result (Create c.args.access c.as_str.result.now) (c.loop-number.invariant told) (c.create.ensures.asks told)
    (c.as_str.result.now, subst (IsBeside c.args.path.now) (sym c.as_str.ensures.value) c.in_ok-beside.ensures, inl (c.args.access, refl))

pub loop-number-preserved : goal.loop-number-preserved
loop-number-preserved g c = λ told. added_call (MayTry c.args.path.now) _ _ _ c.create.result (Create c.args.access c.as_str.result.now) (c.loop-number.invariant told) (c.create.ensures.asks told)
    (c.as_str.result.now, subst (IsBeside c.args.path.now) (sym c.as_str.ensures.value) c.in_ok-beside.ensures, inl (c.args.access, refl))
