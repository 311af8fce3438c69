use Rattle.std.proofs.Common.{refl, subst, sym}
use Rattle.std.specs.Prelude.{string_bytes}
use Rattle.rje_store.specs.declared.new_access.NewAccess.{NewAccess}
use Rattle.rje_store.specs.Disk.{Create}
use Rattle.rje_store.proofs.Replacing.{added_call, added_none}
use Rattle.rje_folder.specs.Keeping.{IsTemporary}
use Rattle.rje_folder.specs.Inside.Calls.{MayCreate}
use Rattle.rje_folder.proofs.Tried.{none_failed, none_made, one_made}
use Rattle.rje_folder.proofs.keeping.create_new.Goals as goal

pub returns-in-Ok-clause-asks : goal.returns-in-Ok-clause-asks
returns-in-Ok-clause-asks g c = λ told. added_call (MayCreate c.args.folder.now) _ _ _ c.create.result (Create NewAccess.Private c.as_str.result.now) (c.loop-number.invariant.asks told) (c.create.ensures.asks told)
    (c.as_str.result.now, subst (IsTemporary c.args.folder.now) (sym c.as_str.ensures.value) c.in_ok-path.ensures, refl)

pub returns-in-Err-2-clause-asks : goal.returns-in-Err-2-clause-asks
returns-in-Err-2-clause-asks g c = λ told. added_call (MayCreate c.args.folder.now) _ _ _ c.create.result (Create NewAccess.Private c.as_str.result.now) (c.loop-number.invariant.asks told) (c.create.ensures.asks told)
    (c.as_str.result.now, subst (IsTemporary c.args.folder.now) (sym c.as_str.ensures.value) c.in_ok-path.ensures, refl)

pub loop-number-preserved : goal.loop-number-preserved
loop-number-preserved g c = record {
  asks = λ told. added_call (MayCreate c.args.folder.now) _ _ _ c.create.result (Create NewAccess.Private c.as_str.result.now) (c.loop-number.invariant.asks told) (c.create.ensures.asks told)
      (c.as_str.result.now, subst (IsTemporary c.args.folder.now) (sym c.as_str.ensures.value) c.in_ok-path.ensures, refl);
  none = λ told. none_failed c.create.result c.in-Err.error c.as_str.result.now _ _ _ c.in-Err.is (c.create.ensures.asks told) (c.loop-number.invariant.none told);
}

pub loop-number-init : goal.loop-number-init
loop-number-init g c = record { asks = λ told. added_none (MayCreate c.args.folder.now) _; none = λ told. none_made (g.D.Disk.asked c.args.disk.now) }

pub returns-in-Err-2-clause-none : goal.returns-in-Err-2-clause-none
returns-in-Err-2-clause-none g c = λ told. none_failed c.create.result c.in-Err-2.error c.as_str.result.now _ _ _ c.in-Err-2.is (c.create.ensures.asks told) (c.loop-number.invariant.none told)

pub returns-in-Ok-clause-others : goal.returns-in-Ok-clause-others
returns-in-Ok-clause-others g c = λ told. one_made (string_bytes c.in_ok-path.path) _ _ _ (rw c.as_str.ensures.value at (c.in-Ok.ensures.asks told)) (c.loop-number.invariant.none told)
