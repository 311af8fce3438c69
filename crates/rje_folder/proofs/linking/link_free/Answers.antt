use Rattle.std.proofs.Common.{refl, subst, sym}
use Rattle.rje_store.specs.Disk.{Link}
use Rattle.rje_store.proofs.Replacing.{added_call}
use Rattle.rje_folder.specs.FileNames.{IsNameOf}
use Rattle.rje_folder.specs.Moving.{MayLink}
use Rattle.rje_folder.proofs.Linked.{keeps_failed, keeps_twice}
use Rattle.rje_folder.proofs.linking.link_free.Goals as goal

pub returns-in-Ok-clause-asks : goal.returns-in-Ok-clause-asks
returns-in-Ok-clause-asks g c = λ told. added_call (MayLink c.args.from.now (IsNameOf c.args.names)) _ _ _ c.link.result (Link c.args.from.now c.as_str-in-loop-number.result.now) (c.loop-number.invariant.asks told) (c.link.ensures.asks told)
    (c.as_str-in-loop-number.result.now, subst (IsNameOf c.args.names) (sym c.as_str-in-loop-number.ensures.value) c.in_ok-path.ensures.named, refl)

pub returns-in-Err-2-clause-asks : goal.returns-in-Err-2-clause-asks
returns-in-Err-2-clause-asks g c = λ told. added_call (MayLink c.args.from.now (IsNameOf c.args.names)) _ _ _ c.link.result (Link c.args.from.now c.as_str-in-loop-number.result.now) (c.loop-number.invariant.asks told) (c.link.ensures.asks told)
    (c.as_str-in-loop-number.result.now, subst (IsNameOf c.args.names) (sym c.as_str-in-loop-number.ensures.value) c.in_ok-path.ensures.named, refl)

pub loop-number-preserved : goal.loop-number-preserved
loop-number-preserved g c = record {
  asks = λ told. added_call (MayLink c.args.from.now (IsNameOf c.args.names)) _ _ _ c.link.result (Link c.args.from.now c.as_str-in-loop-number.result.now) (c.loop-number.invariant.asks told) (c.link.ensures.asks told)
      (c.as_str-in-loop-number.result.now, subst (IsNameOf c.args.names) (sym c.as_str-in-loop-number.ensures.value) c.in_ok-path.ensures.named, refl);
  keeps = λ told. keeps_twice _ _ _ (c.loop-number.invariant.keeps told) (keeps_failed c.link.result c.in-Err.error c.args.from.now c.as_str-in-loop-number.result.now _ _ c.in-Err.is (c.link.ensures.asks told));
}
