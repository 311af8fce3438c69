-- A second name beside a file: what is asked, that the other names stay, and that it is the file's.
-- An invariant over the names that were tried and were taken (`keeps_twice`); the first that is free is the second name.
use Rattle.std.proofs.Common.{refl, subst, sym}
use Rattle.rje_store.specs.Disk.{Link}
use Rattle.rje_store.specs.Replacing.{Adds, IsBeside}
use Rattle.rje_store.specs.Inside.Filling.{IsSecond, KeepsNames, MayLink}
use Rattle.rje_store.proofs.Replacing.{added_call}
use Rattle.rje_store.proofs.Turning.{keeps_twice, link_keeps, linked_second}
use Rattle.rje_store.proofs.file_store.beside.link_beside.Goals as goal
use Rattle.rje_store.proofs.file_store.beside.link_beside.Goals.{then-ne+in-Err, else-ne}

pub returns-in-Ok-clause-asks : goal.returns-in-Ok-clause-asks
returns-in-Ok-clause-asks g c = λ told. added_call (MayLink c.args.path.now) _ _ _ c.link.result (Link c.args.path.now c.as_str-name.result.now) (c.loop-number.invariant.asks told) (c.link.ensures.asks told)
    (c.as_str-name.result.now, subst (IsBeside c.args.path.now) (sym c.as_str-name.ensures.value) c.in_ok-beside.ensures, refl)

pub returns-in-Ok-clause-keeps : goal.returns-in-Ok-clause-keeps
returns-in-Ok-clause-keeps g c = λ told. keeps_twice _ _ _ (c.loop-number.invariant.keeps told) (link_keeps c.link.result c.args.path.now c.as_str-name.result.now _ _ (c.link.ensures.asks told) (c.link.ensures.free told))

pub returns-in-Err-2-clause-asks : goal.returns-in-Err-2-clause-asks
returns-in-Err-2-clause-asks g c = λ told. added_call (MayLink c.args.path.now) _ _ _ c.link.result (Link c.args.path.now c.as_str-name.result.now) (c.loop-number.invariant.asks told) (c.link.ensures.asks told)
    (c.as_str-name.result.now, subst (IsBeside c.args.path.now) (sym c.as_str-name.ensures.value) c.in_ok-beside.ensures, refl)

pub returns-in-Err-2-clause-keeps : goal.returns-in-Err-2-clause-keeps
returns-in-Err-2-clause-keeps g c = λ told. keeps_twice _ _ _ (c.loop-number.invariant.keeps told) (link_keeps c.link.result c.args.path.now c.as_str-name.result.now _ _ (c.link.ensures.asks told) (c.link.ensures.free told))

pub returns-in-Ok-clause-second : goal.returns-in-Ok-clause-second
returns-in-Ok-clause-second g c = λ told. subst (λ name. IsSecond c.args.path.now name (g.D.Disk.asked c.args.disk.now) (g.D.Disk.asked c.link.new.self)) c.as_str-name.ensures.value
    (linked_second c.args.path.now c.as_str-name.result.now _ _ _ (subst (IsBeside c.args.path.now) (sym c.as_str-name.ensures.value) c.in_ok-beside.ensures) (c.loop-number.invariant.asks told) (c.in-Ok.ensures.asks told))

pub loop-number-preserved : goal.loop-number-preserved
loop-number-preserved g c = elim c.if-ne.branch [
  | then-ne+in-Err w ↦ record {
    asks = λ told. subst (λ disk. Adds (MayLink c.args.path.now) (g.D.Disk.asked c.args.disk.now) (g.D.Disk.asked disk)) (sym w.disk-is)
        (added_call (MayLink c.args.path.now) _ _ _ w.link.result (Link c.args.path.now c.as_str-name.result.now) (c.loop-number.invariant.asks told) (w.link.ensures.asks told)
        (c.as_str-name.result.now, subst (IsBeside c.args.path.now) (sym c.as_str-name.ensures.value) c.in_ok-beside.ensures, refl));
    keeps = λ told. subst (λ disk. KeepsNames (g.D.Disk.asked c.args.disk.now) (g.D.Disk.asked disk)) (sym w.disk-is)
        (keeps_twice _ _ _ (c.loop-number.invariant.keeps told) (link_keeps w.link.result c.args.path.now c.as_str-name.result.now _ _ (w.link.ensures.asks told) (w.link.ensures.free told)));
  }
  | else-ne w ↦ record {
    asks = λ told. subst (λ disk. Adds (MayLink c.args.path.now) (g.D.Disk.asked c.args.disk.now) (g.D.Disk.asked disk)) (sym w.disk-is) (c.loop-number.invariant.asks told);
    keeps = λ told. subst (λ disk. KeepsNames (g.D.Disk.asked c.args.disk.now) (g.D.Disk.asked disk)) (sym w.disk-is) (c.loop-number.invariant.keeps told);
  }
]
