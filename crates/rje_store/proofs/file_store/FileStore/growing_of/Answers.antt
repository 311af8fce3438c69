use Rattle.std.proofs.Common.{inr, sym, ◌∙◌, ap, subst}
use Rattle.rje_store.specs.Replacing.{Adds, Either}
use Rattle.rje_store.specs.FileStore.{MaySettle, copy_of}
use Rattle.rje_store.specs.Growing.{MayOpen}
use Rattle.rje_store.proofs.Replacing.{added_either, added_weaker}
use Rattle.rje_store.proofs.file_store.FileStore.growing_of.Goals as goal

pub returns-in-Some-2-clause-asks : goal.returns-in-Some-2-clause-asks
returns-in-Some-2-clause-asks g c = rw (← c.closed-disk.ensures.disk) (λ told.
    let copy = copy_of c.args.self.now.growing in
    added_either (MaySettle copy) (MayOpen g.D.Disk.leads c.args.name.now) _ _ _
    (subst (λ name. Adds (MaySettle name) (g.D.Disk.asked c.closed-disk.result.now) (g.D.Disk.asked c.settle.new.disk)) (sym (ap copy_of (sym c.take.ensures.value ∙ c.in-Some.is))) (c.settle.ensures told))
    (c.open.ensures.asks told))

pub returns-in-None-clause-asks : goal.returns-in-None-clause-asks
returns-in-None-clause-asks g c = rw (← c.closed.ensures.disk) (λ told.
    let copy = copy_of c.args.self.now.growing in
    added_weaker (MayOpen g.D.Disk.leads c.args.name.now) (Either (MaySettle copy) (MayOpen g.D.Disk.leads c.args.name.now)) (λ call before may. inr may) _ _ (c.open-in-None.ensures.asks told))
