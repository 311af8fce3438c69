use Rattle.std.proofs.Common.{subst, sym}
use Rattle.rje_store.specs.Replacing.{LeadsTo}
use Rattle.rje_store.proofs.Turning.{opened_may}
use Rattle.rje_store.proofs.file_store.growing.Growing.open.Goals as goal

pub returns-in_err-newest-clause-asks : goal.returns-in_err-newest-clause-asks
returns-in_err-newest-clause-asks g c = λ told. opened_may c.open_to_copy.result g.D.Disk.leads c.args.name.now c.as_str-text.result.now _ _ (c.open_to_copy.ensures.asks told)
    (subst (LeadsTo g.D.Disk.leads c.args.name.now) (sym c.as_str-text.ensures.value) c.in_ok-path.ensures)

pub returns-in_err-found-clause-asks : goal.returns-in_err-found-clause-asks
returns-in_err-found-clause-asks g c = λ told. opened_may c.open_to_copy.result g.D.Disk.leads c.args.name.now c.as_str-text.result.now _ _ (c.open_to_copy.ensures.asks told)
    (subst (LeadsTo g.D.Disk.leads c.args.name.now) (sym c.as_str-text.ensures.value) c.in_ok-path.ensures)

pub returns-then-ne-clause-asks : goal.returns-then-ne-clause-asks
returns-then-ne-clause-asks g c = λ told. opened_may c.open_to_copy.result g.D.Disk.leads c.args.name.now c.as_str-text.result.now _ _ (c.open_to_copy.ensures.asks told)
    (subst (LeadsTo g.D.Disk.leads c.args.name.now) (sym c.as_str-text.ensures.value) c.in_ok-path.ensures)

pub returns-in_err-from_str-clause-asks : goal.returns-in_err-from_str-clause-asks
returns-in_err-from_str-clause-asks g c = λ told. opened_may c.open_to_copy.result g.D.Disk.leads c.args.name.now c.as_str-text.result.now _ _ (c.open_to_copy.ensures.asks told)
    (subst (LeadsTo g.D.Disk.leads c.args.name.now) (sym c.as_str-text.ensures.value) c.in_ok-path.ensures)

pub returns-clause-asks : goal.returns-clause-asks
returns-clause-asks g c = λ told. opened_may c.open_to_copy.result g.D.Disk.leads c.args.name.now c.as_str-text.result.now _ _ (c.open_to_copy.ensures.asks told)
    (subst (LeadsTo g.D.Disk.leads c.args.name.now) (sym c.as_str-text.ensures.value) c.in_ok-path.ensures)
