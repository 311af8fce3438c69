use Rattle.std.proofs.Common.{subst, sym}
use Rattle.rje_store.specs.Replacing.{LeadsTo, MayTry}
use Rattle.rje_store.specs.FileStore.{MayLook}
use Rattle.rje_store.proofs.Replacing.{added_weaker}
use Rattle.rje_store.proofs.file_store.FileStore.place.Goals as goal

pub returns-in_err-try_beside-in-New-clause-asks : goal.returns-in_err-try_beside-in-New-clause-asks
returns-in_err-try_beside-in-New-clause-asks g c =
    let led : LeadsTo g.D.Disk.leads c.args.name.now c.as_str-path.result.now = subst (LeadsTo g.D.Disk.leads c.args.name.now) (sym c.as_str-path.ensures.value) c.in_ok-path.ensures in
    rw (← c.closed.ensures.disk) (λ told. added_weaker (MayTry c.as_str-path.result.now) (MayLook g.D.Disk.leads c.args.name.now) (λ call before may. (c.as_str-path.result.now, led, may)) _ _ (c.try_beside.ensures.asks told))

pub returns-clause-asks : goal.returns-clause-asks
returns-clause-asks g c =
    let led : LeadsTo g.D.Disk.leads c.args.name.now c.as_str-path.result.now = subst (LeadsTo g.D.Disk.leads c.args.name.now) (sym c.as_str-path.ensures.value) c.in_ok-path.ensures in
    rw (← c.closed.ensures.disk) (λ told. added_weaker (MayTry c.as_str-path.result.now) (MayLook g.D.Disk.leads c.args.name.now) (λ call before may. (c.as_str-path.result.now, led, may)) _ _ (c.try_beside.ensures.asks told))
