use Rattle.std.proofs.Common.{inl, inr, refl, subst, sym}
use Rattle.rje_store.specs.Disk.{WriteDevice}
use Rattle.rje_store.specs.Replacing.{LeadsTo, MayReplace}
use Rattle.rje_store.specs.FileStore.{MayPut}
use Rattle.rje_store.proofs.Replacing.{added_call, added_none, added_weaker}
use Rattle.rje_store.proofs.file_store.FileStore.put.Goals as goal

pub returns-in_err-write_device-in-Device-clause-asks : goal.returns-in_err-write_device-in-Device-clause-asks
returns-in_err-write_device-in-Device-clause-asks g c =
    let led : LeadsTo g.D.Disk.leads c.args.name.now c.as_str-path.result.now = subst (LeadsTo g.D.Disk.leads c.args.name.now) (sym c.as_str-path.ensures.value) c.in_ok-path.ensures in
    rw (← c.closed.ensures.disk) (λ told. added_call (MayPut g.D.Disk.leads c.args.name.now c.args.bytes.now) _ _ _ c.write_device.result (WriteDevice c.as_str-path.result.now c.args.bytes.now)
    (added_none (MayPut g.D.Disk.leads c.args.name.now c.args.bytes.now) _) (c.write_device.ensures told) (c.as_str-path.result.now, led, inr refl))

pub returns-in-Device-clause-asks : goal.returns-in-Device-clause-asks
returns-in-Device-clause-asks g c =
    let led : LeadsTo g.D.Disk.leads c.args.name.now c.as_str-path.result.now = subst (LeadsTo g.D.Disk.leads c.args.name.now) (sym c.as_str-path.ensures.value) c.in_ok-path.ensures in
    rw (← c.closed.ensures.disk) (λ told. added_call (MayPut g.D.Disk.leads c.args.name.now c.args.bytes.now) _ _ _ c.write_device.result (WriteDevice c.as_str-path.result.now c.args.bytes.now)
    (added_none (MayPut g.D.Disk.leads c.args.name.now c.args.bytes.now) _) (c.write_device.ensures told) (c.as_str-path.result.now, led, inr refl))

pub returns-in_err-file-clause-asks : goal.returns-in_err-file-clause-asks
returns-in_err-file-clause-asks g c =
    let led : LeadsTo g.D.Disk.leads c.args.name.now c.as_str-path.result.now = subst (LeadsTo g.D.Disk.leads c.args.name.now) (sym c.as_str-path.ensures.value) c.in_ok-path.ensures in
    rw (← c.closed-2.ensures.disk) (λ told. added_weaker (MayReplace c.as_str-path.result.now c.args.bytes.now) (MayPut g.D.Disk.leads c.args.name.now c.args.bytes.now) (λ call before may. (c.as_str-path.result.now, led, inl may)) _ _ (c.replace.ensures.asks told))

pub returns-clause-asks : goal.returns-clause-asks
returns-clause-asks g c =
    let led : LeadsTo g.D.Disk.leads c.args.name.now c.as_str-path.result.now = subst (LeadsTo g.D.Disk.leads c.args.name.now) (sym c.as_str-path.ensures.value) c.in_ok-path.ensures in
    rw (← c.closed-2.ensures.disk) (λ told. added_weaker (MayReplace c.as_str-path.result.now c.args.bytes.now) (MayPut g.D.Disk.leads c.args.name.now c.args.bytes.now) (λ call before may. (c.as_str-path.result.now, led, inl may)) _ _ (c.replace.ensures.asks told))
