use Rattle.std.proofs.Common.{inl, inr, refl}
use Rattle.rje_store.specs.Disk.{Fill, Sync}
use Rattle.rje_store.specs.Inside.Filling.{MayFill}
use Rattle.rje_store.proofs.Replacing.{added_none, added_call}
use Rattle.rje_store.proofs.file_store.beside.fill_on_disk.Goals as goal

pub returns-in_err-fill-clause-asks : goal.returns-in_err-fill-clause-asks
returns-in_err-fill-clause-asks g c =
    let file = g.D.Disk.opened c.args.file.now in
    λ told. added_call (MayFill file) _ _ _ c.fill.result (Fill file c.args.bytes.now) (added_none (MayFill file) _) (c.fill.ensures told) (inr (inl (c.args.bytes.now, refl)))

pub returns-clause-asks : goal.returns-clause-asks
returns-clause-asks g c =
    let file = g.D.Disk.opened c.args.file.now in
    λ told. added_call (MayFill file) _ _ _ c.sync.result (Sync file)
    (added_call (MayFill file) _ _ _ c.fill.result (Fill file c.args.bytes.now) (added_none (MayFill file) _) (c.fill.ensures told) (inr (inl (c.args.bytes.now, refl))))
    (c.sync.ensures told) (inr (inr (inl refl)))
