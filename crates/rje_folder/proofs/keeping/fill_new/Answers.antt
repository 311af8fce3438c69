use Rattle.std.proofs.Common.{inl, inr, refl}
use Rattle.rje_store.specs.Disk.{Fill, Sync}
use Rattle.rje_store.proofs.Replacing.{added_call, added_none}
use Rattle.rje_folder.specs.Inside.Calls.{MayWrite}
use Rattle.rje_folder.proofs.keeping.fill_new.Goals as goal

pub returns-in_err-fill-clause-asks : goal.returns-in_err-fill-clause-asks
returns-in_err-fill-clause-asks g c = λ told empty.
    let file = g.D.Disk.opened c.args.file.now in
    added_call (MayWrite file) _ _ _ c.fill.result (Fill file c.args.bytes.now) (added_none (MayWrite file) _) (c.fill.ensures told) (inl (c.args.bytes.now, refl, empty))

pub returns-clause-asks : goal.returns-clause-asks
returns-clause-asks g c = λ told empty.
    let file = g.D.Disk.opened c.args.file.now in
    added_call (MayWrite file) _ _ _ c.sync.result (Sync file)
    (added_call (MayWrite file) _ _ _ c.fill.result (Fill file c.args.bytes.now) (added_none (MayWrite file) _) (c.fill.ensures told) (inl (c.args.bytes.now, refl, empty)))
    (c.sync.ensures told) (inr refl)
