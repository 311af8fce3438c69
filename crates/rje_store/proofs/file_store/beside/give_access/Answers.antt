use Rattle.std.proofs.Common.{inl, inr, refl}
use Rattle.rje_store.specs.Disk.{SetMode, SetOwner}
use Rattle.rje_store.specs.Replacing.{Adds}
use Rattle.rje_store.specs.Inside.Filling.{MayGive}
use Rattle.rje_store.proofs.Replacing.{added_call, added_none, private_later}
use Rattle.rje_store.proofs.file_store.beside.give_access.Goals as goal

pub returns-in_err-set_owner-clause-asks : goal.returns-in_err-set_owner-clause-asks
returns-in_err-set_owner-clause-asks g c =
    let file = g.D.Disk.opened c.args.file.now in
    λ told private. added_call (MayGive file) _ _ _ c.set_owner.result (SetOwner file) (added_none (MayGive file) _) (c.set_owner.ensures told) (private, inl refl)

pub returns-clause-asks : goal.returns-clause-asks
returns-clause-asks g c =
    let file = g.D.Disk.opened c.args.file.now in
    λ told private.
    let owned : Adds (MayGive file) (g.D.Disk.asked c.args.disk.now) (g.D.Disk.asked c.set_owner.new.self) = added_call (MayGive file) _ _ _ c.set_owner.result (SetOwner file) (added_none (MayGive file) _) (c.set_owner.ensures told) (private, inl refl) in
    added_call (MayGive file) _ _ _ c.set_mode.result (SetMode file) owned (c.set_mode.ensures told)
    (private_later file (MayGive file) _ _ owned private, inr (refl, (g.D.Disk.asked c.args.disk.now, c.in_ok-set_owner.ensures told)))
