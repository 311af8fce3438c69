use Rattle.std.proofs.Common.{inl, subst}
use Rattle.std.specs.Prelude.{IfSome}
use Rattle.rje_store.specs.Replacing.{IsPrivate}
use Rattle.rje_store.specs.Inside.Filling.{MayFill, MayGive}
use Rattle.rje_store.proofs.Replacing.{added_twice, added_weaker}
use Rattle.rje_store.proofs.file_store.beside.fill.Goals as goal

pub returns-in_err-give_access-in-Some-clause-asks : goal.returns-in_err-give_access-in-Some-clause-asks
returns-in_err-give_access-in-Some-clause-asks g c =
    let file = g.D.Disk.opened c.args.file.now in
    λ told private. added_weaker (MayGive file) (MayFill file) (λ call before may. inl may) _ _ (c.give_access.ensures.asks told (subst (λ access. IfSome access (λ _. IsPrivate file (g.D.Disk.asked c.args.disk.now))) c.in-Some.is private))

pub returns-in_ok-give_access-in-Some-clause-asks : goal.returns-in_ok-give_access-in-Some-clause-asks
returns-in_ok-give_access-in-Some-clause-asks g c =
    let file = g.D.Disk.opened c.args.file.now in
    λ told private. added_twice (MayFill file) _ _ _
    (added_weaker (MayGive file) (MayFill file) (λ call before may. inl may) _ _ (c.give_access.ensures.asks told (subst (λ access. IfSome access (λ _. IsPrivate file (g.D.Disk.asked c.args.disk.now))) c.in-Some.is private)))
    (c.fill_on_disk.ensures.asks told)
