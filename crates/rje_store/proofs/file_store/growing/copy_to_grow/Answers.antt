use Rattle.std.proofs.Common.{inr, refl, subst, sym}
use Rattle.std.specs.Prelude.{IfSome}
use Rattle.rje_store.specs.Disk.{Remove}
use Rattle.rje_store.specs.Replacing.{IsBeside, MayTry}
use Rattle.rje_store.specs.Growing.{IsOlder}
use Rattle.rje_store.proofs.Replacing.{added_call, added_none, added_twice}
use Rattle.rje_store.proofs.file_store.growing.copy_to_grow.Goals as goal

pub returns-else-older-room-clause-asks : goal.returns-else-older-room-clause-asks
returns-else-older-room-clause-asks g c = λ told had older.
    let path = c.args.path.now in
    let is = subst (λ o. IfSome o (λ copy. IsOlder g.D.Disk.opened path had copy (g.D.Disk.asked c.args.disk.now))) c.in-Some.is older in
    added_twice (MayTry path) _ _ _
    (added_call (MayTry path) _ _ _ c.remove.result (Remove c.as_str.result.now) (added_none (MayTry path) _) (c.remove.ensures told)
    (c.as_str.result.now, subst (IsBeside path) (sym c.as_str.ensures.value) is.beside, inr refl))
    (c.first_copy.ensures.asks told)
