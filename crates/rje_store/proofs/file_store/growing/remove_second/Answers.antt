use Rattle.std.proofs.Common.{inr, refl, subst, sym}
use Rattle.std.specs.Prelude.{IfSome, string_bytes}
use Rattle.rje_store.specs.Disk.{Remove}
use Rattle.rje_store.specs.Replacing.{IsBeside, MayTry}
use Rattle.rje_store.proofs.Replacing.{added_call, added_none}
use Rattle.rje_store.proofs.file_store.growing.remove_second.Goals as goal

pub returns-in-Some : goal.returns-in-Some
returns-in-Some g c = λ told path second.
    let beside = subst (λ o. IfSome o (λ name. IsBeside path (string_bytes name))) c.in-Some.is second in
    added_call (MayTry path) _ _ _ c.remove.result (Remove c.as_str.result.now) (added_none (MayTry path) _) (c.remove.ensures told)
    (c.as_str.result.now, subst (IsBeside path) (sym c.as_str.ensures.value) beside, inr refl)
