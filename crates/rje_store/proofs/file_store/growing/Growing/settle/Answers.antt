use Rattle.std.proofs.Common.{◌≡◌, Some, refl, sym, ap, ◌∙◌, List, ℕ}
use Rattle.rje_store.specs.Disk.{Remove}
use Rattle.rje_store.specs.FileStore.{MaySettle, older_name}
use Rattle.rje_store.proofs.Replacing.{added_call, added_none}
use Rattle.rje_store.proofs.file_store.growing.Growing.settle.Goals as goal

pub returns-in-Some : goal.returns-in-Some
returns-in-Some g c =
    let may = MaySettle (older_name c.args.self.older) in
    let named : older_name c.args.self.older ≡ Some c.as_str.result.now = ap older_name c.in-Some.is ∙ ap (λ (name : List ℕ). Some name) (sym c.as_str.ensures.value) in
    λ told. added_call may _ _ _ c.remove.result (Remove c.as_str.result.now) (added_none may _) (c.remove.ensures told) (c.as_str.result.now, named, refl)
