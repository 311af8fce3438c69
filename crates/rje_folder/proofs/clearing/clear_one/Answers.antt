use Rattle.std.proofs.Common.{refl, subst, sym}
use Rattle.rje_store.specs.Disk.{Remove}
use Rattle.rje_store.proofs.Replacing.{added_call, added_none}
use Rattle.rje_folder.specs.Keeping.{IsTemporary}
use Rattle.rje_folder.specs.Promising.{MayClear}
use Rattle.rje_folder.proofs.clearing.clear_one.Goals as goal

pub returns-then-ends_with : goal.returns-then-ends_with
returns-then-ends_with g c = λ told station folder is new.
    let name = c.as_str-then-ends_with.result.now in
    added_call (MayClear station) _ _ _ c.remove.result (Remove name) (added_none (MayClear station) _) (c.remove.ensures told)
    (folder, new, (name, subst (λ own. IsTemporary own name) is (subst (IsTemporary c.args.own.now) (sym c.as_str-then-ends_with.ensures.value) c.in_ok-path.ensures), refl))
