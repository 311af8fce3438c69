use Rattle.std.proofs.Common.{◌≡◌, true, inr, rules, ◌∙◌}
use Rattle.std.specs.Prelude.{string_bytes}
use Rattle.rje_store.proofs.Replacing.{added_weaker}
use Rattle.rje_folder.specs.declared.folder.Folder.{Folder}
use Rattle.rje_folder.specs.FileNames.{IsNamedAfter}
use Rattle.rje_folder.specs.Folder.{path_in}
use Rattle.rje_folder.specs.Moving.{MayDrop}
use Rattle.rje_folder.specs.Promising.{MayTidy}
use Rattle.rje_folder.proofs.tidying.tidy_counted.Goals as goal

pub returns-in_err-drop_name-in-Some : goal.returns-in_err-drop_name-in-Some
returns-in_err-drop_name-in-Some g c = λ told.
    let kept = string_bytes c.in-Some.kept in
    let named : IsNamedAfter (path_in c.args.station.now Folder.Sent c.args.base.now) kept = rw c.in-Some.is at c.in_ok-kept.ensures in
    let is : c.in_ok-named.named ≡ true = search rules in
    let doubt : IsNamedAfter (path_in c.args.station.now Folder.Doubt c.args.base.now) c.args.doubt.now = rw (c.as_str.ensures.value ∙ c.in_ok-first.ensures) at (c.in_ok-named.ensures is) in
    added_weaker (MayDrop g.D.FolderDisk.are_one kept c.args.doubt.now) (MayTidy g.D.FolderDisk.are_one c.args.station.now)
    (λ call before may. inr (c.args.base.now, kept, c.args.doubt.now, named, doubt, may)) _ _
    (rw c.as_str-in-Some.ensures.value at (c.drop_name.ensures.asks told))

pub returns-in-Some : goal.returns-in-Some
returns-in-Some g c = λ told.
    let kept = string_bytes c.in-Some.kept in
    let named : IsNamedAfter (path_in c.args.station.now Folder.Sent c.args.base.now) kept = rw c.in-Some.is at c.in_ok-kept.ensures in
    let is : c.in_ok-named.named ≡ true = search rules in
    let doubt : IsNamedAfter (path_in c.args.station.now Folder.Doubt c.args.base.now) c.args.doubt.now = rw (c.as_str.ensures.value ∙ c.in_ok-first.ensures) at (c.in_ok-named.ensures is) in
    added_weaker (MayDrop g.D.FolderDisk.are_one kept c.args.doubt.now) (MayTidy g.D.FolderDisk.are_one c.args.station.now)
    (λ call before may. inr (c.args.base.now, kept, c.args.doubt.now, named, doubt, may)) _ _
    (rw c.as_str-in-Some.ensures.value at (c.drop_name.ensures.asks told))
