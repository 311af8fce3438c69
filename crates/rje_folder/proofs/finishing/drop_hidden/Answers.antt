use Rattle.std.proofs.Common.{◌⊎◌, ◌∙◌, refl}
use Rattle.std.specs.Prelude.{string_bytes}
use Rattle.rje_folder.specs.declared.folder.Folder.{Folder}
use Rattle.rje_folder.specs.FileNames.{IsNamedAfter}
use Rattle.rje_folder.specs.Folder.{path_in}
use Rattle.rje_folder.specs.Promising.{IsKeptElsewhere}
use Rattle.rje_folder.specs.TakenName.{IsTakenPath}
use Rattle.rje_folder.proofs.TakenOver.{drop_finishes}
use Rattle.rje_folder.proofs.finishing.drop_hidden.Goals as goal

pub returns-in-Ok-false : goal.returns-in-Ok-false
returns-in-Ok-false g c = λ told.
    let kept = string_bytes c.in-Some.kept in
    let path = path_in c.args.station.now Folder.Out c.args.hidden.now in
    let taken : IsTakenPath c.args.station.now c.args.name.now path = (c.args.hidden.now, c.requires.named, refl) in
    let named : IsKeptElsewhere c.args.station.now c.args.name.now kept ⊎ IsNamedAfter (path_in c.args.station.now Folder.Out c.args.name.now) kept = rw c.in-Some.is at c.in_ok-kept.ensures in
    drop_finishes g.D.Disk.opened g.D.File.Read.remaining g.D.FolderDisk.is_open g.D.FolderDisk.is_file g.D.FolderDisk.are_one c.args.station.now c.args.name.now path kept _ _ taken named
    (rw (c.as_str-in-Some.ensures.value, c.as_str-in-Some-2.ensures.value ∙ c.in_ok-path.ensures) at (c.drop_name.ensures.asks told))

pub returns-in-Some : goal.returns-in-Some
returns-in-Some g c = λ told.
    let kept = string_bytes c.in-Some.kept in
    let path = path_in c.args.station.now Folder.Out c.args.hidden.now in
    let taken : IsTakenPath c.args.station.now c.args.name.now path = (c.args.hidden.now, c.requires.named, refl) in
    let named : IsKeptElsewhere c.args.station.now c.args.name.now kept ⊎ IsNamedAfter (path_in c.args.station.now Folder.Out c.args.name.now) kept = rw c.in-Some.is at c.in_ok-kept.ensures in
    drop_finishes g.D.Disk.opened g.D.File.Read.remaining g.D.FolderDisk.is_open g.D.FolderDisk.is_file g.D.FolderDisk.are_one c.args.station.now c.args.name.now path kept _ _ taken named
    (rw (c.as_str-in-Some.ensures.value, c.as_str-in-Some-2.ensures.value ∙ c.in_ok-path.ensures) at (c.drop_name.ensures.asks told))
