use Rattle.std.proofs.Common.{◌⊎◌, inl, inr}
use Rattle.std.specs.Prelude.{String, string_bytes}
use Rattle.std.specs.declared.alloc.Global.{Global}
use Rattle.rje_folder.specs.declared.folder.Folder.{Folder}
use Rattle.rje_folder.specs.FileNames.{IsNamedAfter}
use Rattle.rje_folder.specs.Folder.{path_in}
use Rattle.rje_folder.specs.Promising.{IsKeptElsewhere}
use Rattle.rje_folder.proofs.TakenOver.{some_weaker}
use Rattle.rje_folder.proofs.finishing.other_name.Goals as goal

pub returns-in-Some : goal.returns-in-Some
returns-in-Some g c = inr (rw c.in-Some.is at c.in_ok-path.ensures)

pub returns-in-Some-kept : goal.returns-in-Some-kept
returns-in-Some-kept g c =
    let station = c.args.station.now in
    let name = c.args.name.now in
    let named = path_in station Folder.Out name in
    some_weaker (λ (path : String Global). IsKeptElsewhere station name (string_bytes path)) (λ (path : String Global). IsKeptElsewhere station name (string_bytes path) ⊎ IsNamedAfter named (string_bytes path))
    c.kept_name.result (λ path kept. inl kept) c.kept_name.ensures
