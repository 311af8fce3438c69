use Rattle.std.proofs.Common.{inr}
use Rattle.std.specs.Prelude.{string_bytes}
use Rattle.rje_folder.specs.declared.folder.Folder.{Folder}
use Rattle.rje_folder.specs.FileNames.{IsNamedAfter}
use Rattle.rje_folder.specs.Folder.{path_in}
use Rattle.rje_folder.proofs.tidying.kept_name.Goals as goal

pub returns-in-Some-3 : goal.returns-in-Some-3
returns-in-Some-3 g c =
    let named : IsNamedAfter (path_in c.args.station.now Folder.Refused c.args.name.now) (string_bytes c.in-Some-3.path) = rw c.in-Some-3.is at c.in_ok-path-3.ensures in inr (inr named)
