use Rattle.std.proofs.Common.{ℕ, List, ◌∙◌, ap, refl}
use Rattle.std.specs.Prelude.{string_bytes}
use Rattle.rje_store.specs.Disk.{Rename}
use Rattle.rje_store.proofs.Replacing.{added_call, added_none}
use Rattle.rje_folder.specs.declared.folder.Folder.{Folder}
use Rattle.rje_folder.specs.Folder.{path_in}
use Rattle.rje_folder.specs.Inside.Calls.{MayHide}
use Rattle.rje_folder.proofs.taking_over.hide.Goals as goal

pub returns-in_err-rename-clause-asks : goal.returns-in_err-rename-clause-asks
returns-in_err-rename-clause-asks g c = λ told.
    let may = MayHide c.args.station.now c.args.name.now in
    let ready = path_in c.args.station.now Folder.Out c.args.name.now in
    let path = path_in c.args.station.now Folder.Out (string_bytes c.in_ok-hidden.hidden) in
    let is = c.in_ok-path.ensures ∙ ap (λ (l : List ℕ). path_in c.args.station.now Folder.Out l) c.as_str.ensures.value in
    added_call may _ _ _ c.rename.result (Rename ready path) (added_none may _) (rw (c.as_str-2.ensures.value ∙ c.in_ok-ready.ensures, c.as_str-3.ensures.value ∙ is) at (c.rename.ensures told))
    (path, (string_bytes c.in_ok-hidden.hidden, c.in_ok-hidden.ensures, refl), refl)

pub returns-clause-asks : goal.returns-clause-asks
returns-clause-asks g c = λ told.
    let may = MayHide c.args.station.now c.args.name.now in
    let ready = path_in c.args.station.now Folder.Out c.args.name.now in
    let path = path_in c.args.station.now Folder.Out (string_bytes c.in_ok-hidden.hidden) in
    let is = c.in_ok-path.ensures ∙ ap (λ (l : List ℕ). path_in c.args.station.now Folder.Out l) c.as_str.ensures.value in
    added_call may _ _ _ c.rename.result (Rename ready path) (added_none may _) (rw (c.as_str-2.ensures.value ∙ c.in_ok-ready.ensures, c.as_str-3.ensures.value ∙ is) at (c.rename.ensures told))
    (path, (string_bytes c.in_ok-hidden.hidden, c.in_ok-hidden.ensures, refl), refl)
