use Rattle.std.proofs.Common.{◌≡◌, ℕ, List, refl}
use Rattle.rje_store.specs.Disk.{Link}
use Rattle.rje_store.proofs.Replacing.{added_call, added_none}
use Rattle.rje_folder.specs.Moving.{MayLink}
use Rattle.rje_folder.proofs.Moved.{all_moves, link_moves, link_sync_moves}
use Rattle.rje_folder.proofs.taking_out.give_shown.Goals as goal

pub returns-in_err-link : goal.returns-in_err-link
returns-in_err-link g c = λ told.
    let IsShown : List ℕ → Type 0 = λ name. name ≡ c.args.shown.now in
    let links = added_call (MayLink c.args.hidden.now IsShown) _ _ _ c.link.result (Link c.args.hidden.now c.args.shown.now) (added_none (MayLink c.args.hidden.now IsShown) _) (c.link.ensures.asks told) (c.args.shown.now, refl, refl) in
    link_moves g.D.FolderDisk.are_one c.args.hidden.now IsShown _ _ links

pub returns-in_err-sync_names : goal.returns-in_err-sync_names
returns-in_err-sync_names g c = λ told.
    let IsShown : List ℕ → Type 0 = λ name. name ≡ c.args.shown.now in
    let links = added_call (MayLink c.args.hidden.now IsShown) _ _ _ c.link.result (Link c.args.hidden.now c.args.shown.now) (added_none (MayLink c.args.hidden.now IsShown) _) (c.link.ensures.asks told) (c.args.shown.now, refl, refl) in
    link_sync_moves g.D.FolderDisk.are_one c.args.hidden.now c.args.shown.now IsShown _ _ _ refl links (rw (c.requires.folder told) at (c.sync_names.ensures.asks told))

pub returns-in_err-remove_spare : goal.returns-in_err-remove_spare
returns-in_err-remove_spare g c = λ told.
    let IsShown : List ℕ → Type 0 = λ name. name ≡ c.args.shown.now in
    let links = added_call (MayLink c.args.hidden.now IsShown) _ _ _ c.link.result (Link c.args.hidden.now c.args.shown.now) (added_none (MayLink c.args.hidden.now IsShown) _) (c.link.ensures.asks told) (c.args.shown.now, refl, refl) in
    all_moves g.D.FolderDisk.are_one c.args.hidden.now c.args.shown.now IsShown _ _ _ _ refl links (rw (c.requires.folder told) at (c.sync_names.ensures.asks told)) (c.remove_spare.ensures.asks told)

pub returns : goal.returns
returns g c = λ told.
    let IsShown : List ℕ → Type 0 = λ name. name ≡ c.args.shown.now in
    let links = added_call (MayLink c.args.hidden.now IsShown) _ _ _ c.link.result (Link c.args.hidden.now c.args.shown.now) (added_none (MayLink c.args.hidden.now IsShown) _) (c.link.ensures.asks told) (c.args.shown.now, refl, refl) in
    all_moves g.D.FolderDisk.are_one c.args.hidden.now c.args.shown.now IsShown _ _ _ _ refl links (rw (c.requires.folder told) at (c.sync_names.ensures.asks told)) (c.remove_spare.ensures.asks told)
