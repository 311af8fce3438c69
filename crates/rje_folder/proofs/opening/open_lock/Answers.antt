use Rattle.std.proofs.Common.{inl, ◌∙◌, ap}
use Rattle.rje_store.specs.Disk.{OpenLock}
use Rattle.rje_store.proofs.Replacing.{added_call, added_none}
use Rattle.rje_folder.specs.Promising.{MayOpen}
use Rattle.rje_folder.proofs.opening.open_lock.Goals as goal

pub returns : goal.returns
returns g c = λ told.
    let may = MayOpen g.D.FolderDisk.are_one c.args.station.now in
    added_call may _ _ _ c.open_or_create.result (OpenLock c.as_str.result.now) (added_none may _) (c.open_or_create.ensures.asks told)
    (inl (ap OpenLock (c.as_str.ensures.value ∙ c.in_ok-path.ensures)))
