use Rattle.std.specs.Prelude.{string_bytes}
use Rattle.rje_folder.specs.FileNames.{IsNameOf}
use Rattle.rje_folder.proofs.Moved.{all_adds, link_adds, link_sync_adds}
use Rattle.rje_folder.proofs.moving.add_name.Goals as goal

pub returns-in_err-second-clause-asks : goal.returns-in_err-second-clause-asks
returns-in_err-second-clause-asks g c = λ told. link_adds g.D.FolderDisk.are_one c.args.name.now (IsNameOf c.args.names) _ _ (c.link_free.ensures.asks told)

pub returns-in-Ok-clause-asks : goal.returns-in-Ok-clause-asks
returns-in-Ok-clause-asks g c = λ told.
    link_sync_adds g.D.FolderDisk.are_one c.args.name.now (string_bytes c.in_ok-second.second.path) (IsNameOf c.args.names) _ _ _ c.in_ok-second.ensures.named (c.link_free.ensures.asks told)
    (rw (c.in_ok-second.ensures.folder told) at (c.sync_names.ensures.asks told))

pub returns-in-Err-clause-asks : goal.returns-in-Err-clause-asks
returns-in-Err-clause-asks g c = λ told.
    all_adds g.D.FolderDisk.are_one c.args.name.now (string_bytes c.in_ok-second.second.path) (IsNameOf c.args.names) _ _ _ _ c.in_ok-second.ensures.named (c.link_free.ensures.asks told)
    (rw (c.in_ok-second.ensures.folder told) at (c.sync_names.ensures.asks told)) (rw c.as_str.ensures.value at (c.drop_name.ensures.asks told))
