use Rattle.std.specs.Prelude.{string_bytes}
use Rattle.rje_folder.specs.FileNames.{IsNameOf}
use Rattle.rje_folder.proofs.Moved.{all_moves, link_moves, link_sync_moves}
use Rattle.rje_folder.proofs.moving.change_name.Goals as goal

pub returns-in_err-second-clause-asks : goal.returns-in_err-second-clause-asks
returns-in_err-second-clause-asks g c = λ told. link_moves g.D.FolderDisk.are_one c.args.from.now (IsNameOf c.args.names) _ _ (c.link_free.ensures.asks told)

pub returns-in_err-sync_names-clause-asks : goal.returns-in_err-sync_names-clause-asks
returns-in_err-sync_names-clause-asks g c = λ told.
    link_sync_moves g.D.FolderDisk.are_one c.args.from.now (string_bytes c.in_ok-second.second.path) (IsNameOf c.args.names) _ _ _ c.in_ok-second.ensures.named (c.link_free.ensures.asks told)
    (rw (c.in_ok-second.ensures.folder told) at (c.sync_names.ensures.asks told))

pub returns-in_err-remove_spare-clause-asks : goal.returns-in_err-remove_spare-clause-asks
returns-in_err-remove_spare-clause-asks g c = λ told.
    all_moves g.D.FolderDisk.are_one c.args.from.now (string_bytes c.in_ok-second.second.path) (IsNameOf c.args.names) _ _ _ _ c.in_ok-second.ensures.named (c.link_free.ensures.asks told)
    (rw (c.in_ok-second.ensures.folder told) at (c.sync_names.ensures.asks told)) (rw c.as_str.ensures.value at (c.remove_spare.ensures.asks told))

pub returns-then-branch-clause-asks : goal.returns-then-branch-clause-asks
returns-then-branch-clause-asks g c = λ told.
    all_moves g.D.FolderDisk.are_one c.args.from.now (string_bytes c.in_ok-second.second.path) (IsNameOf c.args.names) _ _ _ _ c.in_ok-second.ensures.named (c.link_free.ensures.asks told)
    (rw (c.in_ok-second.ensures.folder told) at (c.sync_names.ensures.asks told)) (rw c.as_str.ensures.value at (c.remove_spare.ensures.asks told))

pub returns-else-branch-clause-asks : goal.returns-else-branch-clause-asks
returns-else-branch-clause-asks g c = λ told.
    all_moves g.D.FolderDisk.are_one c.args.from.now (string_bytes c.in_ok-second.second.path) (IsNameOf c.args.names) _ _ _ _ c.in_ok-second.ensures.named (c.link_free.ensures.asks told)
    (rw (c.in_ok-second.ensures.folder told) at (c.sync_names.ensures.asks told)) (rw c.as_str.ensures.value at (c.remove_spare.ensures.asks told))
