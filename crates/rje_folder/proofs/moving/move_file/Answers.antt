use Rattle.std.specs.Prelude.{string_bytes}
use Rattle.rje_folder.specs.FileNames.{IsNameOf}
use Rattle.rje_folder.proofs.Moved.{change_sync_moves}
use Rattle.rje_folder.proofs.moving.move_file.Goals as goal

pub returns-in_err-sync_names-clause-asks : goal.returns-in_err-sync_names-clause-asks
returns-in_err-sync_names-clause-asks g c = λ told.
    change_sync_moves g.D.FolderDisk.are_one c.args.from.now (string_bytes c.in_ok-path.path) (IsNameOf c.args.names) _ _ _ c.in_ok-path.ensures.named (c.change_name.ensures.asks told)
    (rw (c.in_ok-old_folder.ensures told) at (c.sync_names.ensures.asks told))

pub returns-clause-asks : goal.returns-clause-asks
returns-clause-asks g c = λ told.
    change_sync_moves g.D.FolderDisk.are_one c.args.from.now (string_bytes c.in_ok-path.path) (IsNameOf c.args.names) _ _ _ c.in_ok-path.ensures.named (c.change_name.ensures.asks told)
    (rw (c.in_ok-old_folder.ensures told) at (c.sync_names.ensures.asks told))
