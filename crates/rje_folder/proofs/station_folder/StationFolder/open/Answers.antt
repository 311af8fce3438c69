use Rattle.rje_store.proofs.Replacing.{added_twice}
use Rattle.rje_folder.specs.declared.folder.Folder.{Folder}
use Rattle.rje_folder.specs.Folder.{path_of}
use Rattle.rje_folder.specs.Promising.{MayOpen}
use Rattle.rje_folder.proofs.Opened.{clear_opens, tidy_opens, was_on_disk}
use Rattle.rje_folder.proofs.station_folder.StationFolder.open.Goals as goal

pub returns-clause-asks : goal.returns-clause-asks
returns-clause-asks g c = λ told.
    let may = MayOpen g.D.FolderDisk.are_one c.args.path.now in
    added_twice may _ _ _ (added_twice may _ _ _ (c.make_folders.ensures.asks told) (c.locked.ensures told))
    (added_twice may _ _ _ (clear_opens g.D.FolderDisk.are_one c.args.path.now _ _ (c.clear_up.ensures told)) (tidy_opens g.D.FolderDisk.are_one c.args.path.now _ _ (c.tidy_up.ensures told)))

pub returns-clause-on_disk : goal.returns-clause-on_disk
returns-clause-on_disk g c = λ told.
    let may = MayOpen g.D.FolderDisk.are_one c.args.path.now in
    was_on_disk may (path_of c.args.path.now Folder.Out) (g.D.Disk.asked c.make_folders.new.disk) _ (c.in_ok-make_folders.ensures.on_disk told)
    (added_twice may _ _ _ (c.locked.ensures told)
    (added_twice may _ _ _ (clear_opens g.D.FolderDisk.are_one c.args.path.now _ _ (c.clear_up.ensures told)) (tidy_opens g.D.FolderDisk.are_one c.args.path.now _ _ (c.tidy_up.ensures told))))
