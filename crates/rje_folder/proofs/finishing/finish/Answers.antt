use Rattle.rje_folder.proofs.TakenOver.{give_finishes}
use Rattle.rje_folder.proofs.finishing.finish.Goals as goal

pub returns-in_ok-path-in-Ok-true : goal.returns-in_ok-path-in-Ok-true
returns-in_ok-path-in-Ok-true g c = λ told. give_finishes g.D.Disk.opened g.D.File.Read.remaining g.D.FolderDisk.is_open g.D.FolderDisk.is_file g.D.FolderDisk.are_one c.args.station.now c.args.name.now _ _ (c.give_back.ensures told)

pub returns-in_err-path-in-Ok-true : goal.returns-in_err-path-in-Ok-true
returns-in_err-path-in-Ok-true g c = λ told. give_finishes g.D.Disk.opened g.D.File.Read.remaining g.D.FolderDisk.is_open g.D.FolderDisk.is_file g.D.FolderDisk.are_one c.args.station.now c.args.name.now _ _ (c.give_back.ensures told)
