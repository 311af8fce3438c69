use Rattle.std.proofs.Common.{refl}
use Rattle.rje_store.proofs.Replacing.{added_twice}
use Rattle.rje_folder.specs.declared.folder.Folder.{Folder}
use Rattle.rje_folder.specs.Folder.{path_in}
use Rattle.rje_folder.specs.TakenName.{IsTakenPath}
use Rattle.rje_folder.specs.TakingOver.{MayGiveBack}
use Rattle.rje_folder.proofs.TakenOver.{move_gives}
use Rattle.rje_folder.proofs.taking_over.give_back.Goals as goal

pub returns-in-Ok : goal.returns-in-Ok
returns-in-Ok g c = λ told.
    let path = path_in c.args.station.now Folder.Out c.args.hidden.now in
    let taken : IsTakenPath c.args.station.now c.args.name.now path = (c.args.hidden.now, c.requires.named, refl) in
    move_gives g.D.Disk.opened g.D.File.Read.remaining g.D.FolderDisk.is_open g.D.FolderDisk.is_file g.D.FolderDisk.are_one c.args.station.now c.args.name.now path _ _ taken (c.move_back.ensures.asks told)

pub returns-in-Err-2 : goal.returns-in-Err-2
returns-in-Err-2 g c = λ told.
    let path = path_in c.args.station.now Folder.Out c.args.hidden.now in
    let taken : IsTakenPath c.args.station.now c.args.name.now path = (c.args.hidden.now, c.requires.named, refl) in
    move_gives g.D.Disk.opened g.D.File.Read.remaining g.D.FolderDisk.is_open g.D.FolderDisk.is_file g.D.FolderDisk.are_one c.args.station.now c.args.name.now path _ _ taken (c.move_back.ensures.asks told)

pub returns-in-Err : goal.returns-in-Err
returns-in-Err g c = λ told.
    let path = path_in c.args.station.now Folder.Out c.args.hidden.now in
    let taken : IsTakenPath c.args.station.now c.args.name.now path = (c.args.hidden.now, c.requires.named, refl) in
    added_twice (MayGiveBack g.D.Disk.opened g.D.File.Read.remaining g.D.FolderDisk.is_open g.D.FolderDisk.is_file g.D.FolderDisk.are_one c.args.station.now c.args.name.now) _ _ _ (move_gives g.D.Disk.opened g.D.File.Read.remaining g.D.FolderDisk.is_open g.D.FolderDisk.is_file g.D.FolderDisk.are_one c.args.station.now c.args.name.now path _ _ taken (c.move_back.ensures.asks told)) (c.copy_back.ensures told)
