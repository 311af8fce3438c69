use Rattle.std.proofs.Common.{refl}
use Rattle.rje_store.proofs.Replacing.{added_twice}
use Rattle.rje_folder.specs.declared.folder.Folder.{Folder}
use Rattle.rje_folder.specs.Folder.{path_in}
use Rattle.rje_folder.specs.TakenName.{IsTakenPath}
use Rattle.rje_folder.specs.TakingOver.{MayGiveBack}
use Rattle.rje_folder.proofs.TakenOver.{move_gives}
use Rattle.rje_folder.proofs.taking_over.exchange.Goals as goal

pub returns-in-Ok-clause-asks : goal.returns-in-Ok-clause-asks
returns-in-Ok-clause-asks g c = λ told.
    let path = path_in c.args.station.now Folder.Out c.args.hidden.now in
    let taken : IsTakenPath c.args.station.now c.args.name.now path = (c.args.hidden.now, c.requires.named, refl) in
    added_twice (MayGiveBack g.D.Disk.opened g.D.File.Read.remaining g.D.FolderDisk.is_open g.D.FolderDisk.is_file g.D.FolderDisk.are_one c.args.station.now c.args.name.now) _ _ _ (c.put_in.ensures.asks told) (move_gives g.D.Disk.opened g.D.File.Read.remaining g.D.FolderDisk.is_open g.D.FolderDisk.is_file g.D.FolderDisk.are_one c.args.station.now c.args.name.now path _ _ taken (c.move_back.ensures.asks told))

pub returns-in-Ok-2-clause-asks : goal.returns-in-Ok-2-clause-asks
returns-in-Ok-2-clause-asks g c = λ told.
    let path = path_in c.args.station.now Folder.Out c.args.hidden.now in
    let taken : IsTakenPath c.args.station.now c.args.name.now path = (c.args.hidden.now, c.requires.named, refl) in
    added_twice (MayGiveBack g.D.Disk.opened g.D.File.Read.remaining g.D.FolderDisk.is_open g.D.FolderDisk.is_file g.D.FolderDisk.are_one c.args.station.now c.args.name.now) _ _ _ (c.put_in.ensures.asks told) (move_gives g.D.Disk.opened g.D.File.Read.remaining g.D.FolderDisk.is_open g.D.FolderDisk.is_file g.D.FolderDisk.are_one c.args.station.now c.args.name.now path _ _ taken (c.move_back.ensures.asks told))

pub returns-in-Err-clause-asks : goal.returns-in-Err-clause-asks
returns-in-Err-clause-asks g c = λ told.
    let path = path_in c.args.station.now Folder.Out c.args.hidden.now in
    let taken : IsTakenPath c.args.station.now c.args.name.now path = (c.args.hidden.now, c.requires.named, refl) in
    added_twice (MayGiveBack g.D.Disk.opened g.D.File.Read.remaining g.D.FolderDisk.is_open g.D.FolderDisk.is_file g.D.FolderDisk.are_one c.args.station.now c.args.name.now) _ _ _ (c.put_in.ensures.asks told) (move_gives g.D.Disk.opened g.D.File.Read.remaining g.D.FolderDisk.is_open g.D.FolderDisk.is_file g.D.FolderDisk.are_one c.args.station.now c.args.name.now path _ _ taken (c.move_back.ensures.asks told))
