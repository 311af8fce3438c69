-- The same, and the name that the file had comes back: what is asked, and what stands under that name.
-- The calls of the two steps are joined by `added_twice`; the lemmas of TakenOver say what each leaves.
use Rattle.std.proofs.Common.{◌∙◌, refl}
use Rattle.std.specs.Prelude.{string_bytes}
use Rattle.rje_store.proofs.Replacing.{added_twice}
use Rattle.rje_folder.specs.declared.folder.Folder.{Folder}
use Rattle.rje_folder.specs.FileNames.{IsNumbered}
use Rattle.rje_folder.specs.Folder.{path_in}
use Rattle.rje_folder.specs.TakenName.{IsTakenPath}
use Rattle.rje_folder.specs.TakingOver.{MayGiveBack}
use Rattle.rje_folder.proofs.TakenOver.{move_gives, moved_on_disk, remove_gives}
use Rattle.rje_folder.proofs.taking_over.put_in.Goals as goal

pub returns-in-Ok-clause-asks : goal.returns-in-Ok-clause-asks
returns-in-Ok-clause-asks g c = λ told.
    let path = path_in c.args.station.now Folder.Out c.args.hidden.now in
    let taken : IsTakenPath c.args.station.now c.args.name.now path = (c.args.hidden.now, c.requires.named, refl) in
    added_twice (MayGiveBack g.D.Disk.opened g.D.File.Read.remaining g.D.FolderDisk.is_open g.D.FolderDisk.is_file g.D.FolderDisk.are_one c.args.station.now c.args.name.now) _ _ _ (c.place.ensures.asks told c.args.name.now c.requires.named) (move_gives g.D.Disk.opened g.D.File.Read.remaining g.D.FolderDisk.is_open g.D.FolderDisk.is_file g.D.FolderDisk.are_one c.args.station.now c.args.name.now path _ _ taken (c.move_back.ensures.asks told))

pub returns-in-Err-move_back-clause-asks : goal.returns-in-Err-move_back-clause-asks
returns-in-Err-move_back-clause-asks g c = λ told.
    let path = path_in c.args.station.now Folder.Out c.args.hidden.now in
    let taken : IsTakenPath c.args.station.now c.args.name.now path = (c.args.hidden.now, c.requires.named, refl) in
    added_twice (MayGiveBack g.D.Disk.opened g.D.File.Read.remaining g.D.FolderDisk.is_open g.D.FolderDisk.is_file g.D.FolderDisk.are_one c.args.station.now c.args.name.now) _ _ _ (c.place.ensures.asks told c.args.name.now c.requires.named) (move_gives g.D.Disk.opened g.D.File.Read.remaining g.D.FolderDisk.is_open g.D.FolderDisk.is_file g.D.FolderDisk.are_one c.args.station.now c.args.name.now path _ _ taken (c.move_back.ensures.asks told))

pub returns-in-Ok-clause-put : goal.returns-in-Ok-clause-put
returns-in-Ok-clause-put g c = λ told.
    let path = path_in c.args.station.now Folder.Out c.args.hidden.now in
    moved_on_disk g.D.FolderDisk.are_one path (string_bytes c.in-Ok.path) c.args.copy.now.read.bytes.items (IsNumbered (path_in c.args.station.now Folder.Out c.args.name.now)) _ _
    (c.move_back.ensures.asks told) (c.in-Ok.ensures.moved told) (c.in-Ok-true.ensures.whole told c.in-Ok-true.field-0-test)

pub returns-in-Ok-clause-stands : goal.returns-in-Ok-clause-stands
returns-in-Ok-clause-stands g c = λ told. (c.in-Ok.ensures.moved told).0 ∙ c.in-Ok-true.ensures.stands told c.in-Ok-true.field-0-test

pub returns-in-Ok-false-clause-asks : goal.returns-in-Ok-false-clause-asks
returns-in-Ok-false-clause-asks g c = λ told.
    added_twice (MayGiveBack g.D.Disk.opened g.D.File.Read.remaining g.D.FolderDisk.is_open g.D.FolderDisk.is_file g.D.FolderDisk.are_one c.args.station.now c.args.name.now) _ _ _ (c.place.ensures.asks told c.args.name.now c.requires.named)
    (remove_gives c.remove.result g.D.Disk.opened g.D.File.Read.remaining g.D.FolderDisk.is_open g.D.FolderDisk.is_file g.D.FolderDisk.are_one c.args.station.now c.args.name.now (string_bytes c.args.copy.now.path) _ _ (c.requires.copy told).0 (rw c.as_str.ensures.value at (c.remove.ensures told)))

pub returns-in-Err-clause-asks : goal.returns-in-Err-clause-asks
returns-in-Err-clause-asks g c = λ told.
    added_twice (MayGiveBack g.D.Disk.opened g.D.File.Read.remaining g.D.FolderDisk.is_open g.D.FolderDisk.is_file g.D.FolderDisk.are_one c.args.station.now c.args.name.now) _ _ _ (c.place.ensures.asks told c.args.name.now c.requires.named)
    (remove_gives c.remove-in-Err.result g.D.Disk.opened g.D.File.Read.remaining g.D.FolderDisk.is_open g.D.FolderDisk.is_file g.D.FolderDisk.are_one c.args.station.now c.args.name.now (string_bytes c.args.copy.now.path) _ _ (c.requires.copy told).0 (rw c.as_str-in-Err.ensures.value at (c.remove-in-Err.ensures told)))
