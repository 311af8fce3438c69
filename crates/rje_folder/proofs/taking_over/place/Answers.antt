-- A copy that takes the place of a file: what is asked at each way out, and that it stands there whole, on disk.
-- The copy keeps its bytes through the calls that don't touch it (`copy_synced` and its neighbours), and the rename moves it.
use Rattle.std.proofs.Common.{◌∙◌, refl, rules}
use Rattle.std.specs.Prelude.{string_bytes}
use Rattle.rje_store.specs.Inside.Filling.{AddsSync}
use Rattle.rje_store.proofs.Replacing.{added_twice}
use Rattle.rje_folder.specs.declared.folder.Folder.{Folder}
use Rattle.rje_folder.specs.Folder.{path_in}
use Rattle.rje_folder.specs.TakenName.{IsTakenPath}
use Rattle.rje_folder.specs.TakingOver.{MayGiveBack}
use Rattle.rje_folder.proofs.TakenOver.{copy_synced, put_gives, put_stands, put_whole, sync_gives}
use Rattle.rje_folder.proofs.taking_over.place.Goals as goal

pub returns-in_err-sync_names-clause-asks : goal.returns-in_err-sync_names-clause-asks
returns-in_err-sync_names-clause-asks g c = λ told name named.
    let path = path_in c.args.station.now Folder.Out c.args.hidden.now in
    let first : AddsSync path (g.D.Disk.asked c.args.disk.now) (g.D.Disk.asked c.sync_names.new.disk) = rw (c.in_ok-folder.ensures told ∙ c.as_str.ensures.value ∙ c.in_ok-path.ensures) at (c.sync_names.ensures.asks told) in
    let taken : IsTakenPath c.args.station.now name path = (c.args.hidden.now, named, refl) in
    sync_gives g.D.Disk.opened g.D.File.Read.remaining g.D.FolderDisk.is_open g.D.FolderDisk.is_file g.D.FolderDisk.are_one c.args.station.now name path _ _ taken first

pub returns-in_err-is_this_file-clause-asks : goal.returns-in_err-is_this_file-clause-asks
returns-in_err-is_this_file-clause-asks g c = λ told name named.
    let path = path_in c.args.station.now Folder.Out c.args.hidden.now in
    let first : AddsSync path (g.D.Disk.asked c.args.disk.now) (g.D.Disk.asked c.sync_names.new.disk) = rw (c.in_ok-folder.ensures told ∙ c.as_str.ensures.value ∙ c.in_ok-path.ensures) at (c.sync_names.ensures.asks told) in
    let taken : IsTakenPath c.args.station.now name path = (c.args.hidden.now, named, refl) in
    sync_gives g.D.Disk.opened g.D.File.Read.remaining g.D.FolderDisk.is_open g.D.FolderDisk.is_file g.D.FolderDisk.are_one c.args.station.now name path _ _ taken first

pub returns-then-not-branch-clause-asks : goal.returns-then-not-branch-clause-asks
returns-then-not-branch-clause-asks g c = λ told name named.
    let path = path_in c.args.station.now Folder.Out c.args.hidden.now in
    let first : AddsSync path (g.D.Disk.asked c.args.disk.now) (g.D.Disk.asked c.sync_names.new.disk) = rw (c.in_ok-folder.ensures told ∙ c.as_str.ensures.value ∙ c.in_ok-path.ensures) at (c.sync_names.ensures.asks told) in
    let taken : IsTakenPath c.args.station.now name path = (c.args.hidden.now, named, refl) in
    sync_gives g.D.Disk.opened g.D.File.Read.remaining g.D.FolderDisk.is_open g.D.FolderDisk.is_file g.D.FolderDisk.are_one c.args.station.now name path _ _ taken first

pub returns-in_err-rename-clause-asks : goal.returns-in_err-rename-clause-asks
returns-in_err-rename-clause-asks g c = λ told name named.
    let path = path_in c.args.station.now Folder.Out c.args.hidden.now in
    let first : AddsSync path (g.D.Disk.asked c.args.disk.now) (g.D.Disk.asked c.sync_names.new.disk) = rw (c.in_ok-folder.ensures told ∙ c.as_str.ensures.value ∙ c.in_ok-path.ensures) at (c.sync_names.ensures.asks told) in
    let taken : IsTakenPath c.args.station.now name path = (c.args.hidden.now, named, refl) in
    let copy = string_bytes c.args.copy.now.path in
    let said : g.D.FolderDisk.is_file (g.D.Disk.asked c.sync_names.new.disk) c.as_str-2.result.now c.args.copy.now.read.file = search rules in
    let is = rw (c.as_str-2.ensures.value ∙ c.in_ok-path.ensures) at said in
    added_twice (MayGiveBack g.D.Disk.opened g.D.File.Read.remaining g.D.FolderDisk.is_open g.D.FolderDisk.is_file g.D.FolderDisk.are_one c.args.station.now name) _ _ _ (sync_gives g.D.Disk.opened g.D.File.Read.remaining g.D.FolderDisk.is_open g.D.FolderDisk.is_file g.D.FolderDisk.are_one c.args.station.now name path _ _ taken first)
    (put_gives c.rename.result g.D.Disk.opened g.D.File.Read.remaining g.D.FolderDisk.is_open g.D.FolderDisk.is_file g.D.FolderDisk.are_one c.args.station.now name path copy c.args.copy.now.read _ _ taken (copy_synced g.D.Disk.opened g.D.File.Read.remaining g.D.FolderDisk.is_open c.args.station.now path copy c.args.copy.now.read _ _ first (c.requires.copy told)) is (rw (c.as_str-3.ensures.value, c.as_str-4.ensures.value ∙ c.in_ok-path.ensures) at (c.rename.ensures told)))

pub returns-in_err-sync_names-2-clause-asks : goal.returns-in_err-sync_names-2-clause-asks
returns-in_err-sync_names-2-clause-asks g c = λ told name named.
    let path = path_in c.args.station.now Folder.Out c.args.hidden.now in
    let first : AddsSync path (g.D.Disk.asked c.args.disk.now) (g.D.Disk.asked c.sync_names.new.disk) = rw (c.in_ok-folder.ensures told ∙ c.as_str.ensures.value ∙ c.in_ok-path.ensures) at (c.sync_names.ensures.asks told) in
    let taken : IsTakenPath c.args.station.now name path = (c.args.hidden.now, named, refl) in
    let copy = string_bytes c.args.copy.now.path in
    let said : g.D.FolderDisk.is_file (g.D.Disk.asked c.sync_names.new.disk) c.as_str-2.result.now c.args.copy.now.read.file = search rules in
    let is = rw (c.as_str-2.ensures.value ∙ c.in_ok-path.ensures) at said in
    let last : AddsSync path (g.D.Disk.asked c.rename.new.self) (g.D.Disk.asked c.sync_names-2.new.disk) = rw (c.in_ok-folder.ensures told ∙ c.as_str.ensures.value ∙ c.in_ok-path.ensures) at (c.sync_names-2.ensures.asks told) in
    added_twice (MayGiveBack g.D.Disk.opened g.D.File.Read.remaining g.D.FolderDisk.is_open g.D.FolderDisk.is_file g.D.FolderDisk.are_one c.args.station.now name) _ _ _ (added_twice (MayGiveBack g.D.Disk.opened g.D.File.Read.remaining g.D.FolderDisk.is_open g.D.FolderDisk.is_file g.D.FolderDisk.are_one c.args.station.now name) _ _ _ (sync_gives g.D.Disk.opened g.D.File.Read.remaining g.D.FolderDisk.is_open g.D.FolderDisk.is_file g.D.FolderDisk.are_one c.args.station.now name path _ _ taken first)
    (put_gives c.rename.result g.D.Disk.opened g.D.File.Read.remaining g.D.FolderDisk.is_open g.D.FolderDisk.is_file g.D.FolderDisk.are_one c.args.station.now name path copy c.args.copy.now.read _ _ taken (copy_synced g.D.Disk.opened g.D.File.Read.remaining g.D.FolderDisk.is_open c.args.station.now path copy c.args.copy.now.read _ _ first (c.requires.copy told)) is (rw (c.as_str-3.ensures.value, c.as_str-4.ensures.value ∙ c.in_ok-path.ensures) at (c.rename.ensures told))))
    (sync_gives g.D.Disk.opened g.D.File.Read.remaining g.D.FolderDisk.is_open g.D.FolderDisk.is_file g.D.FolderDisk.are_one c.args.station.now name path _ _ taken last)

pub returns-clause-asks : goal.returns-clause-asks
returns-clause-asks g c = λ told name named.
    let path = path_in c.args.station.now Folder.Out c.args.hidden.now in
    let first : AddsSync path (g.D.Disk.asked c.args.disk.now) (g.D.Disk.asked c.sync_names.new.disk) = rw (c.in_ok-folder.ensures told ∙ c.as_str.ensures.value ∙ c.in_ok-path.ensures) at (c.sync_names.ensures.asks told) in
    let taken : IsTakenPath c.args.station.now name path = (c.args.hidden.now, named, refl) in
    let copy = string_bytes c.args.copy.now.path in
    let said : g.D.FolderDisk.is_file (g.D.Disk.asked c.sync_names.new.disk) c.as_str-2.result.now c.args.copy.now.read.file = search rules in
    let is = rw (c.as_str-2.ensures.value ∙ c.in_ok-path.ensures) at said in
    let last : AddsSync path (g.D.Disk.asked c.rename.new.self) (g.D.Disk.asked c.sync_names-2.new.disk) = rw (c.in_ok-folder.ensures told ∙ c.as_str.ensures.value ∙ c.in_ok-path.ensures) at (c.sync_names-2.ensures.asks told) in
    added_twice (MayGiveBack g.D.Disk.opened g.D.File.Read.remaining g.D.FolderDisk.is_open g.D.FolderDisk.is_file g.D.FolderDisk.are_one c.args.station.now name) _ _ _ (added_twice (MayGiveBack g.D.Disk.opened g.D.File.Read.remaining g.D.FolderDisk.is_open g.D.FolderDisk.is_file g.D.FolderDisk.are_one c.args.station.now name) _ _ _ (sync_gives g.D.Disk.opened g.D.File.Read.remaining g.D.FolderDisk.is_open g.D.FolderDisk.is_file g.D.FolderDisk.are_one c.args.station.now name path _ _ taken first)
    (put_gives c.rename.result g.D.Disk.opened g.D.File.Read.remaining g.D.FolderDisk.is_open g.D.FolderDisk.is_file g.D.FolderDisk.are_one c.args.station.now name path copy c.args.copy.now.read _ _ taken (copy_synced g.D.Disk.opened g.D.File.Read.remaining g.D.FolderDisk.is_open c.args.station.now path copy c.args.copy.now.read _ _ first (c.requires.copy told)) is (rw (c.as_str-3.ensures.value, c.as_str-4.ensures.value ∙ c.in_ok-path.ensures) at (c.rename.ensures told))))
    (sync_gives g.D.Disk.opened g.D.File.Read.remaining g.D.FolderDisk.is_open g.D.FolderDisk.is_file g.D.FolderDisk.are_one c.args.station.now name path _ _ taken last)

pub returns-clause-whole : goal.returns-clause-whole
returns-clause-whole g c = λ told placed.
    let path = path_in c.args.station.now Folder.Out c.args.hidden.now in
    let first : AddsSync path (g.D.Disk.asked c.args.disk.now) (g.D.Disk.asked c.sync_names.new.disk) = rw (c.in_ok-folder.ensures told ∙ c.as_str.ensures.value ∙ c.in_ok-path.ensures) at (c.sync_names.ensures.asks told) in
    let last : AddsSync path (g.D.Disk.asked c.rename.new.self) (g.D.Disk.asked c.sync_names-2.new.disk) = rw (c.in_ok-folder.ensures told ∙ c.as_str.ensures.value ∙ c.in_ok-path.ensures) at (c.sync_names-2.ensures.asks told) in
    let copy = string_bytes c.args.copy.now.path in
    put_whole path copy path c.args.copy.now.read.bytes.items _ _ _ _ first (rw (c.as_str-3.ensures.value, c.as_str-4.ensures.value ∙ c.in_ok-path.ensures) at (c.in_ok-rename.ensures told)) last (c.requires.copy told).1

pub returns-clause-stands : goal.returns-clause-stands
returns-clause-stands g c = λ told placed.
    let path = path_in c.args.station.now Folder.Out c.args.hidden.now in
    let first : AddsSync path (g.D.Disk.asked c.args.disk.now) (g.D.Disk.asked c.sync_names.new.disk) = rw (c.in_ok-folder.ensures told ∙ c.as_str.ensures.value ∙ c.in_ok-path.ensures) at (c.sync_names.ensures.asks told) in
    let last : AddsSync path (g.D.Disk.asked c.rename.new.self) (g.D.Disk.asked c.sync_names-2.new.disk) = rw (c.in_ok-folder.ensures told ∙ c.as_str.ensures.value ∙ c.in_ok-path.ensures) at (c.sync_names-2.ensures.asks told) in
    let copy = string_bytes c.args.copy.now.path in
    put_stands path copy path _ _ _ _ first (rw (c.as_str-3.ensures.value, c.as_str-4.ensures.value ∙ c.in_ok-path.ensures) at (c.in_ok-rename.ensures told)) last
