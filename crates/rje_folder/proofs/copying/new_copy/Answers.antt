-- A copy under a new name: what is asked, that it has the bytes and is on disk, and that nothing stood under its name.
-- The calls are added one by one; a new file is empty, and what is filled and synced stands whole (NewFile, TakenOver).
use Rattle.std.proofs.Common.{◌∙◌}
use Rattle.std.specs.Prelude.{string_bytes}
use Rattle.rje_store.specs.Disk.{Remove}
use Rattle.rje_store.proofs.Replacing.{added_call, added_twice}
use Rattle.rje_folder.specs.declared.folder.Folder.{Folder}
use Rattle.rje_folder.specs.Folder.{path_of}
use Rattle.rje_folder.specs.TakingOver.{MayCopy}
use Rattle.rje_folder.specs.Inside.Calls.{IsNewIn}
use Rattle.rje_folder.proofs.NewFile.{new_is_empty, new_temporary}
use Rattle.rje_folder.proofs.TakenOver.{copy_stands, copy_whole, create_copies, write_copies}
use Rattle.rje_folder.proofs.copying.new_copy.Goals as goal

pub returns-in_err-new-clause-asks : goal.returns-in_err-new-clause-asks
returns-in_err-new-clause-asks g c = λ told. create_copies (path_of c.args.station.now Folder.Refused) _ _ (rw (c.as_str.ensures.value ∙ c.in_ok-own.ensures) at (c.create_new.ensures.asks told))

pub returns-in-Ok-clause-asks : goal.returns-in-Ok-clause-asks
returns-in-Ok-clause-asks g c = λ told.
    let folder = path_of c.args.station.now Folder.Refused in
    let file = g.D.Disk.opened c.in_ok-new.new.file in
    let name = string_bytes c.in_ok-new.new.path in
    let new : IsNewIn folder file name (g.D.Disk.asked c.create_new.new.disk) = rw (c.as_str.ensures.value ∙ c.in_ok-own.ensures) at (c.in_ok-new.ensures.new told) in
    added_twice (MayCopy folder) _ _ _ (create_copies folder _ _ (rw (c.as_str.ensures.value ∙ c.in_ok-own.ensures) at (c.create_new.ensures.asks told)))
    (write_copies folder file name _ _ new (c.fill_new.ensures.asks told (new_is_empty folder file name _ new)))

pub returns-in-Ok-clause-whole : goal.returns-in-Ok-clause-whole
returns-in-Ok-clause-whole g c = λ told.
    let folder = path_of c.args.station.now Folder.Refused in
    let file = g.D.Disk.opened c.in_ok-new.new.file in
    let name = string_bytes c.in_ok-new.new.path in
    let new : IsNewIn folder file name (g.D.Disk.asked c.create_new.new.disk) = rw (c.as_str.ensures.value ∙ c.in_ok-own.ensures) at (c.in_ok-new.ensures.new told) in
    copy_whole folder file name c.args.bytes.now _ _ new (c.fill_new.ensures.asks told (new_is_empty folder file name _ new)) (c.in-Ok.ensures.filled told)

pub returns-in-Ok-clause-made : goal.returns-in-Ok-clause-made
returns-in-Ok-clause-made g c = λ told.
    let folder = path_of c.args.station.now Folder.Refused in
    let file = g.D.Disk.opened c.in_ok-new.new.file in
    let name = string_bytes c.in_ok-new.new.path in
    let new : IsNewIn folder file name (g.D.Disk.asked c.create_new.new.disk) = rw (c.as_str.ensures.value ∙ c.in_ok-own.ensures) at (c.in_ok-new.ensures.new told) in
    (file.number, c.in_ok-new.ensures.made told, copy_stands folder file name _ _ new (c.fill_new.ensures.asks told (new_is_empty folder file name _ new)))

pub returns-clause-asks : goal.returns-clause-asks
returns-clause-asks g c = λ told.
    let folder = path_of c.args.station.now Folder.Refused in
    let file = g.D.Disk.opened c.in_ok-new.new.file in
    let name = string_bytes c.in_ok-new.new.path in
    let new : IsNewIn folder file name (g.D.Disk.asked c.create_new.new.disk) = rw (c.as_str.ensures.value ∙ c.in_ok-own.ensures) at (c.in_ok-new.ensures.new told) in
    added_call (MayCopy folder) _ _ _ c.remove.result (Remove name)
    (added_twice (MayCopy folder) _ _ _ (create_copies folder _ _ (rw (c.as_str.ensures.value ∙ c.in_ok-own.ensures) at (c.create_new.ensures.asks told)))
    (write_copies folder file name _ _ new (c.fill_new.ensures.asks told (new_is_empty folder file name _ new))))
    (rw c.as_str-in-Err.ensures.value at (c.remove.ensures told)) (new_temporary folder file name _ new)

pub returns-in-Ok-clause-named : goal.returns-in-Ok-clause-named
returns-in-Ok-clause-named g c = λ told.
    let folder = path_of c.args.station.now Folder.Refused in
    let file = g.D.Disk.opened c.in_ok-new.new.file in
    let name = string_bytes c.in_ok-new.new.path in
    let new : IsNewIn folder file name (g.D.Disk.asked c.create_new.new.disk) = rw (c.as_str.ensures.value ∙ c.in_ok-own.ensures) at (c.in_ok-new.ensures.new told) in
    new_temporary folder file name _ new
