-- A trial of a file: what is asked, that it was as long as was wanted, and that no name of it is left.
-- Whatever fails, the name that was made is taken away again (lemmas of Tried).
use Rattle.std.proofs.Common.{◌∙◌}
use Rattle.std.specs.Prelude.{string_bytes}
use Rattle.rje_store.specs.Disk.{Remove}
use Rattle.rje_store.proofs.Replacing.{added_call, added_twice}
use Rattle.rje_folder.specs.Folder.{path_of}
use Rattle.rje_folder.specs.Keeping.{MayTryToKeep}
use Rattle.rje_folder.specs.Inside.Calls.{IsNewIn}
use Rattle.rje_folder.proofs.NewFile.{new_is_empty, new_temporary}
use Rattle.rje_folder.proofs.Tried.{create_tries, none_left, none_made, tried_whole, write_tries}
use Rattle.rje_folder.proofs.probing.try_to_keep.Goals as goal

pub returns-in_err-new-clause-asks : goal.returns-in_err-new-clause-asks
returns-in_err-new-clause-asks g c = λ told. create_tries (path_of c.args.station.now c.args.folder) _ _ (rw (c.as_str.ensures.value ∙ c.in_ok-own.ensures) at (c.create_new.ensures.asks told))

pub returns-clause-asks : goal.returns-clause-asks
returns-clause-asks g c = λ told.
    let folder = path_of c.args.station.now c.args.folder in
    let file = g.D.Disk.opened c.in_ok-new.new.file in
    let name = string_bytes c.in_ok-new.new.path in
    let new : IsNewIn folder file name (g.D.Disk.asked c.create_new.new.disk) = rw (c.as_str.ensures.value ∙ c.in_ok-own.ensures) at (c.in_ok-new.ensures.new told) in
    added_call (MayTryToKeep folder) _ _ _ c.remove.result (Remove name)
    (added_twice (MayTryToKeep folder) _ _ _ (create_tries folder _ _ (rw (c.as_str.ensures.value ∙ c.in_ok-own.ensures) at (c.create_new.ensures.asks told)))
    (write_tries folder file name _ _ new (c.fill_new-filled.ensures.asks told (new_is_empty folder file name _ new))))
    (rw c.as_str-2.ensures.value at (c.remove.ensures told)) (new_temporary folder file name _ new)

pub returns-clause-tried : goal.returns-clause-tried
returns-clause-tried g c = λ told.
    let folder = path_of c.args.station.now c.args.folder in
    let file = g.D.Disk.opened c.in_ok-new.new.file in
    let name = string_bytes c.in_ok-new.new.path in
    let new : IsNewIn folder file name (g.D.Disk.asked c.create_new.new.disk) = rw (c.as_str.ensures.value ∙ c.in_ok-own.ensures) at (c.in_ok-new.ensures.new told) in
    tried_whole c.fill_new-filled.result c.remove.result folder file name c.in_ok-zeros.zeros.items c.args.len _ _ _ new (c.fill_new-filled.ensures.asks told (new_is_empty folder file name _ new))
    (rw c.as_slice.ensures.value at (c.fill_new-filled.ensures.filled told)) c.in_ok-zeros.ensures (rw c.as_str-2.ensures.value at (c.remove.ensures told))

pub returns-clause-gone : goal.returns-clause-gone
returns-clause-gone g c = λ told.
    let folder = path_of c.args.station.now c.args.folder in
    let file = g.D.Disk.opened c.in_ok-new.new.file in
    let name = string_bytes c.in_ok-new.new.path in
    let new : IsNewIn folder file name (g.D.Disk.asked c.create_new.new.disk) = rw (c.as_str.ensures.value ∙ c.in_ok-own.ensures) at (c.in_ok-new.ensures.new told) in
    none_left c.remove.result file name _ _ _ _ (c.in_ok-new.ensures.others told) (c.fill_new-filled.ensures.asks told (new_is_empty folder file name _ new)) (rw c.as_str-2.ensures.value at (c.remove.ensures told))

pub returns-in_err-own-clause-gone : goal.returns-in_err-own-clause-gone
returns-in_err-own-clause-gone g c = λ told. none_made (g.D.Disk.asked c.args.disk.now)

pub returns-in_err-zeros-clause-gone : goal.returns-in_err-zeros-clause-gone
returns-in_err-zeros-clause-gone g c = λ told. none_made (g.D.Disk.asked c.args.disk.now)
