-- A new file of a folder: what is asked, that it is on disk, that it is new, and under which name.
-- The hidden file is made and filled, and then gets its name: the lemmas of NewFile carry it from the one to the other.
use Rattle.std.proofs.Common.{inl}
use Rattle.std.specs.Prelude.{string_bytes}
use Rattle.rje_store.specs.Disk.{Remove, came_to}
use Rattle.rje_store.proofs.Replacing.{added_call, added_twice}
use Rattle.rje_folder.specs.declared.keeping.Kept.{Kept}
use Rattle.rje_folder.specs.Keeping.{MayKeep}
use Rattle.rje_folder.specs.FileNames.{IsNameOf}
use Rattle.rje_folder.specs.Inside.Calls.{MayCreate}
use Rattle.rje_folder.proofs.Linked.{named_where_ok}
use Rattle.rje_folder.proofs.NewFile.{create_keeps, kept_on_disk, made_kept, new_temporary}
use Rattle.rje_folder.proofs.keeping.keep.Goals as goal

pub returns-in_err-new-clause-asks : goal.returns-in_err-new-clause-asks
returns-in_err-new-clause-asks g c = λ told. create_keeps c.args.folder.now c.args.bytes.now (IsNameOf c.args.names) _ _ (c.create_new.ensures.asks told)

pub returns-clause-asks : goal.returns-clause-asks
returns-clause-asks g c = λ told.
    let folder = c.args.folder.now in
    let may = MayKeep folder (IsNameOf c.args.names) c.args.bytes.now in
    let new = c.in_ok-new.ensures.new told in
    added_call may _ _ _ c.remove.result (Remove (string_bytes c.in_ok-new.new.path))
    (added_twice may _ _ _ (create_keeps folder c.args.bytes.now (IsNameOf c.args.names) _ _ (c.create_new.ensures.asks told)) (c.keep_new-kept.ensures.asks told folder new))
    (rw c.as_str.ensures.value at (c.remove.ensures told)) (inl (new_temporary folder _ _ _ new))

pub returns-clause-on_disk : goal.returns-clause-on_disk
returns-clause-on_disk g c = λ told.
    let folder = c.args.folder.now in
    let new = c.in_ok-new.ensures.new told in
    kept_on_disk (λ (kept : Kept). string_bytes kept.path) c.keep_new-kept.result c.remove.result (string_bytes c.in_ok-new.new.path) c.args.bytes.now _ _ (rw c.as_str.ensures.value at (c.remove.ensures told)) (c.keep_new-kept.ensures.kept told folder new)

pub returns-clause-named_new : goal.returns-clause-named_new
returns-clause-named_new g c = λ told.
    let folder = c.args.folder.now in
    named_where_ok (λ (kept : Kept). string_bytes kept.path) (MayCreate folder) c.keep_new-kept.result (came_to c.remove.result (Remove (string_bytes c.in_ok-new.new.path))) _ _ _ _
    (c.create_new.ensures.asks told) (c.keep_new-kept.ensures.named_new told folder (c.in_ok-new.ensures.new told)) (rw c.as_str.ensures.value at (c.remove.ensures told))

pub returns-clause-made : goal.returns-clause-made
returns-clause-made g c = λ told.
    let folder = c.args.folder.now in
    let new = c.in_ok-new.ensures.new told in
    made_kept (λ (kept : Kept). string_bytes kept.path) c.keep_new-kept.result c.remove.result (string_bytes c.in_ok-new.new.path) c.args.bytes.now (g.D.Disk.opened c.in_ok-new.new.file).number _ _ _
    (c.in_ok-new.ensures.made told) (rw c.as_str.ensures.value at (c.remove.ensures told)) (c.keep_new-kept.ensures.kept told folder new) (c.keep_new-kept.ensures.stands told folder new)
