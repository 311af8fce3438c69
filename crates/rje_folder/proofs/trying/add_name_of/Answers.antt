-- A second name for one file: what is asked at each way out, and that the name is the file's, on disk, after `Ok`.
-- The file is tried by a hidden name, named by that, and spared it again; SecondNames has a lemma for each of these steps.
use Rattle.std.proofs.Common.{subst, sym}
use Rattle.std.specs.Prelude.{string_bytes}
use Rattle.rje_folder.specs.FileNames.{IsNameOf}
use Rattle.rje_folder.specs.Keeping.{IsTemporary}
use Rattle.rje_folder.proofs.SecondNames.{dropped_adds, second_adds, tried_is_second, try_adds}
use Rattle.rje_folder.proofs.trying.add_name_of.Goals as goal

pub returns-in_err-tried-clause-asks : goal.returns-in_err-tried-clause-asks
returns-in_err-tried-clause-asks g c = λ told. try_adds g.D.FolderDisk.is_file g.D.FolderDisk.are_one (record { folder = c.args.folder.now; name = c.args.name.now; file = c.args.file }) (IsNameOf c.args.names) _ _ (c.try_name.ensures.asks told)

pub returns-in_default-clause-asks : goal.returns-in_default-clause-asks
returns-in_default-clause-asks g c = λ told. try_adds g.D.FolderDisk.is_file g.D.FolderDisk.are_one (record { folder = c.args.folder.now; name = c.args.name.now; file = c.args.file }) (IsNameOf c.args.names) _ _ (c.try_name.ensures.asks told)

pub returns-in_err-second-clause-asks : goal.returns-in_err-second-clause-asks
returns-in_err-second-clause-asks g c = λ told. second_adds g.D.FolderDisk.is_file g.D.FolderDisk.are_one (record { folder = c.args.folder.now; name = c.args.name.now; file = c.args.file }) (IsNameOf c.args.names) (string_bytes c.in-Some.field-0.path) _ _ _
    (c.try_name.ensures.asks told) (rw c.in-Some.is at c.in_ok-tried.ensures.named) (rw c.in-Some.is at c.in_ok-tried.ensures.file)
    (rw c.as_str.ensures.value at (c.name_tried.ensures.asks told))

pub returns-in-Ok-true-clause-asks : goal.returns-in-Ok-true-clause-asks
returns-in-Ok-true-clause-asks g c = λ told. second_adds g.D.FolderDisk.is_file g.D.FolderDisk.are_one (record { folder = c.args.folder.now; name = c.args.name.now; file = c.args.file }) (IsNameOf c.args.names) (string_bytes c.in-Some.field-0.path) _ _ _
    (c.try_name.ensures.asks told) (rw c.in-Some.is at c.in_ok-tried.ensures.named) (rw c.in-Some.is at c.in_ok-tried.ensures.file)
    (rw c.as_str.ensures.value at (c.name_tried.ensures.asks told))

pub returns-in_err-same-clause-asks : goal.returns-in_err-same-clause-asks
returns-in_err-same-clause-asks g c = λ told. dropped_adds g.D.FolderDisk.is_file g.D.FolderDisk.are_one (record { folder = c.args.folder.now; name = c.args.name.now; file = c.args.file }) (IsNameOf c.args.names) (string_bytes c.in_ok-second.second) _ _ _
    (second_adds g.D.FolderDisk.is_file g.D.FolderDisk.are_one (record { folder = c.args.folder.now; name = c.args.name.now; file = c.args.file }) (IsNameOf c.args.names) (string_bytes c.in-Some.field-0.path) _ _ _
    (c.try_name.ensures.asks told) (rw c.in-Some.is at c.in_ok-tried.ensures.named) (rw c.in-Some.is at c.in_ok-tried.ensures.file)
    (rw c.as_str.ensures.value at (c.name_tried.ensures.asks told)))
    c.in_ok-second.ensures.named (rw c.as_str-3.ensures.value at (c.drop_name-dropped.ensures.asks told))

pub returns-in-Ok-true-dropped-clause-asks : goal.returns-in-Ok-true-dropped-clause-asks
returns-in-Ok-true-dropped-clause-asks g c = λ told. dropped_adds g.D.FolderDisk.is_file g.D.FolderDisk.are_one (record { folder = c.args.folder.now; name = c.args.name.now; file = c.args.file }) (IsNameOf c.args.names) (string_bytes c.in_ok-second.second) _ _ _
    (second_adds g.D.FolderDisk.is_file g.D.FolderDisk.are_one (record { folder = c.args.folder.now; name = c.args.name.now; file = c.args.file }) (IsNameOf c.args.names) (string_bytes c.in-Some.field-0.path) _ _ _
    (c.try_name.ensures.asks told) (rw c.in-Some.is at c.in_ok-tried.ensures.named) (rw c.in-Some.is at c.in_ok-tried.ensures.file)
    (rw c.as_str.ensures.value at (c.name_tried.ensures.asks told)))
    c.in_ok-second.ensures.named (rw c.as_str-3.ensures.value at (c.drop_name-dropped.ensures.asks told))

pub returns-clause-asks : goal.returns-clause-asks
returns-clause-asks g c = λ told. dropped_adds g.D.FolderDisk.is_file g.D.FolderDisk.are_one (record { folder = c.args.folder.now; name = c.args.name.now; file = c.args.file }) (IsNameOf c.args.names) (string_bytes c.in_ok-second.second) _ _ _
    (second_adds g.D.FolderDisk.is_file g.D.FolderDisk.are_one (record { folder = c.args.folder.now; name = c.args.name.now; file = c.args.file }) (IsNameOf c.args.names) (string_bytes c.in-Some.field-0.path) _ _ _
    (c.try_name.ensures.asks told) (rw c.in-Some.is at c.in_ok-tried.ensures.named) (rw c.in-Some.is at c.in_ok-tried.ensures.file)
    (rw c.as_str.ensures.value at (c.name_tried.ensures.asks told)))
    c.in_ok-second.ensures.named (rw c.as_str-3.ensures.value at (c.drop_name-dropped.ensures.asks told))

pub returns-in-Ok-true-clause-second : goal.returns-in-Ok-true-clause-second
returns-in-Ok-true-clause-second g c = λ told outside. tried_is_second c.args.name.now (string_bytes c.in-Some.field-0.path) (string_bytes c.in_ok-second.second)
    (g.D.Disk.asked c.args.disk.now) (g.D.Disk.asked c.try_name.new.disk) (g.D.Disk.asked c.name_tried.new.disk)
    (λ same. outside (subst (IsTemporary c.args.folder.now) (sym same) (rw c.in-Some.is at c.in_ok-tried.ensures.named)))
    (rw c.in-Some.is at (c.in_ok-tried.ensures.linked told)) (rw c.as_str.ensures.value at (c.in_ok-second.ensures.has told))
