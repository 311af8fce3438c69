use Rattle.std.proofs.Common.{inr, refl, rules}
use Rattle.std.specs.Prelude.{string_bytes}
use Rattle.rje_store.specs.Disk.{Remove}
use Rattle.rje_store.proofs.Replacing.{added_call}
use Rattle.rje_folder.specs.FileNames.{IsNameOf}
use Rattle.rje_folder.specs.Trying.{MayNameTried}
use Rattle.rje_folder.proofs.SecondNames.{given_up_adds, link_names, named_adds}
use Rattle.rje_folder.proofs.trying.name_tried.Goals as goal

pub returns-in-Err-clause-asks : goal.returns-in-Err-clause-asks
returns-in-Err-clause-asks g c = λ told.
    added_call (MayNameTried g.D.FolderDisk.are_one c.args.tried.now (IsNameOf c.args.names)) _ _ _ c.remove.result (Remove c.args.tried.now)
    (link_names g.D.FolderDisk.are_one c.args.tried.now (IsNameOf c.args.names) _ _ (c.link_free.ensures.asks told)) (c.remove.ensures told) (inr (inr refl))

pub returns-in-Ok-true-clause-asks : goal.returns-in-Ok-true-clause-asks
returns-in-Ok-true-clause-asks g c = λ told.
    named_adds g.D.FolderDisk.are_one c.args.tried.now (string_bytes c.in-Ok.second.path) (IsNameOf c.args.names) _ _ _ c.in-Ok.ensures.named (c.link_free.ensures.asks told) (c.spare_tried-spared.ensures.asks told)

pub returns-in-Ok-true-clause-has : goal.returns-in-Ok-true-clause-has
returns-in-Ok-true-clause-has g c = λ told. (g.D.Disk.asked c.link_free.new.disk, c.in-Ok.ensures.linked told, c.in-Ok-true.ensures.spared told (search rules))

pub returns-in_err-spared-clause-asks : goal.returns-in_err-spared-clause-asks
returns-in_err-spared-clause-asks g c = λ told.
    given_up_adds g.D.FolderDisk.are_one c.args.tried.now (string_bytes c.in-Ok.second.path) (IsNameOf c.args.names) c.remove-2.result _ _ _ _ _ c.in-Ok.ensures.named (c.link_free.ensures.asks told) (c.spare_tried-spared.ensures.asks told)
    (rw c.as_str.ensures.value at (c.drop_name.ensures.asks told)) (c.remove-2.ensures told)

pub returns-clause-asks : goal.returns-clause-asks
returns-clause-asks g c = λ told.
    given_up_adds g.D.FolderDisk.are_one c.args.tried.now (string_bytes c.in-Ok.second.path) (IsNameOf c.args.names) c.remove-2.result _ _ _ _ _ c.in-Ok.ensures.named (c.link_free.ensures.asks told) (c.spare_tried-spared.ensures.asks told)
    (rw c.as_str.ensures.value at (c.drop_name.ensures.asks told)) (c.remove-2.ensures told)
