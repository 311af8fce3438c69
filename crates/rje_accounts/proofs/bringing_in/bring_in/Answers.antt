use Rattle.std.proofs.Common.{◌∙◌, inl, inr}
use Rattle.rje_store.proofs.Replacing.{added_weaker}
use Rattle.rje_folder.specs.declared.folder.Folder.{Folder}
use Rattle.rje_folder.specs.Folder.{path_in}
use Rattle.rje_folder.specs.Moving.{MayDrop}
use Rattle.rje_settle.specs.declared.settle_name.SettleName.{SettleName}
use Rattle.rje_store.specs.Replacing.{Adds}
use Rattle.rje_accounts.specs.Inside.Calls.{IsInIn}
use Rattle.rje_accounts.specs.BringingIn.{MayBringIn, MayRename}
use Rattle.rje_accounts.specs.Paths.{in_path, settle_path}
use Rattle.rje_accounts.proofs.Brought.{settle_is_not_in}
use Rattle.rje_accounts.proofs.bringing_in.bring_in.Goals as goal

pub move_free-requires : goal.move_free-requires
move_free-requires g c = λ same. settle_is_not_in c.args.station.now c.args.stamp.now c.args.number (SettleName.Come c.args.number) (rw (c.as_str-2.ensures.value ∙ c.in_ok-come.ensures, c.as_str-3.ensures.value ∙ c.in_ok-path-2.ensures) at same)

pub returns-in_err-move_free-clause-asks : goal.returns-in_err-move_free-clause-asks
returns-in_err-move_free-clause-asks g c = λ told.
    let station = c.args.station.now in
    added_weaker (MayRename (settle_path station (SettleName.Come c.args.number)) (in_path station c.args.stamp.now c.args.number)) (MayBringIn g.D.FolderDisk.are_one station c.args.number c.args.stamp.now) (λ call before may. inl may) _ _
    (rw (c.as_str-2.ensures.value ∙ c.in_ok-come.ensures, c.as_str-3.ensures.value ∙ c.in_ok-path-2.ensures) at (c.move_free.ensures.asks told))

pub returns-clause-asks : goal.returns-clause-asks
returns-clause-asks g c = λ told.
    let station = c.args.station.now in
    added_weaker (MayRename (settle_path station (SettleName.Come c.args.number)) (in_path station c.args.stamp.now c.args.number)) (MayBringIn g.D.FolderDisk.are_one station c.args.number c.args.stamp.now) (λ call before may. inl may) _ _
    (rw (c.as_str-2.ensures.value ∙ c.in_ok-come.ensures, c.as_str-3.ensures.value ∙ c.in_ok-path-2.ensures) at (c.move_free.ensures.asks told))

pub returns-in-Some-clause-asks : goal.returns-in-Some-clause-asks
returns-in-Some-clause-asks g c = λ told.
    let station = c.args.station.now in
    let come = settle_path station (SettleName.Come c.args.number) in
    let inside : IsInIn station c.in-Some.path = rw c.in-Some.is at c.in_ok-path.ensures in
    let drops = MayDrop g.D.FolderDisk.are_one (path_in station Folder.In inside.0) come in
    let asked : Adds drops (g.D.Disk.asked c.args.disk.now) (g.D.Disk.asked c.drop_second.new.disk) = rw (inside.1, c.as_str-in-Some.ensures.value ∙ c.in_ok-come.ensures) at (c.drop_second.ensures.asks told) in
    added_weaker drops (MayBringIn g.D.FolderDisk.are_one station c.args.number c.args.stamp.now) (λ call before may. inr (inside.0, may)) _ _ asked
