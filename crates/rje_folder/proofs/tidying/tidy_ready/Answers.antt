use Rattle.std.proofs.Common.{inl}
use Rattle.std.specs.Prelude.{string_bytes}
use Rattle.rje_store.proofs.Replacing.{added_weaker}
use Rattle.rje_folder.specs.Promising.{IsKeptElsewhere, MayTidy}
use Rattle.rje_folder.specs.TakingOut.{MayTakeOut}
use Rattle.rje_folder.proofs.tidying.tidy_ready.Goals as goal

pub returns-in_err-take_from_out-in-Some : goal.returns-in_err-take_from_out-in-Some
returns-in_err-take_from_out-in-Some g c = λ told.
    let kept = string_bytes c.in-Some.kept in
    let named : IsKeptElsewhere c.args.station.now c.args.name.now kept = rw c.in-Some.is at c.in_ok-kept.ensures in
    added_weaker (MayTakeOut g.D.FolderDisk.are_one c.args.station.now c.args.name.now kept) (MayTidy g.D.FolderDisk.are_one c.args.station.now)
    (λ call before may. inl (c.args.name.now, kept, named, may)) _ _
    (rw c.as_str-in-Some.ensures.value at (c.take_from_out.ensures.asks told))

pub returns-in-Some : goal.returns-in-Some
returns-in-Some g c = λ told.
    let kept = string_bytes c.in-Some.kept in
    let named : IsKeptElsewhere c.args.station.now c.args.name.now kept = rw c.in-Some.is at c.in_ok-kept.ensures in
    added_weaker (MayTakeOut g.D.FolderDisk.are_one c.args.station.now c.args.name.now kept) (MayTidy g.D.FolderDisk.are_one c.args.station.now)
    (λ call before may. inl (c.args.name.now, kept, named, may)) _ _
    (rw c.as_str-in-Some.ensures.value at (c.take_from_out.ensures.asks told))
