-- What a promise asks of the disk at each way out, and that the file has its second name on disk after `Ok`.
-- The calls of the four steps are joined by `added_twice`, each weakened to what a promise may ask; the lemmas of Seconds follow the name.
use Rattle.std.proofs.Common.{◌≡◌, ◌∙◌, inl, inr, refl, rules, ap, List}
use Rattle.rje_store.proofs.Replacing.{added_twice, added_weaker}
use Rattle.rje_store.specs.Replacing.{Adds}
use Rattle.rje_folder.specs.declared.folder.Folder.{Folder}
use Rattle.rje_folder.specs.Folder.{path_in}
use Rattle.rje_settle.specs.declared.settle_name.SettleName.{SettleName}
use Rattle.rje_accounts.specs.Paths.{settle_path, tried_path}
use Rattle.rje_accounts.specs.Promising.{MayName, MayPromise, MayTry, Promising}
use Rattle.rje_accounts.proofs.Seconds.{IsRemoval, out_is_not_settle, out_is_not_tried, second_since, tried_is}
use Rattle.rje_accounts.proofs.promising.promise.Goals as goal

pub returns-in_err-clear_tried-clause-asks : goal.returns-in_err-clear_tried-clause-asks
returns-in_err-clear_tried-clause-asks g c = λ told.
    let station = c.args.station.now in
    let may = MayPromise g.D.FolderDisk.is_file station (record { name = c.args.name.now; file = c.args.file; promise = c.args.promise }) in
    added_weaker (IsRemoval (tried_path station)) may (λ call before e. inl (inr e)) _ _ (rw (c.as_str.ensures.value ∙ c.in_ok-tried.ensures) at (c.clear_tried.ensures.asks told))

pub returns-in_err-try_name-clause-asks : goal.returns-in_err-try_name-clause-asks
returns-in_err-try_name-clause-asks g c = λ told.
    let station = c.args.station.now in
    let may = MayPromise g.D.FolderDisk.is_file station (record { name = c.args.name.now; file = c.args.file; promise = c.args.promise }) in
    added_twice may _ _ _
    (added_weaker (IsRemoval (tried_path station)) may (λ call before e. inl (inr e)) _ _ (rw (c.as_str.ensures.value ∙ c.in_ok-tried.ensures) at (c.clear_tried.ensures.asks told)))
    (added_weaker (MayTry (path_in station Folder.Out c.args.name.now) (tried_path station)) may (λ call before m. inl m) _ _
    (rw (c.as_str-2.ensures.value ∙ c.in_ok-ready.ensures, c.as_str-3.ensures.value ∙ c.in_ok-tried.ensures) at (c.try_name.ensures.asks told)))

pub returns-then-not-branch-clause-asks : goal.returns-then-not-branch-clause-asks
returns-then-not-branch-clause-asks g c = λ told.
    let station = c.args.station.now in
    let may = MayPromise g.D.FolderDisk.is_file station (record { name = c.args.name.now; file = c.args.file; promise = c.args.promise }) in
    added_twice may _ _ _
    (added_weaker (IsRemoval (tried_path station)) may (λ call before e. inl (inr e)) _ _ (rw (c.as_str.ensures.value ∙ c.in_ok-tried.ensures) at (c.clear_tried.ensures.asks told)))
    (added_weaker (MayTry (path_in station Folder.Out c.args.name.now) (tried_path station)) may (λ call before m. inl m) _ _
    (rw (c.as_str-2.ensures.value ∙ c.in_ok-ready.ensures, c.as_str-3.ensures.value ∙ c.in_ok-tried.ensures) at (c.try_name.ensures.asks told)))

pub returns-in_err-name_tried-clause-asks : goal.returns-in_err-name_tried-clause-asks
returns-in_err-name_tried-clause-asks g c = λ told.
    let station = c.args.station.now in
    let may = MayPromise g.D.FolderDisk.is_file station (record { name = c.args.name.now; file = c.args.file; promise = c.args.promise }) in
    added_twice may _ _ _ (added_twice may _ _ _
    (added_weaker (IsRemoval (tried_path station)) may (λ call before e. inl (inr e)) _ _ (rw (c.as_str.ensures.value ∙ c.in_ok-tried.ensures) at (c.clear_tried.ensures.asks told)))
    (added_weaker (MayTry (path_in station Folder.Out c.args.name.now) (tried_path station)) may (λ call before m. inl m) _ _
    (rw (c.as_str-2.ensures.value ∙ c.in_ok-ready.ensures, c.as_str-3.ensures.value ∙ c.in_ok-tried.ensures) at (c.try_name.ensures.asks told))))
    (added_weaker (MayName g.D.FolderDisk.is_file (tried_path station) (settle_path station (SettleName.Out c.args.promise)) c.args.file) may (λ call before m. inr m) _ _
    (rw (c.as_str-4.ensures.value ∙ c.in_ok-tried.ensures, c.as_str-5.ensures.value ∙ c.in_ok-path.ensures) at (c.name_tried.ensures.asks told)))

pub returns-then-not-branch-2-clause-asks : goal.returns-then-not-branch-2-clause-asks
returns-then-not-branch-2-clause-asks g c = λ told.
    let station = c.args.station.now in
    let may = MayPromise g.D.FolderDisk.is_file station (record { name = c.args.name.now; file = c.args.file; promise = c.args.promise }) in
    added_twice may _ _ _ (added_twice may _ _ _
    (added_weaker (IsRemoval (tried_path station)) may (λ call before e. inl (inr e)) _ _ (rw (c.as_str.ensures.value ∙ c.in_ok-tried.ensures) at (c.clear_tried.ensures.asks told)))
    (added_weaker (MayTry (path_in station Folder.Out c.args.name.now) (tried_path station)) may (λ call before m. inl m) _ _
    (rw (c.as_str-2.ensures.value ∙ c.in_ok-ready.ensures, c.as_str-3.ensures.value ∙ c.in_ok-tried.ensures) at (c.try_name.ensures.asks told))))
    (added_weaker (MayName g.D.FolderDisk.is_file (tried_path station) (settle_path station (SettleName.Out c.args.promise)) c.args.file) may (λ call before m. inr m) _ _
    (rw (c.as_str-4.ensures.value ∙ c.in_ok-tried.ensures, c.as_str-5.ensures.value ∙ c.in_ok-path.ensures) at (c.name_tried.ensures.asks told)))

pub returns-clause-asks : goal.returns-clause-asks
returns-clause-asks g c = λ told.
    let station = c.args.station.now in
    let may = MayPromise g.D.FolderDisk.is_file station (record { name = c.args.name.now; file = c.args.file; promise = c.args.promise }) in
    added_twice may _ _ _ (added_twice may _ _ _
    (added_weaker (IsRemoval (tried_path station)) may (λ call before e. inl (inr e)) _ _ (rw (c.as_str.ensures.value ∙ c.in_ok-tried.ensures) at (c.clear_tried.ensures.asks told)))
    (added_weaker (MayTry (path_in station Folder.Out c.args.name.now) (tried_path station)) may (λ call before m. inl m) _ _
    (rw (c.as_str-2.ensures.value ∙ c.in_ok-ready.ensures, c.as_str-3.ensures.value ∙ c.in_ok-tried.ensures) at (c.try_name.ensures.asks told))))
    (added_weaker (MayName g.D.FolderDisk.is_file (tried_path station) (settle_path station (SettleName.Out c.args.promise)) c.args.file) may (λ call before m. inr m) _ _
    (rw (c.as_str-4.ensures.value ∙ c.in_ok-tried.ensures, c.as_str-5.ensures.value ∙ c.in_ok-path.ensures) at (c.name_tried.ensures.asks told)))

pub returns-clause-second : goal.returns-clause-second
returns-clause-second g c = λ told.
    let station = c.args.station.now in
    let ready = path_in station Folder.Out c.args.name.now in
    let cleared = (rw (c.as_str.ensures.value ∙ c.in_ok-tried.ensures) at (c.clear_tried.ensures.others ready told)) (out_is_not_tried station c.args.name.now) in
    let linked = rw (c.as_str-2.ensures.value ∙ c.in_ok-ready.ensures, c.as_str-3.ensures.value ∙ c.in_ok-tried.ensures) at (c.in_ok-try_name.ensures.linked told (search rules)) in
    let named = rw (c.as_str-4.ensures.value ∙ c.in_ok-tried.ensures, c.as_str-5.ensures.value ∙ c.in_ok-path.ensures) at (c.in_ok-name_tried.ensures.named told (search rules)) in
    let asked = g.D.Disk.asked in
    second_since ready (settle_path station (SettleName.Out c.args.promise)) (asked c.args.disk.now) (asked c.clear_tried.new.disk) (asked c.name_tried.new.disk) cleared
    (tried_is ready (tried_path station) (settle_path station (SettleName.Out c.args.promise)) (asked c.clear_tried.new.disk) (asked c.try_name.new.disk) (asked c.name_tried.new.disk) (out_is_not_tried station c.args.name.now) (out_is_not_settle station c.args.name.now (SettleName.Out c.args.promise)) linked named)
