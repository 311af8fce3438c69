use Rattle.std.proofs.Common.{◌≤◌, ◌<◌, ◌∙◌, inl, inr, arith}
use Rattle.rje_store.specs.Replacing.{Adds}
use Rattle.rje_store.proofs.Replacing.{added_weaker}
use Rattle.rje_settle.specs.declared.settle_name.SettleName.{SettleName}
use Rattle.rje_accounts.specs.BringingIn.{MayBringIn}
use Rattle.rje_accounts.specs.Finishing.{MayFinish}
use Rattle.rje_accounts.specs.Paths.{settle_path}
use Rattle.rje_accounts.specs.Promising.{MayTakeAway}
use Rattle.rje_accounts.proofs.finishing.finish_job.Goals as goal

pub returns-in_err-brought : goal.returns-in_err-brought
returns-in_err-brought g c = λ told.
    let low : c.args.number ≤ c.args.kept.kept = omega arith in
    added_weaker (MayBringIn g.D.FolderDisk.are_one c.args.station.now c.args.number c.args.stamp.now) (MayFinish g.D.FolderDisk.are_one c.args.station.now c.args.stamp.now c.args.kept c.args.number)
    (λ call before may. inl (low, may)) _ _ (c.bring_in.ensures.asks told)

pub returns-then-number-kept : goal.returns-then-number-kept
returns-then-number-kept g c = λ told.
    let low : c.args.number ≤ c.args.kept.kept = omega arith in
    added_weaker (MayBringIn g.D.FolderDisk.are_one c.args.station.now c.args.number c.args.stamp.now) (MayFinish g.D.FolderDisk.are_one c.args.station.now c.args.stamp.now c.args.kept c.args.number)
    (λ call before may. inl (low, may)) _ _ (c.bring_in.ensures.asks told)

pub returns-in_err-take_away : goal.returns-in_err-take_away
returns-in_err-take_away g c = λ told.
    let high : c.args.kept.kept < c.args.number = omega arith in
    added_weaker (MayTakeAway (settle_path c.args.station.now (SettleName.Come c.args.number))) (MayFinish g.D.FolderDisk.are_one c.args.station.now c.args.stamp.now c.args.kept c.args.number)
    (λ call before may. inr (high, may)) _ _ (rw (c.as_str.ensures.value ∙ c.in_ok-path.ensures) at (c.take_away.ensures.asks told))

pub returns : goal.returns
returns g c = λ told.
    let high : c.args.kept.kept < c.args.number = omega arith in
    added_weaker (MayTakeAway (settle_path c.args.station.now (SettleName.Come c.args.number))) (MayFinish g.D.FolderDisk.are_one c.args.station.now c.args.stamp.now c.args.kept c.args.number)
    (λ call before may. inr (high, may)) _ _ (rw (c.as_str.ensures.value ∙ c.in_ok-path.ensures) at (c.take_away.ensures.asks told))
