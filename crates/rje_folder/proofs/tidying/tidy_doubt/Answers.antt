use Rattle.rje_store.proofs.Replacing.{added_twice}
use Rattle.rje_folder.specs.Promising.{MayTidy}
use Rattle.rje_folder.proofs.tidying.tidy_doubt.Goals as goal

pub returns-in_err-tidy_counted : goal.returns-in_err-tidy_counted
returns-in_err-tidy_counted g c = λ told. added_twice (MayTidy g.D.FolderDisk.are_one c.args.station.now) _ _ _ (c.loop-base.invariant told) (c.tidy_counted.ensures told)

pub returns-then-branch-2 : goal.returns-then-branch-2
returns-then-branch-2 g c = λ told. added_twice (MayTidy g.D.FolderDisk.are_one c.args.station.now) _ _ _ (c.loop-base.invariant told) (c.tidy_counted.ensures told)

pub loop-base-preserved : goal.loop-base-preserved
loop-base-preserved g c = λ told. added_twice (MayTidy g.D.FolderDisk.are_one c.args.station.now) _ _ _ (c.loop-base.invariant told) (c.tidy_counted.ensures told)
