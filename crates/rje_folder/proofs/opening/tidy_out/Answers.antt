use Rattle.rje_store.proofs.Replacing.{added_twice}
use Rattle.rje_folder.specs.Promising.{MayTidy}
use Rattle.rje_folder.proofs.opening.tidy_out.Goals as goal

pub returns-in-Err-2 : goal.returns-in-Err-2
returns-in-Err-2 g c = λ told. added_twice (MayTidy g.D.FolderDisk.are_one c.args.station.now) _ _ _ (c.loop-name.invariant told) (c.tidy_ready.ensures told)

pub loop-name-preserved : goal.loop-name-preserved
loop-name-preserved g c = λ told. added_twice (MayTidy g.D.FolderDisk.are_one c.args.station.now) _ _ _ (c.loop-name.invariant told) (c.tidy_ready.ensures told)
