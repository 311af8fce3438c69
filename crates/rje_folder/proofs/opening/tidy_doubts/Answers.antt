use Rattle.rje_store.proofs.Replacing.{added_twice}
use Rattle.rje_folder.specs.Promising.{MayTidy}
use Rattle.rje_folder.proofs.opening.tidy_doubts.Goals as goal

pub returns-in_err-map_err : goal.returns-in_err-map_err
returns-in_err-map_err g c = λ told. added_twice (MayTidy g.D.FolderDisk.are_one c.args.station.now) _ _ _ (c.loop-name.invariant told) (c.tidy_doubt-tidied.ensures told)

pub loop-name-preserved : goal.loop-name-preserved
loop-name-preserved g c = λ told. added_twice (MayTidy g.D.FolderDisk.are_one c.args.station.now) _ _ _ (c.loop-name.invariant told) (c.tidy_doubt-tidied.ensures told)
