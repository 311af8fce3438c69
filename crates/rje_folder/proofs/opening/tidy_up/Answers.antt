use Rattle.rje_store.proofs.Replacing.{added_twice}
use Rattle.rje_folder.specs.Promising.{MayTidy}
use Rattle.rje_folder.proofs.opening.tidy_up.Goals as goal

pub returns : goal.returns
returns g c = λ told. added_twice (MayTidy g.D.FolderDisk.are_one c.args.station.now) _ _ _ (c.tidy_out.ensures told) (c.tidy_doubts.ensures told)
