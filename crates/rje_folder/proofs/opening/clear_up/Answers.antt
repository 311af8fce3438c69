use Rattle.rje_store.proofs.Replacing.{added_twice}
use Rattle.rje_folder.specs.Promising.{MayClear}
use Rattle.rje_folder.proofs.opening.clear_up.Goals as goal

pub returns-in_err-map_err : goal.returns-in_err-map_err
returns-in_err-map_err g c = λ told. added_twice (MayClear c.args.station.now) _ _ _ (c.loop-folder.invariant told) (c.clear-cleared.ensures told)

pub loop-folder-preserved : goal.loop-folder-preserved
loop-folder-preserved g c = λ told. added_twice (MayClear c.args.station.now) _ _ _ (c.loop-folder.invariant told) (c.clear-cleared.ensures told)
