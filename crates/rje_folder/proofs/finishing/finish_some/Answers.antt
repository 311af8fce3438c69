use Rattle.rje_store.proofs.Replacing.{added_twice}
use Rattle.rje_folder.specs.TakingOver.{MayFinish}
use Rattle.rje_folder.proofs.finishing.finish_some.Goals as goal

pub loop-hidden-preserved : goal.loop-hidden-preserved
loop-hidden-preserved g c = λ told. added_twice (MayFinish g.D.Disk.opened g.D.File.Read.remaining g.D.FolderDisk.is_open g.D.FolderDisk.is_file g.D.FolderDisk.are_one c.args.station.now) _ _ _ (c.loop-hidden.invariant told) (c.finish_one-path.ensures told)

pub returns-in_err-note : goal.returns-in_err-note
returns-in_err-note g c = λ told. added_twice (MayFinish g.D.Disk.opened g.D.File.Read.remaining g.D.FolderDisk.is_open g.D.FolderDisk.is_file g.D.FolderDisk.are_one c.args.station.now) _ _ _ (c.loop-hidden.invariant told) (c.finish_one-path.ensures told)
