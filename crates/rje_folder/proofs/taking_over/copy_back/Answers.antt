use Rattle.rje_store.proofs.Replacing.{added_twice}
use Rattle.rje_folder.specs.declared.folder.Folder.{Folder}
use Rattle.rje_folder.specs.Folder.{path_in, path_of}
use Rattle.rje_folder.specs.TakingOver.{MayCopy, MayGiveBack}
use Rattle.rje_folder.proofs.TakenOver.{copy_gives, read_at}
use Rattle.rje_folder.proofs.taking_over.copy_back.Goals as goal

pub returns-in_err-copy : goal.returns-in_err-copy
returns-in_err-copy g c = λ told. copy_gives g.D.Disk.opened g.D.File.Read.remaining g.D.FolderDisk.is_open g.D.FolderDisk.is_file g.D.FolderDisk.are_one c.args.station.now c.args.name.now _ _ (c.copied.ensures.asks told)

pub returns-in_err-path : goal.returns-in_err-path
returns-in_err-path g c = λ told. added_twice (MayGiveBack g.D.Disk.opened g.D.File.Read.remaining g.D.FolderDisk.is_open g.D.FolderDisk.is_file g.D.FolderDisk.are_one c.args.station.now c.args.name.now) _ _ _ (copy_gives g.D.Disk.opened g.D.File.Read.remaining g.D.FolderDisk.is_open g.D.FolderDisk.is_file g.D.FolderDisk.are_one c.args.station.now c.args.name.now _ _ (c.copied.ensures.asks told)) (c.put_in.ensures.asks told)

pub returns-in-Some : goal.returns-in-Some
returns-in-Some g c = λ told. added_twice (MayGiveBack g.D.Disk.opened g.D.File.Read.remaining g.D.FolderDisk.is_open g.D.FolderDisk.is_file g.D.FolderDisk.are_one c.args.station.now c.args.name.now) _ _ _ (copy_gives g.D.Disk.opened g.D.File.Read.remaining g.D.FolderDisk.is_open g.D.FolderDisk.is_file g.D.FolderDisk.are_one c.args.station.now c.args.name.now _ _ (c.copied.ensures.asks told)) (c.put_in.ensures.asks told)

pub returns : goal.returns
returns g c = λ told. added_twice (MayGiveBack g.D.Disk.opened g.D.File.Read.remaining g.D.FolderDisk.is_open g.D.FolderDisk.is_file g.D.FolderDisk.are_one c.args.station.now c.args.name.now) _ _ _ (copy_gives g.D.Disk.opened g.D.File.Read.remaining g.D.FolderDisk.is_open g.D.FolderDisk.is_file g.D.FolderDisk.are_one c.args.station.now c.args.name.now _ _ (c.copied.ensures.asks told)) (c.put_in.ensures.asks told)

pub put_in-requires-clause-copy : goal.put_in-requires-clause-copy
put_in-requires-clause-copy g c = λ told. (
  c.in_ok-copy.ensures.named told,
  c.in_ok-copy.ensures.whole told,
  read_at g.D.Disk.opened g.D.File.Read.remaining g.D.FolderDisk.is_open (path_in c.args.station.now Folder.Out c.args.hidden.now) c.in_ok-copy.copy.read (MayCopy (path_of c.args.station.now Folder.Refused)) _ _
      (c.in_ok-copy.ensures.read told) (c.copied.ensures.asks told),
)
