use Rattle.std.specs.Prelude.{String, string_bytes}
use Rattle.std.specs.declared.alloc.Global.{Global}
use Rattle.rje_store.proofs.Replacing.{added_twice}
use Rattle.rje_folder.specs.declared.folder.Folder.{Folder}
use Rattle.rje_folder.specs.Folder.{path_in, path_of}
use Rattle.rje_folder.specs.TakingOver.{MayCopy, MayTakeOver}
use Rattle.rje_folder.proofs.TakenOver.{copy_gives, copy_hidden, gives_takes, hide_takes, read_at, remove_gives, stands_hidden, taken_over}
use Rattle.rje_folder.proofs.taking_over.take_over.Goals as goal

pub returns-in_err-copy-clause-asks : goal.returns-in_err-copy-clause-asks
returns-in_err-copy-clause-asks g c = λ told. gives_takes g.D.Disk.opened g.D.File.Read.remaining g.D.FolderDisk.is_open g.D.FolderDisk.is_file g.D.FolderDisk.are_one c.args.station.now c.args.name.now _ _ (copy_gives g.D.Disk.opened g.D.File.Read.remaining g.D.FolderDisk.is_open g.D.FolderDisk.is_file g.D.FolderDisk.are_one c.args.station.now c.args.name.now _ _ (c.copied.ensures.asks told))

pub exchange-requires-clause-copy : goal.exchange-requires-clause-copy
exchange-requires-clause-copy g c = λ told. copy_hidden g.D.Disk.opened g.D.File.Read.remaining g.D.FolderDisk.is_open c.args.station.now c.args.name.now (string_bytes c.in-Ok.hidden) (string_bytes c.in_ok-copy.copy.path) c.in_ok-copy.copy.read _ _ (c.in-Ok.ensures.hidden told) (
  c.in_ok-copy.ensures.named told,
  c.in_ok-copy.ensures.whole told,
  read_at g.D.Disk.opened g.D.File.Read.remaining g.D.FolderDisk.is_open (path_in c.args.station.now Folder.Out c.args.name.now) c.in_ok-copy.copy.read (MayCopy (path_of c.args.station.now Folder.Refused)) _ _
      (c.in_ok-copy.ensures.read told) (c.copied.ensures.asks told),
)

pub returns-in-Ok-clause-asks : goal.returns-in-Ok-clause-asks
returns-in-Ok-clause-asks g c = λ told. added_twice (MayTakeOver g.D.Disk.opened g.D.File.Read.remaining g.D.FolderDisk.is_open g.D.FolderDisk.is_file g.D.FolderDisk.are_one c.args.station.now c.args.name.now) _ _ _ (added_twice (MayTakeOver g.D.Disk.opened g.D.File.Read.remaining g.D.FolderDisk.is_open g.D.FolderDisk.is_file g.D.FolderDisk.are_one c.args.station.now c.args.name.now) _ _ _ (gives_takes g.D.Disk.opened g.D.File.Read.remaining g.D.FolderDisk.is_open g.D.FolderDisk.is_file g.D.FolderDisk.are_one c.args.station.now c.args.name.now _ _ (copy_gives g.D.Disk.opened g.D.File.Read.remaining g.D.FolderDisk.is_open g.D.FolderDisk.is_file g.D.FolderDisk.are_one c.args.station.now c.args.name.now _ _ (c.copied.ensures.asks told))) (hide_takes g.D.Disk.opened g.D.File.Read.remaining g.D.FolderDisk.is_open g.D.FolderDisk.is_file g.D.FolderDisk.are_one c.args.station.now c.args.name.now _ _ (c.hide.ensures.asks told)))
    (gives_takes g.D.Disk.opened g.D.File.Read.remaining g.D.FolderDisk.is_open g.D.FolderDisk.is_file g.D.FolderDisk.are_one c.args.station.now c.args.name.now _ _ (c.exchange.ensures.asks told))

pub returns-clause-asks : goal.returns-clause-asks
returns-clause-asks g c = λ told. added_twice (MayTakeOver g.D.Disk.opened g.D.File.Read.remaining g.D.FolderDisk.is_open g.D.FolderDisk.is_file g.D.FolderDisk.are_one c.args.station.now c.args.name.now) _ _ _ (added_twice (MayTakeOver g.D.Disk.opened g.D.File.Read.remaining g.D.FolderDisk.is_open g.D.FolderDisk.is_file g.D.FolderDisk.are_one c.args.station.now c.args.name.now) _ _ _ (gives_takes g.D.Disk.opened g.D.File.Read.remaining g.D.FolderDisk.is_open g.D.FolderDisk.is_file g.D.FolderDisk.are_one c.args.station.now c.args.name.now _ _ (copy_gives g.D.Disk.opened g.D.File.Read.remaining g.D.FolderDisk.is_open g.D.FolderDisk.is_file g.D.FolderDisk.are_one c.args.station.now c.args.name.now _ _ (c.copied.ensures.asks told))) (hide_takes g.D.Disk.opened g.D.File.Read.remaining g.D.FolderDisk.is_open g.D.FolderDisk.is_file g.D.FolderDisk.are_one c.args.station.now c.args.name.now _ _ (c.hide.ensures.asks told)))
    (gives_takes g.D.Disk.opened g.D.File.Read.remaining g.D.FolderDisk.is_open g.D.FolderDisk.is_file g.D.FolderDisk.are_one c.args.station.now c.args.name.now _ _ (remove_gives c.remove.result g.D.Disk.opened g.D.File.Read.remaining g.D.FolderDisk.is_open g.D.FolderDisk.is_file g.D.FolderDisk.are_one c.args.station.now c.args.name.now (string_bytes c.in_ok-copy.copy.path) _ _ (c.in_ok-copy.ensures.named told) (rw c.as_str-in-Err.ensures.value at (c.remove.ensures told))))

pub returns-in-Ok-clause-taken : goal.returns-in-Ok-clause-taken
returns-in-Ok-clause-taken g c = λ told.
    let copy = string_bytes c.in_ok-copy.copy.path in
    taken_over (λ (path : String Global). string_bytes path) c.exchange.result g.D.Disk.opened g.D.File.Read.remaining g.D.FolderDisk.is_open (path_in c.args.station.now Folder.Out c.args.name.now) copy c.in_ok-copy.copy.read
    (g.D.Disk.asked c.args.disk.now) (g.D.Disk.asked c.copied.new.disk) (g.D.Disk.asked c.hide.new.disk) (g.D.Disk.asked c.exchange.new.disk)
    (c.in_ok-copy.ensures.read told) (c.in_ok-copy.ensures.made told)
    (stands_hidden c.args.station.now c.args.name.now (string_bytes c.in-Ok.hidden) copy _ _ (c.in-Ok.ensures.hidden told) (c.in_ok-copy.ensures.named told)) (c.exchange.ensures.put told) (c.exchange.ensures.stands told)
