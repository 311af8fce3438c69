use Rattle.std.proofs.Common.{◌∙◌}
use Rattle.rje_folder.proofs.Opened.{sync_opens}
use Rattle.rje_folder.proofs.opening.sync_folders.Goals as goal

pub returns-clause-asks : goal.returns-clause-asks
returns-clause-asks g c = λ told. sync_opens g.D.FolderDisk.are_one c.args.station.now _ _
    (rw (c.in_ok-folder.ensures told ∙ c.as_str.ensures.value ∙ c.in_ok-first.ensures) at (c.sync_names.ensures.asks told))

pub returns-clause-on_disk : goal.returns-clause-on_disk
returns-clause-on_disk g c = λ told. rw (c.in_ok-folder.ensures told ∙ c.as_str.ensures.value ∙ c.in_ok-first.ensures) at (c.sync_names.ensures.synced told)
