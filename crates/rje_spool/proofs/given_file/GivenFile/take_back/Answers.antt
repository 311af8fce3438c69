use Rattle.std.proofs.Common.{string_bytes}
use Rattle.rje_day.specs.declared.disposition.Disposition.{Disposition}
use Rattle.rje_spool.proofs.Given.{settles_promised}
use Rattle.rje_spool.proofs.given_file.GivenFile.take_back.Goals as goal

pub returns-in_err-settled-clause-asks : goal.returns-in_err-settled-clause-asks
returns-in_err-settled-clause-asks g c shows =
    settles_promised g.D.FolderDisk.are_one (string_bytes c.args.folder.now.path) (string_bytes c.args.self.now.name) c.as_str.result.now c.as_str-in-Promised.result.now Disposition.Ready c.args.self.now.place
    c.in-Promised.doubt (g.D.Disk.asked c.args.folder.now.disk) (g.D.Disk.asked c.settle.new.self.disk) c.in-Promised.is c.as_str.ensures.value c.as_str-in-Promised.ensures.value (c.settle.ensures.asks shows)

pub returns-then-ne-clause-asks : goal.returns-then-ne-clause-asks
returns-then-ne-clause-asks g c shows =
    settles_promised g.D.FolderDisk.are_one (string_bytes c.args.folder.now.path) (string_bytes c.args.self.now.name) c.as_str.result.now c.as_str-in-Promised.result.now Disposition.Ready c.args.self.now.place
    c.in-Promised.doubt (g.D.Disk.asked c.args.folder.now.disk) (g.D.Disk.asked c.settle.new.self.disk) c.in-Promised.is c.as_str.ensures.value c.as_str-in-Promised.ensures.value (c.settle.ensures.asks shows)

pub returns-else-ne-clause-asks : goal.returns-else-ne-clause-asks
returns-else-ne-clause-asks g c shows =
    settles_promised g.D.FolderDisk.are_one (string_bytes c.args.folder.now.path) (string_bytes c.args.self.now.name) c.as_str.result.now c.as_str-in-Promised.result.now Disposition.Ready c.args.self.now.place
    c.in-Promised.doubt (g.D.Disk.asked c.args.folder.now.disk) (g.D.Disk.asked c.settle.new.self.disk) c.in-Promised.is c.as_str.ensures.value c.as_str-in-Promised.ensures.value (c.settle.ensures.asks shows)
