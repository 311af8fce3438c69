use Rattle.std.proofs.Common.{string_bytes}
use Rattle.rje_day.specs.declared.disposition.Disposition.{Disposition}
use Rattle.rje_spool.proofs.Given.{settles_promised}
use Rattle.rje_spool.proofs.given_file.GivenFile.stays_in_doubt.Goals as goal

pub returns-in-Promised-clause-asks : goal.returns-in-Promised-clause-asks
returns-in-Promised-clause-asks g c shows =
    settles_promised g.D.FolderDisk.are_one (string_bytes c.args.folder.now.path) (string_bytes c.args.self.now.name) c.as_str.result.now c.as_str-in-Promised.result.now Disposition.InDoubt c.args.self.now.place
    c.in-Promised.doubt (g.D.Disk.asked c.args.folder.now.disk) (g.D.Disk.asked c.leave_in_doubt-self.new.folder.disk) c.in-Promised.is c.as_str.ensures.value c.as_str-in-Promised.ensures.value (c.leave_in_doubt-self.ensures.asks shows)
