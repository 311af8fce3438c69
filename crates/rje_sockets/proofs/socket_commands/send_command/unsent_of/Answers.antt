use Rattle.std.proofs.Common.{rules}
use Rattle.std.specs.List.{All}
use Rattle.rje_files.specs.JobFile.{HasEntries}
use Rattle.rje_files.specs.Unsent.{CanPass}
use Rattle.rje_sockets.proofs.socket_commands.send_command.unsent_of.Goals as goal

pub returns-clause-marks : goal.returns-clause-marks
returns-clause-marks c =
    let marks = rw c.as_slice-2.ensures.value at c.in_ok-places.ensures.marks in
    let has : HasEntries c.in_ok-entries.entries.items c.args.file.now = c.in_ok-entries.ensures.file in
    let pass : All CanPass c.in_ok-entries.entries.items = search rules in
    marks c.args.file.now has pass

pub returns-in-Some-clause-fault : goal.returns-in-Some-clause-fault
returns-in-Some-clause-fault c = search rules

pub returns-clause-left : goal.returns-clause-left
returns-clause-left c = search rules
