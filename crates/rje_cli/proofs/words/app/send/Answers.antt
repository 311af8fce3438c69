use Rattle.std.proofs.Common.{codes}
use Rattle.rje_cli.specs.CommandLine.{file_app}
use Rattle.rje_cli.proofs.words.app.send.Goals as goal

pub returns : goal.returns
returns c = c.with_connection.ensures (file_app (codes "send") (codes "JOBS")) c.in_ok-command.ensures
