use Rattle.std.proofs.Common.{codes}
use Rattle.rje_cli.specs.CommandLine.{file_app, file_rule}
use Rattle.rje_cli.proofs.words.app.attempt.Goals as goal

pub returns : goal.returns
returns c = c.with_arg.ensures (file_app (codes "try") (codes "JOBS")) (file_rule (codes "SCRIPT")) c.in_ok-command.ensures c.file.ensures
