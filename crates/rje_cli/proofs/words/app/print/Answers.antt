use Rattle.std.proofs.Common.{codes}
use Rattle.rje_cli.specs.CommandLine.{file_app, flag_rule}
use Rattle.rje_cli.proofs.words.app.print.Goals as goal

pub returns : goal.returns
returns c =
    let choice = c.in_ok-command-2.ensures (file_app (codes "print") (codes "JOBS")) c.in_ok-command.ensures in
    c.with_arg.ensures _ (flag_rule (codes "raw")) choice c.flag.ensures
