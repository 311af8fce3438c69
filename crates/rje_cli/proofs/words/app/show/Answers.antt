use Rattle.std.proofs.Common.{codes}
use Rattle.rje_cli.specs.CommandLine.{file_app, flag_rule, number_rule}
use Rattle.rje_cli.proofs.words.app.show.Goals as goal

pub returns : goal.returns
returns c =
    let number = c.in_ok-command-2.ensures (file_app (codes "show") (codes "JOBS")) number_rule c.in_ok-command.ensures c.number.ensures in
    c.with_arg-2.ensures _ (flag_rule (codes "records")) number c.flag.ensures
