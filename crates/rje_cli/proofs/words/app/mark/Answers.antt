use Rattle.std.proofs.Common.{codes}
use Rattle.rje_cli.specs.CommandLine.{file_app, flag_rule, numbers_rule}
use Rattle.rje_cli.proofs.words.app.mark.Goals as goal

pub returns : goal.returns
returns c =
    let numbers = c.in_ok-command-2.ensures (file_app (codes "mark") (codes "JOBS")) numbers_rule c.in_ok-command.ensures c.numbers_of.ensures in
    let sent = c.in_ok-command-3.ensures _ (flag_rule (codes "sent")) numbers c.flag.ensures in
    c.with_arg-3.ensures _ (flag_rule (codes "waiting")) sent c.flag-2.ensures
