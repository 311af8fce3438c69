use Rattle.std.proofs.Common.{codes}
use Rattle.rje_cli.specs.CommandLine.{file_app, file_rule, flag_rule, numbers_rule}
use Rattle.rje_cli.proofs.words.app.take.Goals as goal

pub returns : goal.returns
returns c =
    let new = c.in_ok-command-2.ensures (file_app (codes "take") (codes "JOBS")) (file_rule (codes "NEW")) c.in_ok-command.ensures c.file.ensures in
    let numbers = c.in_ok-command-3.ensures _ numbers_rule new c.numbers_of.ensures in
    c.with_arg-3.ensures _ (flag_rule (codes "append")) numbers c.flag.ensures
