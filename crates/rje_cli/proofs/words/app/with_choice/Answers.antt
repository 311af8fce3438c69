use Rattle.std.proofs.Common.{codes}
use Rattle.rje_cli.specs.CommandLine.{flag_rule, number_rule}
use Rattle.rje_cli.proofs.words.app.with_choice.Goals as goal

pub returns : goal.returns
returns c = λ app is.
    let number = c.in_ok-command.ensures app number_rule is c.number.ensures in
    let printer = c.in_ok-command-2.ensures _ (flag_rule (codes "printer")) number c.flag-printer.ensures in
    c.with_arg-3.ensures _ (flag_rule (codes "punch")) printer c.flag.ensures
