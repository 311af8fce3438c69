use Rattle.std.proofs.Common.{codes}
use Rattle.rje_cli.specs.CommandLine.{flag_rule}
use Rattle.rje_cli.proofs.words.app.with_devices.Goals as goal

pub returns : goal.returns
returns c = λ app is.
    let printer = c.in_ok-command.ensures app (flag_rule (codes "printer")) is c.flag-printer.ensures in
    let punch = c.in_ok-command-2.ensures _ (flag_rule (codes "punch")) printer c.flag-punch.ensures in
    c.with_arg-3.ensures _ (flag_rule (codes "transparent")) punch c.flag-transparent.ensures
