use Rattle.std.proofs.Common.{codes}
use Rattle.rje_cli.specs.CommandLine.{flag_rule}
use Rattle.rje_cli.proofs.words.app.with_existing.Goals as goal

pub returns : goal.returns
returns c = λ app is.
    let new = c.in_ok-command.ensures app (flag_rule (codes "new")) is c.flag.ensures in
    c.with_arg-2.ensures _ (flag_rule (codes "append")) new c.flag-2.ensures
