use Rattle.std.proofs.Common.{codes}
use Rattle.rje_cli.specs.CommandLine.{flag_rule}
use Rattle.rje_cli.proofs.words.app.with_rank.Goals as goal

pub returns : goal.returns
returns c = λ app is.
    let primary = c.in_ok-command.ensures app (flag_rule (codes "primary")) is c.flag.ensures in
    c.with_arg-2.ensures _ (flag_rule (codes "secondary")) primary c.flag-2.ensures
