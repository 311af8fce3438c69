use Rattle.std.proofs.Common.{codes}
use Rattle.rje_cli.specs.CommandLine.{value_rule}
use Rattle.rje_cli.proofs.words.app.with_meeting.Goals as goal

pub returns : goal.returns
returns c = λ app is.
    let to = c.in_ok-command.ensures app (value_rule (codes "to")) is c.value.ensures in
    let listen = c.in_ok-command-2.ensures _ (value_rule (codes "listen")) to c.value-2.ensures in
    c.with_arg-3.ensures _ (value_rule (codes "from")) listen c.value-3.ensures
