use Rattle.std.proofs.Common.{codes}
use Rattle.rje_cli.specs.CommandLine.{flag_rule, quiet_rule, timeout_rule, trace_rule}
use Rattle.rje_cli.proofs.words.app.with_connection.Goals as goal

pub returns : goal.returns
returns c = λ app is.
    let meeting = c.in_ok-command.ensures app is in
    let timeout = c.in_ok-command-2.ensures _ timeout_rule meeting c.timeout.ensures in
    let adapter = c.in_ok-command-3.ensures _ (flag_rule (codes "adapter")) timeout c.adapter.ensures in
    let trace = c.in_ok-command-4.ensures _ trace_rule adapter c.trace.ensures in
    c.with_arg-4.ensures _ quiet_rule trace c.quiet.ensures
