use Rattle.std.proofs.Common.{codes}
use Rattle.rje_cli.specs.CommandLine.{file_app, quiet_rule, timeout_rule, trace_rule}
use Rattle.rje_cli.proofs.words.app.loopback.Goals as goal

pub returns : goal.returns
returns c =
    let timeout = c.in_ok-command-2.ensures (file_app (codes "loop") (codes "JOBS")) timeout_rule c.in_ok-command.ensures c.timeout.ensures in
    let trace = c.in_ok-command-3.ensures _ trace_rule timeout c.trace.ensures in
    c.with_arg-3.ensures _ quiet_rule trace c.quiet.ensures
