use Rattle.std.proofs.Common.{codes}
use Rattle.rje_cli.specs.CommandLine.{file_app, flag_rule, patience_rule}
use Rattle.rje_cli.proofs.words.app.receive.Goals as goal

pub returns : goal.returns
returns c =
    let connection = c.in_ok-command-2.ensures (file_app (codes "receive") (codes "JOBS")) c.in_ok-command.ensures in
    let patience = c.in_ok-command-3.ensures _ patience_rule connection c.patience.ensures in
    let wait = c.in_ok-command-4.ensures _ (flag_rule (codes "wait")) patience c.flag.ensures in
    c.with_existing.ensures _ wait
