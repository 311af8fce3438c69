use Rattle.rje_cli.specs.CommandLine.{every_rule, patience_rule, progress_rule, timeout_rule}
use Rattle.rje_cli.proofs.words.app.with_partner.Goals as goal

pub returns : goal.returns
returns c = λ app is.
    let meeting = c.in_ok-command.ensures app is in
    let every = c.in_ok-command-2.ensures _ every_rule meeting c.every.ensures in
    let timeout = c.in_ok-command-3.ensures _ timeout_rule every c.timeout.ensures in
    let patience = c.in_ok-command-4.ensures _ patience_rule timeout c.patience.ensures in
    let progress = c.in_ok-command-5.ensures _ progress_rule patience c.progress.ensures in
    c.with_rank.ensures _ progress
