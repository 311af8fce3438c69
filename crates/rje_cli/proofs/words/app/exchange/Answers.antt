use Rattle.std.proofs.Common.{codes, ap, ◌∙◌}
use Rattle.clap.specs.Words.{new_app}
use Rattle.clap.specs.Simple.{app_of_fields}
use Rattle.rje_cli.specs.CommandLine.{IsApp, file_rule, patience_rule}
use Rattle.rje_cli.proofs.words.app.exchange.Goals as goal

pub returns : goal.returns
returns c =
    let named : IsApp (new_app (codes "exchange")) c.about-command.result =
    (ap app_of_fields c.about-command.ensures ∙ c.new.ensures.app, ap (λ f. f.has_globals) c.about-command.ensures ∙ c.new.ensures.local) in
    let send = c.in_ok-command.ensures (new_app (codes "exchange")) (file_rule (codes "SEND")) named c.file-send.ensures in
    let received = c.in_ok-command-2.ensures _ (file_rule (codes "RECEIVED")) send c.file-received.ensures in
    let connection = c.in_ok-command-3.ensures _ received in
    let patience = c.in_ok-command-4.ensures _ patience_rule connection c.patience.ensures in
    let rank = c.in_ok-command-5.ensures _ patience in
    c.with_existing.ensures _ rank
