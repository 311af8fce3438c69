use Rattle.std.proofs.Common.{codes, ap, ◌∙◌}
use Rattle.clap.specs.Words.{new_app}
use Rattle.clap.specs.Simple.{app_of_fields}
use Rattle.rje_cli.specs.CommandLine.{IsApp, file_rule, flag_rule, value_rule}
use Rattle.rje_cli.proofs.words.app.cards.Goals as goal

pub returns : goal.returns
returns c =
    let named : IsApp (new_app (codes "cards")) c.about-command.result =
    (ap app_of_fields c.about-command.ensures ∙ c.new.ensures.app, ap (λ f. f.has_globals) c.about-command.ensures ∙ c.new.ensures.local) in
    let deck = c.in_ok-command.ensures (new_app (codes "cards")) (file_rule (codes "DECK")) named c.file.ensures in
    let jobs = c.in_ok-command-2.ensures _ (file_rule (codes "JOBS")) deck c.file-2.ensures in
    let devices = c.in_ok-command-3.ensures _ jobs in
    let named_job = c.in_ok-command-4.ensures _ (value_rule (codes "name")) devices c.value.ensures in
    c.with_arg-4.ensures _ (flag_rule (codes "append")) named_job c.flag-append.ensures
