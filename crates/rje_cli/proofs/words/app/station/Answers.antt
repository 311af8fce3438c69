use Rattle.std.proofs.Common.{codes, ap, ◌∙◌}
use Rattle.clap.specs.Words.{new_app}
use Rattle.clap.specs.Simple.{app_of_fields}
use Rattle.rje_cli.specs.CommandLine.{IsApp, file_rule, flag_rule, quiet_rule}
use Rattle.rje_cli.proofs.words.app.station.Goals as goal

pub returns : goal.returns
returns c =
    let named : IsApp (new_app (codes "station")) c.about-command.result =
    (ap app_of_fields c.about-command.ensures ∙ c.new.ensures.app, ap (λ f. f.has_globals) c.about-command.ensures ∙ c.new.ensures.local) in
    let folder = c.in_ok-command.ensures (new_app (codes "station")) (file_rule (codes "FOLDER")) named c.file.ensures in
    let partner = c.in_ok-command-2.ensures _ folder in
    let adapter = c.in_ok-command-3.ensures _ (flag_rule (codes "adapter")) partner c.adapter.ensures in
    let once = c.in_ok-command-4.ensures _ (flag_rule (codes "once")) adapter c.flag-once.ensures in
    let settle = c.in_ok-command-5.ensures _ (flag_rule (codes "settle")) once c.settle.ensures in
    c.with_arg-5.ensures _ quiet_rule settle c.quiet.ensures
