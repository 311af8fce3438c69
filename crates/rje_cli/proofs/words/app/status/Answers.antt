use Rattle.std.proofs.Common.{codes, ap, ◌∙◌}
use Rattle.clap.specs.Words.{new_app}
use Rattle.clap.specs.Simple.{app_of_fields}
use Rattle.rje_cli.specs.CommandLine.{IsApp, file_rule, flag_rule}
use Rattle.rje_cli.proofs.words.app.status.Goals as goal

pub returns : goal.returns
returns c =
    let named : IsApp (new_app (codes "status")) c.about-command.result =
    (ap app_of_fields c.about-command.ensures ∙ c.new.ensures.app, ap (λ f. f.has_globals) c.about-command.ensures ∙ c.new.ensures.local) in
    let folder = c.in_ok-command.ensures (new_app (codes "status")) (file_rule (codes "FOLDER")) named c.file.ensures in
    c.with_arg-2.ensures _ (flag_rule (codes "json")) folder c.flag.ensures
