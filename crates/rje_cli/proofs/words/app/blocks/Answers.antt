use Rattle.std.proofs.Common.{codes, ap, ◌∙◌}
use Rattle.clap.specs.Words.{new_app}
use Rattle.clap.specs.Simple.{app_of_fields}
use Rattle.rje_cli.specs.CommandLine.{IsApp, file_rule}
use Rattle.rje_cli.proofs.words.app.blocks.Goals as goal

pub returns : goal.returns
returns c =
    let named : IsApp (new_app (codes "blocks")) c.about-command.result =
    (ap app_of_fields c.about-command.ensures ∙ c.new.ensures.app, ap (λ f. f.has_globals) c.about-command.ensures ∙ c.new.ensures.local) in
    c.with_arg.ensures (new_app (codes "blocks")) (file_rule (codes "DECK")) named c.file.ensures
