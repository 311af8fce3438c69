use Rattle.std.proofs.Common.{codes, ap, ◌∙◌}
use Rattle.clap.specs.Words.{new_app}
use Rattle.clap.specs.Simple.{app_of_fields}
use Rattle.rje_cli.specs.CommandLine.{IsApp, capture_rule, flag_rule}
use Rattle.rje_cli.proofs.words.app.monitor.Goals as goal

pub returns : goal.returns
returns c =
    let named : IsApp (new_app (codes "monitor")) c.about-command.result =
    (ap app_of_fields c.about-command.ensures ∙ c.new.ensures.app, ap (λ f. f.has_globals) c.about-command.ensures ∙ c.new.ensures.local) in
    let capture = c.in_ok-command.ensures (new_app (codes "monitor")) capture_rule named c.capture.ensures in
    c.with_arg-2.ensures _ (flag_rule (codes "hex")) capture c.flag.ensures
