use Rattle.std.proofs.Common.{List, map, sym, ◌∙◌}
use Rattle.clap.specs.Words.{Text}
use Rattle.rje_cli.proofs.Commands.{is_command}
use Rattle.rje_cli.proofs.Found.{command_found, faults_told, none_refuse, orders_asked, refused_kind, results_told, some_words}
use Rattle.rje_cli.proofs.words.parse.Goals as goal

pub returns-in_err-matches-clause-told : goal.returns-in_err-matches-clause-told
returns-in_err-matches-clause-told c =
    let words = map (λ word. word.now) c.args.words.now in
    let error = c.in_err-matches.field-0.0 in
    results_told words (some_words c.args.words.now (sym c.is_empty.ensures ∙ c.if-is_empty.false)) c.from_residual-in_err-matches.result error
    c.from_residual-in_err-matches.ensures.1 (refused_kind _ words error c.in_ok-program.ensures.0 c.in_err-matches.ensures.kinds)

pub order_of-requires : goal.order_of-requires
order_of-requires c =
    let words : List Text = map (λ word. word.now) c.args.words.now in
    let is_app = c.in_ok-program.ensures.0 in
    let found = command_found _ words c.in_ok-matches.matches c.subcommand.result c.unwrap.result is_app c.in_ok-matches.ensures.matches c.unwrap.ensures
    c.subcommand.ensures.name c.subcommand.ensures.rows in
    record { known = is_command words _ _ (none_refuse _ words is_app c.in_ok-matches.ensures.kinds) found }

pub returns-clause-asked : goal.returns-clause-asked
returns-clause-asked c =
    let words : List Text = map (λ word. word.now) c.args.words.now in
    let is_app = c.in_ok-program.ensures.0 in
    let found = command_found _ words c.in_ok-matches.matches c.subcommand.result c.unwrap.result is_app c.in_ok-matches.ensures.matches c.unwrap.ensures
    c.subcommand.ensures.name c.subcommand.ensures.rows in
    orders_asked words (some_words c.args.words.now (sym c.is_empty.ensures ∙ c.if-is_empty.false)) (none_refuse _ words is_app c.in_ok-matches.ensures.kinds)
    _ _ found c.order_of.result c.order_of.ensures.asked

pub returns-clause-told : goal.returns-clause-told
returns-clause-told c =
    let words : List Text = map (λ word. word.now) c.args.words.now in
    let is_app = c.in_ok-program.ensures.0 in
    let found = command_found _ words c.in_ok-matches.matches c.subcommand.result c.unwrap.result is_app c.in_ok-matches.ensures.matches c.unwrap.ensures
    c.subcommand.ensures.name c.subcommand.ensures.rows in
    faults_told words (some_words c.args.words.now (sym c.is_empty.ensures ∙ c.if-is_empty.false)) (none_refuse _ words is_app c.in_ok-matches.ensures.kinds)
    _ _ found c.order_of.result c.order_of.ensures.told
