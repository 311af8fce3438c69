use Rattle.std.proofs.Common.{ap, true, ◌∙◌}
use Rattle.clap.specs.Simple.{on_top, app_of_fields}
use Rattle.rje_cli.specs.CommandLine.{IsApp, rje_top}
use Rattle.rje_cli.proofs.words.app.program.Goals as goal

pub returns : goal.returns
returns c =
    let set = rw (c.subcommand_required.ensures, c.no_binary_name.ensures, c.after_help.ensures, c.version.ensures, c.about.ensures) at c.in_ok-top.ensures.0 in
    let top : IsApp rje_top c.in_ok-top.top = (
      ap app_of_fields set ∙ ap (on_top (λ s. record s { no_binary_name = true; subcommand_required = true; has_version = true })) c.new.ensures.app,
      ap (λ f. f.has_globals) set ∙ c.new.ensures.local,
    ) in
    let deck = c.in_ok-top-2.ensures rje_top top in
    let files = c.in_ok-top-3.ensures _ deck in
    c.with_line_commands.ensures _ files
