use Rattle.rje_cli.specs.CommandLine.{blocks_app, cards_app}
use Rattle.rje_cli.proofs.words.app.with_deck_commands.Goals as goal

pub returns : goal.returns
returns c = λ app is.
    let cards = c.in_ok-top.ensures app cards_app is c.cards.ensures in
    c.with_command-2.ensures _ blocks_app cards c.blocks-2.ensures
