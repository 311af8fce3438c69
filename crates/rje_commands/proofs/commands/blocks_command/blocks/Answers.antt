use Rattle.std.proofs.Common.{◌≡◌, Some}
use Rattle.rje_jobs.specs.Deck.{deck_fault, IsDeckFault}
use Rattle.rje_jobs.proofs.Faults.{told}
use Rattle.rje_commands.proofs.Inputs.{of_deck}
use Rattle.rje_commands.proofs.commands.blocks_command.blocks.Goals as goal

pub returns-in-Err-Deck-clause-fault : goal.returns-in-Err-Deck-clause-fault
returns-in-Err-Deck-clause-fault g c =
    let deck = c.in_ok-deck.deck.items in
    let fault = c.in-Err-Deck.fault in
    let is : deck_fault deck ≡ Some fault = rw (c.as_slice.ensures.value, c.in-Err-Deck.field-0-is) at c.in-Err-Deck.ensures.told in
    of_deck (λ read. IsDeckFault read fault) deck (told deck fault is) c.args.name.now (g.S.Store.files c.args.store.now) (g.I.Read.remaining c.args.input.now)
    c.in_ok-deck.ensures.deck
