-- The command does what the order says: its fault, its files, and what is printed.
-- The deck and the job file that was read give the new file (lemmas of Inputs); nothing is written before all that may fail has passed.
use Rattle.std.proofs.Common.{◌≡◌, List, length, ◌∙◌, subst, ap, inl, inr, OnOk}
use Rattle.std.specs.Prelude.{None, option_map}
use Rattle.std.specs.Io.KnownBytes.{Appends}
use Rattle.std.proofs.lemmas.Result.{on_ok_weaker}
use Rattle.rje_text.specs.declared.record.Record.{Record}
use Rattle.rje_jobs.specs.Deck.{IsDeckFault, cards_of, deck_fault}
use Rattle.rje_print.specs.JobTexts.{cards_line}
use Rattle.rje_requests.specs.Device.{writing}
use Rattle.rje_requests.specs.declared.order.FileOrder.{FileOrder}
use Rattle.rje_commands.specs.declared.command_fault.CommandFault.TheVariants as told
use Rattle.rje_commands.specs.Commands.{IsFault, MakesCards, MakesFile}
use Rattle.rje_commands.proofs.Inputs.{of_deck, told_as, made_file, whatever}
use Rattle.rje_store.proofs.Changes.{same_twice}
use Rattle.rje_commands.proofs.commands.cards_command.cards.Goals as goal

pub returns-in_err-cards-clause-fault : goal.returns-in_err-cards-clause-fault
returns-in_err-cards-clause-fault g c =
    let files = g.S.Store.files c.args.store.now in
    let input = g.I.Read.remaining c.args.input.now in
    let fault = c.in_err-cards.field-0.0 in
    let is : IsDeckFault c.in_ok-deck.deck.items fault = rw c.as_slice.ensures.value at c.in_err-cards.ensures.told in
    told_as c.from_residual-in_err-cards.result (told.Deck fault) (IsFault (FileOrder.Cards c.args.order) files input) c.from_residual-in_err-cards.ensures.1
    (of_deck (λ read. IsDeckFault read fault) c.in_ok-deck.deck.items is c.args.order.deck.now files input c.in_ok-deck.ensures.deck)

pub returns-clause-done : goal.returns-clause-done
returns-clause-done g c =
    let files = g.S.Store.files c.args.store.now in
    let input = g.I.Read.remaining c.args.input.now in
    let deck = c.in_ok-deck.deck.items in
    let order = c.args.order in
    let cards : (deck_fault deck ≡ None) × (c.in_ok-cards.cards ≡ cards_of (writing order.device) deck) =
    rw c.as_slice.ensures.value at (rw c.mode.ensures.writing at c.in_ok-cards.ensures.cards) in
    let made : MakesFile order deck files (g.S.Store.files c.write_file.new.store) =
    made_file order deck c.in_ok-made.made.items c.in_ok-cards.cards (option_map (λ bytes. bytes.items) c.in_ok-held.held) files _ _ _ _ cards
    c.in_ok-made.ensures.file (rw c.as_slice-2.ensures.value at c.in_ok-write_file.ensures.limit) c.in_ok-deck.ensures.same
    c.in_ok-lock_file.ensures.same c.in_ok-held.ensures.held c.in_ok-held.ensures.same (rw c.as_slice-2.ensures.value at c.in_ok-write_file.ensures.sets) in
    let count = ap (λ (records : List Record). length records) cards.1 in
    let line = c.as_slice-3.ensures.value ∙ c.cards_text.ensures.line ∙ ap cards_line (c.len-count.ensures ∙ count) in
    let before = g.O.Write.contents c.args.out.now in
    let after = g.O.Write.contents c.put.new.out in
    on_ok_weaker c.put.result (λ printed.
    of_deck (λ read. MakesCards order read files (g.S.Store.files c.write_file.new.store) before after) deck
    (made, printed) order.deck.now files input c.in_ok-deck.ensures.deck) (subst (λ text. OnOk c.put.result (Appends before after text)) line c.put.ensures.text)

pub returns-clause-files : goal.returns-clause-files
returns-clause-files g c =
    let files = g.S.Store.files c.args.store.now in
    let input = g.I.Read.remaining c.args.input.now in
    let deck = c.in_ok-deck.deck.items in
    let order = c.args.order in
    let cards : (deck_fault deck ≡ None) × (c.in_ok-cards.cards ≡ cards_of (writing order.device) deck) =
    rw c.as_slice.ensures.value at (rw c.mode.ensures.writing at c.in_ok-cards.ensures.cards) in
    let made : MakesFile order deck files (g.S.Store.files c.write_file.new.store) =
    made_file order deck c.in_ok-made.made.items c.in_ok-cards.cards (option_map (λ bytes. bytes.items) c.in_ok-held.held) files _ _ _ _ cards
    c.in_ok-made.ensures.file (rw c.as_slice-2.ensures.value at c.in_ok-write_file.ensures.limit) c.in_ok-deck.ensures.same
    c.in_ok-lock_file.ensures.same c.in_ok-held.ensures.held c.in_ok-held.ensures.same (rw c.as_slice-2.ensures.value at c.in_ok-write_file.ensures.sets) in
    inr (of_deck (λ read. MakesFile order read files (g.S.Store.files c.write_file.new.store)) deck made order.deck.now files input
    c.in_ok-deck.ensures.deck)

pub returns-clause-made : goal.returns-clause-made
returns-clause-made g c =
    let files = g.S.Store.files c.args.store.now in
    let input = g.I.Read.remaining c.args.input.now in
    let deck = c.in_ok-deck.deck.items in
    let order = c.args.order in
    let cards : (deck_fault deck ≡ None) × (c.in_ok-cards.cards ≡ cards_of (writing order.device) deck) =
    rw c.as_slice.ensures.value at (rw c.mode.ensures.writing at c.in_ok-cards.ensures.cards) in
    let made : MakesFile order deck files (g.S.Store.files c.write_file.new.store) =
    made_file order deck c.in_ok-made.made.items c.in_ok-cards.cards (option_map (λ bytes. bytes.items) c.in_ok-held.held) files _ _ _ _ cards
    c.in_ok-made.ensures.file (rw c.as_slice-2.ensures.value at c.in_ok-write_file.ensures.limit) c.in_ok-deck.ensures.same
    c.in_ok-lock_file.ensures.same c.in_ok-held.ensures.held c.in_ok-held.ensures.same (rw c.as_slice-2.ensures.value at c.in_ok-write_file.ensures.sets) in
    let leaves = of_deck (λ read. MakesFile order read files (g.S.Store.files c.write_file.new.store)) deck made order.deck.now files input
    c.in_ok-deck.ensures.deck in
    whatever c.put.result _ _ leaves

pub returns-in_err-write_file-clause-files : goal.returns-in_err-write_file-clause-files
returns-in_err-write_file-clause-files g c =
    let deck = c.in_ok-deck.ensures.same in
    let locked = same_twice _ _ _ deck c.in_ok-lock_file.ensures.same in
    let held = same_twice _ _ _ locked c.in_ok-held.ensures.same in
    inl (same_twice _ _ _ held c.in_err-write_file.ensures.same)
