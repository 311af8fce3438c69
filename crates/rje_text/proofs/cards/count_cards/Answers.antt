use Rattle.std.proofs.Common.{◌/◌, length, ap, sym}
use Rattle.rje_text.specs.declared.unpacked.Unpacked.{Unpacked}
use Rattle.rje_text.specs.declared.mode.Mode.TheVariants.{Transparent}
use Rattle.rje_text.specs.declared.select.Select.TheVariants.{Punch}
use Rattle.rje_text.specs.Reading.{cards, counted_of}
use Rattle.rje_text.proofs.Selections.{whole_cards, card_count}
use Rattle.rje_text.proofs.cards.count_cards.Goals as goal

pub returns-in-Ok-clause-counted : goal.returns-in-Ok-clause-counted
returns-in-Ok-clause-counted c =
    let text = c.args.text.now in
    let n = length text / 80 in
    let u : Unpacked = record { select = Punch; mode = Transparent; records = cards n text } in
    ((u, whole_cards text c.requires c.in-Ok.ensures.cards, ap (λ k. record (counted_of u) { count = k }) (sym (card_count n text))), c.in-Ok.ensures.agrees)
