use Rattle.std.proofs.Common.{ap, sym, ◌∙◌, Some}
use Rattle.std.specs.Option.{is_some}
use Rattle.rje_text.specs.declared.mode.Mode.TheVariants.{Transparent}
use Rattle.rje_text.specs.declared.select.Select.TheVariants.{Punch}
use Rattle.rje_text.proofs.Selections.{whole_cards}
use Rattle.rje_text.proofs.cards.unpack_cards.Goals as goal

pub returns-in-Ok-clause-read : goal.returns-in-Ok-clause-read
returns-in-Ok-clause-read c = (
  whole_cards c.args.text.now c.requires c.in_default.ensures.cards
      ∙ ap (λ rs. Some (record { select = Punch; mode = Transparent; records = rs })) (sym c.in-Ok.ensures),
  c.in_default.ensures.agrees,
)

pub returns-in-Err-collect_cards-clause-told : goal.returns-in-Err-collect_cards-clause-told
returns-in-Err-collect_cards-clause-told c = (ap is_some (whole_cards c.args.text.now c.requires c.in_default.ensures.cards), c.in_default.ensures.agrees)
