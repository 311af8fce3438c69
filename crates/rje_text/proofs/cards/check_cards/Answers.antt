use Rattle.std.proofs.Common.{ap}
use Rattle.std.specs.Option.{is_some}
use Rattle.rje_text.proofs.Selections.{no_cards, whole_cards}
use Rattle.rje_text.proofs.cards.check_cards.Goals as goal

pub returns-then-text-ne0-clause-told : goal.returns-then-text-ne0-clause-told
returns-then-text-ne0-clause-told c = no_cards c.args.text.now c.if-text-ne0.true

pub returns-then-not-agrees-clause-told : goal.returns-then-not-agrees-clause-told
returns-then-not-agrees-clause-told c =
    (ap is_some (whole_cards c.args.text.now c.requires c.if-text-ne0.false), λ agrees. let h = c.agrees.ensures.1 agrees in let no = c.if-not-agrees.true in cc)
