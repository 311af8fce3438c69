use Rattle.rje_settle.proofs.CountedTexts.{cards_tell_receipts}
use Rattle.rje_settle.proofs.laws.cards_tell_receipts.Goals as goal

pub returns : goal.returns
returns c = cards_tell_receipts
