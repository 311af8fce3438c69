use Rattle.std.proofs.Common.{refl, rules}
use Rattle.rje_receipts.proofs.Coded.{card_read}
use Rattle.rje_receipts.proofs.saying.receipt_job.Goals as goal

pub returns : goal.returns
returns c = record {
  whole = refl;
  device = refl;
  mode = refl;
  card = (c.coded.result.items, search rules, rw c.coded.ensures (rw (card_read c.card.result c.args.receipt (search rules) (search rules) c.card.ensures) c.card.ensures));
}
