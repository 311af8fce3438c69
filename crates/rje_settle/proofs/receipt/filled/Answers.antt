use Rattle.std.proofs.Common.{rules}
use Rattle.std.proofs.lemmas.List.{drop-replicate}
use Rattle.rje_settle.proofs.receipt.filled.Goals as goal

pub returns : goal.returns
returns c = let h = c.copy_from_slice.ensures in search (rules, drop-replicate, c.copy_from_slice.ensures.after)
