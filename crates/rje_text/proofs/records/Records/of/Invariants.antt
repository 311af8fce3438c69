use Rattle.std.proofs.Common.{◌≡◌, take}
use Rattle.rje_text.proofs.records.Records.of.Given as goal

abbrev pub invariant-loop-item : goal.invariant-loop-item
invariant-loop-item l = l.records ≡ take l.item-index l.fn.items
