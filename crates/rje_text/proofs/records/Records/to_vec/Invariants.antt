use Rattle.std.proofs.Common.{◌≡◌, ◌++◌}
use Rattle.rje_text.proofs.records.Records.to_vec.Given as goal

abbrev pub invariant-loop-item : goal.invariant-loop-item
invariant-loop-item l = l.vector.items ++ l.item-iterator ≡ l.fn.self
