use Rattle.std.proofs.Common.{◌-◌, length}
use Rattle.rje_text.proofs.Expanding.{IsBuilt}
use Rattle.rje_text.proofs.record_text.record_from.Given as goal

abbrev pub invariant-loop-i : goal.invariant-loop-i
invariant-loop-i l = IsBuilt l.text l.i l.action l.bytes.items

abbrev pub decreases-loop-i : goal.decreases-loop-i
decreases-loop-i l = length l.text - l.i
