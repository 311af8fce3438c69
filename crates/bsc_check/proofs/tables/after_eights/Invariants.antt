use Rattle.std.proofs.Common.{◌≡◌, length}
use Rattle.bsc_check.specs.Inside.Shifts.{register_after}
use Rattle.bsc_check.proofs.tables.after_eights.Given as goal

abbrev pub invariant-loop-eight : goal.invariant-loop-eight
invariant-loop-eight l = register_after l.register l.rest ≡ register_after l.fn.register l.bytes

abbrev pub decreases-loop-eight : goal.decreases-loop-eight
decreases-loop-eight l = length l.rest
