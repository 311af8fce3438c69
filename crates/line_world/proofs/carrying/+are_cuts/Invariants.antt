-- The recursion ends: there are fewer cuts.
use Rattle.std.proofs.Common.{length}
use Rattle.line_world.proofs.carrying.+are_cuts.Given as goal

abbrev pub decreases-are_cuts : goal.decreases-are_cuts
decreases-are_cuts l = length l.cuts.now
