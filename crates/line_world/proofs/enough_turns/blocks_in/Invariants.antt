-- So many blocks end before this record; and each one takes it forward.
use Rattle.std.proofs.Common.{length, ◌-◌}
use Rattle.line_world.proofs.BlockCount.{AreCounted}
use Rattle.line_world.proofs.enough_turns.blocks_in.Given as goal

abbrev pub invariant-loop-place : goal.invariant-loop-place
invariant-loop-place l = AreCounted l.job l.count l.place

abbrev pub decreases-loop-place : goal.decreases-loop-place
decreases-loop-place l = length l.records - l.place
