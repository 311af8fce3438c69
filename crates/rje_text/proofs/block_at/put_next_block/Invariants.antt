use Rattle.std.proofs.Common.{length, ◌-◌}
use Rattle.rje_text.proofs.NextBlocks.{PackedSo}
use Rattle.rje_text.proofs.block_at.put_next_block.Given as goal

abbrev pub invariant-loop-place : goal.invariant-loop-place
invariant-loop-place l = PackedSo l.fn.select l.fn.mode l.in_hand.items l.records l.from l.place

abbrev pub decreases-loop-place : goal.decreases-loop-place
decreases-loop-place l = length l.records - l.place
