-- The first block.
use Rattle.line_world.proofs.BlockCount.{counted_first}
use Rattle.line_world.proofs.enough_turns.blocks_in.Goals as goal

pub loop-place-init : goal.loop-place-init
loop-place-init c =
    counted_first c.args.job.now _ _ c.next_block-place.ensures.next
