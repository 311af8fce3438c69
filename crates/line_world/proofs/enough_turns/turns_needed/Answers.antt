-- There are more blocks than u64 can hold.
use Rattle.std.proofs.Common.{◌+◌, ◌^◌, ◌<◌, inr, arith}
use Rattle.line_world.proofs.BlockCount.{counted_most}
use Rattle.line_world.proofs.enough_turns.turns_needed.Goals as goal

pub returns-in_err-blocks-clause-none : goal.returns-in_err-blocks-clause-none
returns-in_err-blocks-clause-none c =
    let over : c.loop-job.blocks + c.blocks_in.result < 2 ^ 64 → ⊥ = c.in_err-blocks.ensures in
    let most = counted_most c.args.jobs.now c.loop-job.job-index c.loop-job.blocks c.job-item.result c.loop-job.invariant c.loop-job-test.true c.job-item.is in
    rw c.from_residual.ensures (inr (omega (arith, most, c.blocks_in.ensures, over)))
