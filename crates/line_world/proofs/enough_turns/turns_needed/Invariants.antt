-- The jobs up to this one can be sent, and have so many blocks.
use Rattle.line_world.proofs.BlockCount.{AreCountedTo}
use Rattle.line_world.proofs.enough_turns.turns_needed.Given as goal

abbrev pub invariant-loop-job : goal.invariant-loop-job
invariant-loop-job l = AreCountedTo l.jobs l.job-index l.blocks
