-- The turns so far are those of a history, and both stations stand where it left them.
use Rattle.line_world.proofs.RunLoop.{Running}
use Rattle.line_world.proofs.running.take_turns.Given as goal

abbrev pub invariant-loop-turn : goal.invariant-loop-turn
invariant-loop-turn l = record {
  running : Running l.fn.ends.sender.jobs l.turns l.turn-index l.spoken.items l.ends.sender l.ends.receiver;
}
