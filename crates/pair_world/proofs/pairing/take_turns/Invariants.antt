-- The turns so far are those of a history, and both stations stand where it left them.
use Rattle.pair_world.proofs.PairLoop.{PairRunning}
use Rattle.pair_world.proofs.pairing.take_turns.Given as goal

abbrev pub invariant-loop-turn : goal.invariant-loop-turn
invariant-loop-turn l = record {
  running : PairRunning l.fn.primary.sender.jobs l.fn.secondary.sender.jobs l.turns l.turn-index l.spoken.items l.ends.primary.station l.ends.secondary.station;
}
