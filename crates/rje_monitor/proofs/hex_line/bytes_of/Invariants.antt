use Rattle.std.proofs.Common.{List, ℕ, ◌++◌, length}
use Rattle.rje_monitor.specs.Turns.{ArePairs}
use Rattle.rje_monitor.proofs.Pairs.{ArePairsOfSome}
use Rattle.rje_monitor.proofs.hex_line.bytes_of.Given as goal

abbrev pub invariant-loop-byte : goal.invariant-loop-byte
invariant-loop-byte l = record {
  pairs : (more : List ℕ) → ArePairs more l.rest → ArePairs (l.bytes.items ++ more) l.line;
  good : ArePairsOfSome l.rest;
}

abbrev pub decreases-loop-byte : goal.decreases-loop-byte
decreases-loop-byte l = length l.rest
