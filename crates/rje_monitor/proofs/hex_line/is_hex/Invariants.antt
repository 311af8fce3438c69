use Rattle.std.proofs.Common.{length}
use Rattle.rje_monitor.proofs.Pairs.{HasSameEnd}
use Rattle.rje_monitor.proofs.hex_line.is_hex.Given as goal

abbrev pub invariant-loop-byte : goal.invariant-loop-byte
invariant-loop-byte l = HasSameEnd l.line l.rest

abbrev pub decreases-loop-byte : goal.decreases-loop-byte
decreases-loop-byte l = length l.rest
