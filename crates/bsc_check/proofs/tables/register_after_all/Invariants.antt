use Rattle.std.proofs.Common.{◌≡◌, drop}
use Rattle.bsc_check.specs.Inside.Shifts.{register_after}
use Rattle.bsc_check.proofs.tables.register_after_all.Given as goal

abbrev pub invariant-loop-byte : goal.invariant-loop-byte
invariant-loop-byte l = register_after l.register (drop l.byte-index l.rest) ≡ register_after l.fn.register l.bytes
