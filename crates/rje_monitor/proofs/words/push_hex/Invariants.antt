use Rattle.std.proofs.Common.{◌≡◌, ◌++◌, drop}
use Rattle.rje_monitor.specs.Words.{hex}
use Rattle.rje_monitor.proofs.words.push_hex.Given as goal

abbrev pub invariant-loop-byte : goal.invariant-loop-byte
invariant-loop-byte l = l.text.items ++ hex (drop l.byte-index l.bytes) ≡ l.fn.text.items ++ hex l.bytes
