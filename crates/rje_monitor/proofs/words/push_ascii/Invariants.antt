use Rattle.std.proofs.Common.{◌≡◌, ◌++◌, drop}
use Rattle.rje_monitor.specs.Words.{ascii}
use Rattle.rje_monitor.proofs.words.push_ascii.Given as goal

abbrev pub invariant-loop-byte : goal.invariant-loop-byte
invariant-loop-byte l = l.text.items ++ ascii (drop l.byte-index l.bytes) ≡ l.fn.text.items ++ ascii l.bytes
