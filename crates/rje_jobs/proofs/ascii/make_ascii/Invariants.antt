use Rattle.std.proofs.Common.{◌≡◌, ◌++◌, take, drop}
use Rattle.rje_jobs.specs.Ascii.{ascii}
use Rattle.rje_jobs.proofs.ascii.make_ascii.Given as goal

abbrev pub invariant-loop-byte : goal.invariant-loop-byte
invariant-loop-byte l = l.bytes ≡ ascii (take l.byte-index l.fn.bytes) ++ drop l.byte-index l.fn.bytes
