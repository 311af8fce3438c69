use Rattle.std.proofs.Common.{◌≡◌, take}
use Rattle.rje_jobs.specs.Ascii.{ascii}
use Rattle.rje_receipts.proofs.saying.characters.Given as goal

abbrev pub invariant-loop-code : goal.invariant-loop-code
invariant-loop-code l = l.characters.items ≡ ascii (take l.code-index l.fn.codes)
