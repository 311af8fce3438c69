use Rattle.std.proofs.Common.{◌≡◌, map, take}
use Rattle.rje_jobs.specs.Deck.{code_or_zero}
use Rattle.rje_receipts.proofs.saying.coded.Given as goal

abbrev pub invariant-loop-character : goal.invariant-loop-character
invariant-loop-character l = l.codes.items ≡ map code_or_zero (take l.character-index l.fn.card)
