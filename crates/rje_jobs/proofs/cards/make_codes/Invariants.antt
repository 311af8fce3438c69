use Rattle.std.proofs.Common.{◌≡◌, ◌++◌, map, take, drop}
use Rattle.rje_jobs.specs.Deck.{code_or_zero}
use Rattle.rje_jobs.proofs.cards.make_codes.Given as goal

abbrev pub invariant-loop-character : goal.invariant-loop-character
invariant-loop-character l = l.characters ≡ map code_or_zero (take l.character-index l.fn.characters) ++ drop l.character-index l.fn.characters
