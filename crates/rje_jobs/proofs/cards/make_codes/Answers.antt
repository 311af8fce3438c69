use Rattle.std.proofs.Common.{arith}
use Rattle.rje_jobs.specs.Deck.{code_or_zero}
use Rattle.rje_jobs.proofs.InPlace.{one_more}
use Rattle.rje_jobs.proofs.cards.make_codes.Goals as goal

pub loop-character-preserved : goal.loop-character-preserved
loop-character-preserved c = one_more code_or_zero c.args.characters.now c.loop-character.characters c.loop-character.character-index c.code.result (omega arith) c.loop-character.invariant c.code.ensures
