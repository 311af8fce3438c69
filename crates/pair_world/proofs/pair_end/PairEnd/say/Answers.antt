use Rattle.std.proofs.Common.{rules}
use Rattle.line_world.proofs.ForPairs.{stays_calm}
use Rattle.pair_world.proofs.pair_end.PairEnd.say.Goals as goal

pub invariant_of-self : goal.invariant_of-self
invariant_of-self c = record { calm = stays_calm c.args.self.now.line c.speak.new.line c.speak.ensures.ages (search rules) }
