use Rattle.std.proofs.Common.{rules}
use Rattle.line_world.proofs.ForPairs.{stays_calm}
use Rattle.pair_world.proofs.pair_end.PairEnd.reply.Goals as goal

pub invariant_of-self : goal.invariant_of-self
invariant_of-self c = record { calm = stays_calm c.args.self.now.line c.reply.new.line c.reply.ensures.ages (search rules) }
