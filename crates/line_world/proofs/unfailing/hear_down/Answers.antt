use Rattle.line_world.proofs.Calm.{stays_calm}
use Rattle.line_world.proofs.unfailing.hear_down.Goals as goal

pub returns-clause-calm : goal.returns-clause-calm
returns-clause-calm c = stays_calm c.args.line.now c.hear.new.line c.hear.ensures.ages c.requires.calm
