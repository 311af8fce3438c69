use Rattle.line_world.proofs.Calm.{stays_calm}
use Rattle.line_world.proofs.unfailing.speak_down.Goals as goal

pub returns-in-Ok-clause-calm : goal.returns-in-Ok-clause-calm
returns-in-Ok-clause-calm c = stays_calm c.args.line.now c.speak.new.line c.speak.ensures.ages c.requires.calm
