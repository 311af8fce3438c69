use Rattle.std.proofs.Common.{rules, Some}
use Rattle.line_world.specs.MemoryLine.{talk_of}
use Rattle.line_world.proofs.ForPairs.{stays_calm}
use Rattle.rje_station.proofs.Due.{answer_heard}
use Rattle.pair_world.proofs.pair_end.PairEnd.hear_answer.Goals as goal

pub returns-clause-heard : goal.returns-clause-heard
returns-clause-heard c = answer_heard (Some (talk_of c.args.self.now.line)) (Some (talk_of c.hear_answer.new.line)) _ _ c.requires.due c.in-Ok.ensures.heard

pub invariant_of-self : goal.invariant_of-self
invariant_of-self c = record { calm = stays_calm c.args.self.now.line c.hear_answer.new.line c.hear_answer.ensures.ages (search rules) }
