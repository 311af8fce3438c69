-- From the law over histories, by what a turn makes of each station.
use Rattle.line_world.proofs.AnyLines.{over_faithful_lines}
use Rattle.line_world.proofs.laws.faithful_lines_keep_order.Goals as goal

pub returns-clause-in_order : goal.returns-clause-in_order
returns-clause-in_order c = over_faithful_lines _ c.stations_keep_history.ensures.sending c.stations_keep_history.ensures.receiving c.histories_keep_order.ensures.in_order

pub returns-clause-counted_whole : goal.returns-clause-counted_whole
returns-clause-counted_whole c = over_faithful_lines _ c.stations_keep_history.ensures.sending c.stations_keep_history.ensures.receiving c.histories_keep_order.ensures.counted_whole

pub returns-clause-first_jobs : goal.returns-clause-first_jobs
returns-clause-first_jobs c = over_faithful_lines _ c.stations_keep_history.ensures.sending c.stations_keep_history.ensures.receiving c.histories_keep_order.ensures.first_jobs
