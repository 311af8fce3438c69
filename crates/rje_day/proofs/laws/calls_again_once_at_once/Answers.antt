use Rattle.rje_day.proofs.Told.{calls_again_at_once, calls_again_in_time}
use Rattle.rje_day.proofs.laws.calls_again_once_at_once.Goals as goal

pub returns-clause-at_once : goal.returns-clause-at_once
returns-clause-at_once c = calls_again_at_once

pub returns-clause-in_time : goal.returns-clause-in_time
returns-clause-in_time c = calls_again_in_time
