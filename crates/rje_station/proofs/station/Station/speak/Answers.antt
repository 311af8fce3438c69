-- What is due is one transmission.
use Rattle.std.proofs.Common.{◌∙◌}
use Rattle.rje_station.proofs.Said.{said_once}
use Rattle.rje_station.proofs.station.Station.speak.Goals as goal

pub returns-in-Ok-clause-once : goal.returns-in-Ok-clause-once
returns-in-Ok-clause-once g c = c.in-Ok.ensures.once ∙ said_once _ _ (λ e. c.in_default.not-Nothing (c.due.ensures ∙ e))
