use Rattle.rje_station.proofs.LastEvents.{trace_goes_on}
use Rattle.rje_station.proofs.laws.trace_goes_on.Goals as goal

pub returns : goal.returns
returns c = trace_goes_on
