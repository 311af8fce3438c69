use Rattle.rje_station.proofs.Joining.{joins_blocks, joins_on, hears_jobs}
use Rattle.rje_station.proofs.laws.blocks_are_joined.Goals as goal

pub returns-clause-joins : goal.returns-clause-joins
returns-clause-joins c = joins_blocks

pub returns-clause-on : goal.returns-clause-on
returns-clause-on c = joins_on

pub returns-clause-hears : goal.returns-clause-hears
returns-clause-hears c = hears_jobs
