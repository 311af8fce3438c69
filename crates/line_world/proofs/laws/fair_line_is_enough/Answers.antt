-- The clause is a law of proofs/FairLine.antt.
use Rattle.line_world.proofs.FairLine.{fair_line_is_enough}
use Rattle.line_world.proofs.laws.fair_line_is_enough.Goals as goal

pub returns : goal.returns
returns c = record { enough = fair_line_is_enough c.cut_reads_back.ensures }
