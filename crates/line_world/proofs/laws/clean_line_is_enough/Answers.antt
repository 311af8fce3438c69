-- The clause is a law of proofs/CleanLine.antt.
use Rattle.line_world.proofs.CleanLine.{clean_line_is_enough}
use Rattle.line_world.proofs.laws.clean_line_is_enough.Goals as goal

pub returns : goal.returns
returns c = record { enough = clean_line_is_enough c.cut_reads_back.ensures }
