-- Each clause is a law of proofs/Planned.antt, proofs/SendingTurns.antt or proofs/ReceivingTurns.antt.
use Rattle.line_world.proofs.Planned.{next_is_planned}
use Rattle.line_world.proofs.SendingTurns.{sending_turns}
use Rattle.line_world.proofs.ReceivingTurns.{receiving_turns}
use Rattle.line_world.proofs.laws.stations_keep_history.Goals as goal

pub returns-clause-planned : goal.returns-clause-planned
returns-clause-planned c = next_is_planned

pub returns-clause-sending : goal.returns-clause-sending
returns-clause-sending c = sending_turns c.counted_blocks_end_counted_jobs.ensures

pub returns-clause-receiving : goal.returns-clause-receiving
returns-clause-receiving c = receiving_turns c.blocks_are_joined.ensures.hears
