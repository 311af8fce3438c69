-- Each clause is a law of proofs/BrokenPairs.antt.
use Rattle.pair_world.proofs.BrokenPairs.{no_damage_no_pair, bad_cut_no_pair}
use Rattle.pair_world.proofs.laws.broken_schedules_have_no_pair_conversation.Goals as goal

pub returns-clause-damage : goal.returns-clause-damage
returns-clause-damage c = no_damage_no_pair c.one_hearing.ensures

pub returns-clause-cuts : goal.returns-clause-cuts
returns-clause-cuts c = bad_cut_no_pair
