-- Each clause is a law of proofs/Broken.antt.
use Rattle.line_world.proofs.Broken.{no_damage_no_conversation, bad_cut_no_conversation}
use Rattle.line_world.proofs.laws.broken_schedules_have_no_conversation.Goals as goal

pub returns-clause-damage : goal.returns-clause-damage
returns-clause-damage c = no_damage_no_conversation c.one_hearing.ensures

pub returns-clause-cuts : goal.returns-clause-cuts
returns-clause-cuts c = bad_cut_no_conversation
