-- From the law of agreement, by what each frame that was spoken was.
use Rattle.connection_world.proofs.LastBlocks.{hand_out_what_was_said}
use Rattle.connection_world.proofs.laws.exchanges_hand_out_what_was_said.Goals as goal

pub returns : goal.returns
returns c = record { last_said = search hand_out_what_was_said }
