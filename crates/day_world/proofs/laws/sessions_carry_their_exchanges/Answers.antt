-- Turn by turn, and then once it is over.
use Rattle.day_world.proofs.Books.{carry_what_is_entered}
use Rattle.day_world.proofs.laws.sessions_carry_their_exchanges.Goals as goal

pub returns : goal.returns
returns c = record { carried = carry_what_is_entered }
