use Rattle.rje_day.proofs.Told.{begin_where_none_is_in_hand}
use Rattle.rje_day.proofs.laws.transmissions_begin_where_none_is_in_hand.Goals as goal

pub returns : goal.returns
returns c = begin_where_none_is_in_hand
