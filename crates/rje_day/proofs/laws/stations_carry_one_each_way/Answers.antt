use Rattle.rje_day.proofs.Carried.{carry_one_each_way}
use Rattle.rje_day.proofs.laws.stations_carry_one_each_way.Goals as goal

pub returns : goal.returns
returns c = carry_one_each_way
