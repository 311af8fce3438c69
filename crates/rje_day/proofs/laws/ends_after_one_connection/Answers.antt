use Rattle.rje_day.proofs.Told.{ends_after_one}
use Rattle.rje_day.proofs.laws.ends_after_one_connection.Goals as goal

pub returns : goal.returns
returns c = ends_after_one
