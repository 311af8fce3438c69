use Rattle.rje_cli.proofs.StationWords.{station_asked}
use Rattle.rje_cli.proofs.laws.words_ask_for_a_station.Goals as goal

pub returns : goal.returns
returns c = record { calling = station_asked }
