-- Faults of a station and of a turn, as those of a run (own profile).
use Rattle.std.specs.Prelude.{ℕ}
use Rattle.rje_station.specs.declared.station_fault.StationFault.{StationFault}
use Rattle.line_world.specs.declared.turn_fault.TurnFault.{TurnFault}
use Rattle.line_world.specs.declared.world_fault.WorldFault.{WorldFault}

-- a fault of a station, as one of a run
abbrev pub fault_of : StationFault → WorldFault
fault_of (StationFault.BadJob number) = WorldFault.BadJob number
fault_of _ = WorldFault.OutOfMemory

-- a fault of a turn, as one of the first attempt
abbrev pub fault_at : TurnFault → ℕ → WorldFault
fault_at TurnFault.OutOfMemory turn = WorldFault.OutOfMemory
fault_at TurnFault.NotDamage turn = WorldFault.NotDamage 1 turn
fault_at TurnFault.BadCut turn = WorldFault.BadCut 1 turn

-- the same fault in this attempt
abbrev pub fault_in : WorldFault → ℕ → WorldFault
fault_in (WorldFault.NotDamage first turn) attempt = WorldFault.NotDamage attempt turn
fault_in (WorldFault.BadCut first turn) attempt = WorldFault.BadCut attempt turn
fault_in fault attempt = fault
