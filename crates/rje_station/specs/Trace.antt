-- The last events of a station (own profile).
use Rattle.std.specs.Prelude.{◌≡◌, ◌-◌, List, length, drop}
use Rattle.rje_station.specs.declared.event.Event.{Event}

-- the last 64 events
abbrev pub last_events : List Event → List Event
last_events events = drop (length events - 64) events

-- the trace of a station that did all these things
abbrev pub IsTraceOf : List Event → List Event → Type 0
IsTraceOf events trace = trace ≡ last_events events
