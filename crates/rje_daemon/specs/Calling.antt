-- When a station may have a connection (own profile).
use Rattle.std.specs.Prelude.{◌≡◌, true}
use Rattle.rje_day.specs.declared.day_place.DayPlace.{DayPlace}
use Rattle.rje_day.specs.declared.day_event.DayEvent.{DayEvent}
use Rattle.rje_day.specs.declared.inputs.Inputs.{Inputs}
use Rattle.rje_day.specs.Day.{DayState, duty_of}
use Rattle.rje_day.specs.History.{can_follow}

-- there is no connection, and by what is seen a call is awaited next, or made
abbrev pub SeeksConnection : DayState → Inputs → Type 0
SeeksConnection d seen = (d.place ≡ DayPlace.Apart) × (can_follow (duty_of d seen) DayEvent.Connected ≡ true)
