-- A connection, looked at as part of a day (own profile).
use Rattle.std.specs.Prelude.{◌≡◌, ◌++◌, ℕ, ◌<◌, true, false, Bool, List, Some}
use Rattle.rje_day.specs.declared.day_place.DayPlace.{DayPlace}
use Rattle.rje_day.specs.declared.disposition.Disposition.{Disposition}
use Rattle.rje_day.specs.declared.ended.Ended.{Ended}
use Rattle.rje_day.specs.declared.next_action.NextAction.{NextAction}
use Rattle.rje_day.specs.declared.settings.Settings.{Settings}
use Rattle.rje_day.specs.Day.{DayState}
use Rattle.rje_day.specs.Ended.{disposition_of}
use Rattle.rje_day.specs.History.{History, IsDay, kept_after}
use Rattle.rje_station.specs.declared.station_fault.StationFault.{StationFault}
use Rattle.rje_session.specs.Account.{became}
use Rattle.rje_session.specs.Ledger.{Entry}

-- The day goes on as a day does: after any history of it something is done at each moment that is next, and what happens then can come of it.
abbrev pub GoesOnAsDay : DayState → DayState → Type 0
GoesOnAsDay d d' = (settings : Settings) (past : History) → IsDay settings past → d ≡ kept_after settings past → (more : History) × IsDay settings (more ++ past) × (d' ≡ kept_after settings (more ++ past))

-- the other end's transmission is in hand, or its own
abbrev pub place_in_hand : (is_receiving : Bool) → DayPlace
place_in_hand true = DayPlace.Receiving
place_in_hand false = DayPlace.Sending

-- each job of a transmission that was given so many, and ended so, came to what its end says
abbrev pub AreSettled : (given : ℕ) → Ended → List Entry → Type 0
AreSettled given ended ledger = (job : ℕ) → job < given → became ledger job ≡ Some (disposition_of ended job)

-- what a job comes to where answers came out of step: it is in doubt, but where it lay ready; then it didn't go out, and lies ready still
abbrev pub out_of_step : Disposition → Disposition
out_of_step Disposition.Ready = Disposition.Ready
out_of_step _ = Disposition.InDoubt

-- so did each job of a transmission that was given so many, and ended so
abbrev pub AreInDoubt : (given : ℕ) → Ended → List Entry → Type 0
AreInDoubt given ended ledger = (job : ℕ) → job < given → became ledger job ≡ Some (out_of_step (disposition_of ended job))

-- there is a connection where this is next
abbrev pub is_of_connection : NextAction → Bool
is_of_connection NextAction.Bid = true
is_of_connection NextAction.Hear = true
is_of_connection NextAction.GoOn = true
is_of_connection NextAction.HangUp = true
is_of_connection _ = false

-- more came in one hearing than a frame has
abbrev pub is_babble : StationFault → Bool
is_babble StationFault.Babble = true
is_babble _ = false
