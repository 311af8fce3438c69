-- What the tables of a day are for.
use Rattle.std.specs.Prelude.{◌≡◌, ◌≢◌, ◌⊎◌, ◌<◌, ◌≤◌, true, false, List, ◌∷◌, ◌++◌}
use Rattle.rje_day.specs.declared.day_place.DayPlace.{DayPlace}
use Rattle.rje_day.specs.declared.disposition.Disposition.{Disposition}
use Rattle.rje_day.specs.declared.next_action.NextAction.{NextAction}
use Rattle.rje_day.specs.declared.day_event.DayEvent.{DayEvent}
use Rattle.rje_day.specs.declared.inputs.Inputs.{Inputs}
use Rattle.rje_day.specs.declared.settings.Settings.{Settings}
use Rattle.rje_day.specs.Day.{duty_of, is_in_hand}
use Rattle.rje_day.specs.Giving.{AllMayOccur, Becomes, Name, Occurrence, Transmission, Transmitted, WasGiven}
use Rattle.rje_day.specs.History.{History, IsDay, Moment, breaks, kept_after, other_carried, own_carried, quiet_hearings, stands_after, was_served}

-- in this moment a connection broke, a transmission in hand
abbrev pub HasBroken : Moment → History → Type 0
HasBroken m past = (m.event ≡ DayEvent.Disconnected) × (is_in_hand (stands_after past) ≡ true)

-- each transmission begins with new stations: those in use carry at most one each way
abbrev pub CarryOneEachWay : Type 0
CarryOneEachWay =
    (settings : Settings) (h : History) → IsDay settings h → (own_carried settings h ≤ 1) × (other_carried settings h ≤ 1)

-- a transmission begins only where none is in hand: one of its own where the last one ended, by an EOT that was said or heard, or none was
-- begun on this connection; one of the other end's also where its own bid gives way
abbrev pub BeginWhereNoneIsInHand : Type 0
BeginWhereNoneIsInHand =
    (settings : Settings) (m : Moment) (past : History) → IsDay settings (m ∷ past)
    → (m.event ≡ DayEvent.OwnBegan → stands_after past ≡ DayPlace.Free)
    × (m.event ≡ DayEvent.OtherBegan → (stands_after past ≡ DayPlace.Free) ⊎ (stands_after past ≡ DayPlace.Sending))

-- a station that isn't drained, and whose line isn't wanted, hangs up only where no transmission is in hand, and not before so many hearings in a
-- row without a word as there is patience for
abbrev pub HangsUpTheIdleAlone : Type 0
HangsUpTheIdleAlone =
    (settings : Settings) (h : History) (seen : Inputs) → IsDay settings h → duty_of (kept_after settings h) seen ≡ NextAction.HangUp
    → (stands_after h ≡ DayPlace.Free) × ((seen.drained ≡ true) ⊎ (seen.line_wanted ≡ true) ⊎ (settings.patience ≤ quiet_hearings h))

-- and it does hang up then
abbrev pub HangsUpTheIdle : Type 0
HangsUpTheIdle =
    (settings : Settings) (h : History) (seen : Inputs) → IsDay settings h → stands_after h ≡ DayPlace.Free
    → settings.patience ≤ quiet_hearings h → duty_of (kept_after settings h) seen ≡ NextAction.HangUp

-- A station that calls, isn't drained and isn't to end calls at once after a connection that broke, where it is the first since a transmission
-- ended well.
abbrev pub CallsAgainAtOnce : Type 0
CallsAgainAtOnce =
    (settings : Settings) (m : Moment) (past : History) (seen : Inputs) → IsDay settings (m ∷ past) → HasBroken m past → breaks past ≡ 0
    → settings.calls ≡ true → settings.once ≡ false → seen.drained ≡ false → duty_of (kept_after settings (m ∷ past)) seen ≡ NextAction.Call

-- after each further one it waits until the time to call again has come, whatever lies ready
abbrev pub CallsAgainInTime : Type 0
CallsAgainInTime =
    (settings : Settings) (m : Moment) (past : History) (seen : Inputs) → IsDay settings (m ∷ past) → HasBroken m past → 0 < breaks past
    → duty_of (kept_after settings (m ∷ past)) seen ≡ NextAction.Call → seen.call_due ≡ true

-- a station that isn't drained ends only after one connection on which the other end said a word, and only if it was told so
abbrev pub EndsAfterOne : Type 0
EndsAfterOne =
    (settings : Settings) (h : History) (seen : Inputs) → IsDay settings h → duty_of (kept_after settings h) seen ≡ NextAction.End
    → (seen.drained ≡ true) ⊎ ((settings.once ≡ true) × (was_served h ≡ true))

-- a job that one transmission sent or left in doubt is given to no later one
abbrev pub GivesNoJobAgain : Type 0
GivesNoJobAgain =
    (later earlier : List Occurrence) (t : Transmission) (name : Name) (what : Disposition)
    → AllMayOccur (later ++ Transmitted t ∷ earlier) → Becomes what name t → what ≢ Disposition.Ready → WasGiven later name → ⊥
