-- The day of a station goes on, over its connections.
use Rattle.std.proofs.Common.{◌≡◌, true, false, refl, sym, subst}
use Rattle.rje_day.specs.declared.day_place.DayPlace.{DayPlace}
use Rattle.rje_day.specs.declared.next_action.NextAction.{NextAction}
use Rattle.rje_day.specs.declared.day_event.DayEvent.{DayEvent}
use Rattle.rje_day.specs.declared.inputs.Inputs.{Inputs}
use Rattle.rje_day.specs.Day.{DayState, after, can_come, duty_of}
use Rattle.rje_day.specs.History.{can_follow}
use Rattle.rje_session.specs.Staying.{GoesOnAsDay}
use Rattle.rje_session.proofs.DayOn.{day_step, day_still, gone_step}
use Rattle.rje_daemon.specs.Calling.{SeeksConnection}

-- a connection is come to
pub connected_step : (d d' : DayState) (seen : Inputs) → SeeksConnection d seen → d' ≡ after DayEvent.Connected d → GoesOnAsDay d d'
connected_step d d' seen seeks now = day_step d d' seen DayEvent.Connected (rw seeks.0 refl) seeks.1 now

fails_as_it_connects : (duty : NextAction) → can_follow duty DayEvent.Connected ≡ true → can_follow duty DayEvent.NoConnection ≡ true
fails_as_it_connects NextAction.Listen follows = refl
fails_as_it_connects NextAction.Call follows = refl
fails_as_it_connects _ follows = absurd cc

-- none could be had
pub failed_step : (d d' : DayState) (seen : Inputs) → SeeksConnection d seen → d' ≡ after DayEvent.NoConnection d → GoesOnAsDay d d'
failed_step d d' seen seeks now = day_step d d' seen DayEvent.NoConnection (rw seeks.0 refl) (fails_as_it_connects (duty_of d seen) seeks.1) now

-- the operator drains the station
abbrev drains : Inputs
drains = record { ready = false; held = false; drained = true; call_due = false; line_wanted = false }

-- the connection is over, where it wasn't before
pub over_step : (d d' : DayState) → d' ≡ after DayEvent.Disconnected d → (can_come DayEvent.Disconnected d.place ≡ false → d' ≡ d) → GoesOnAsDay d d'
over_step d d' now stays = at d.place refl where
  at : (place : DayPlace) → d.place ≡ place → GoesOnAsDay d d'
  at DayPlace.Apart is = subst (λ (x : DayState). GoesOnAsDay d x) (sym (stays (rw is refl))) (day_still d)
  at DayPlace.Free is = gone_step d d' drains (duty_of d drains) refl (rw is refl) now
  at DayPlace.Sending is = gone_step d d' drains (duty_of d drains) refl (rw is refl) now
  at DayPlace.Receiving is = gone_step d d' drains (duty_of d drains) refl (rw is refl) now
