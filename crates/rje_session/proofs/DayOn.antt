-- A day goes on, moment after moment.
use Rattle.std.proofs.lemmas.Grind.{common_steps}
use Rattle.std.proofs.Common.{◌≡◌, arith, true, false, Bool, if◌then◌else◌, [], ◌∷◌, ◌++◌, append_assoc, refl, ap, sym, ◌∙◌, subst}
use Rattle.rje_day.specs.declared.day_place.DayPlace.{DayPlace}
use Rattle.rje_day.specs.declared.day_event.DayEvent.{DayEvent}
use Rattle.rje_day.specs.declared.inputs.Inputs.{Inputs}
use Rattle.rje_day.specs.Day.{DayState, after, can_come, duty_of, is_connected, is_in_hand}
use Rattle.rje_day.specs.History.{History, IsDay, can_follow, kept_after}
use Rattle.rje_day.specs.declared.next_action.NextAction.{NextAction}
use Rattle.rje_station.specs.Station.{is_receiving}
use Rattle.rje_session.specs.Account.{ComesOf}
use Rattle.rje_session.specs.Staying.{GoesOnAsDay, is_of_connection, place_in_hand}
use Rattle.rje_session.specs.Turns.{Carried}

pub day_still : (d : DayState) → GoesOnAsDay d d
day_still d settings past day is = ([], day, is)

pub day_then : (a b c : DayState) → GoesOnAsDay a b → GoesOnAsDay b c → GoesOnAsDay a c
day_then a b c first next settings past day is =
    let f = first settings past day is in
    let n = next settings (f.0 ++ past) f.1 f.2 in
    let same : n.0 ++ (f.0 ++ past) ≡ (n.0 ++ f.0) ++ past = sym (append_assoc n.0 f.0 past) in
    (n.0 ++ f.0, subst (λ (h : History). IsDay settings h) same n.1, n.2 ∙ ap (kept_after settings) same)

pub day_step : (d d' : DayState) (seen : Inputs) (event : DayEvent) → can_come event d.place ≡ true → can_follow (duty_of d seen) event ≡ true → d' ≡ after event d → GoesOnAsDay d d'
day_step d d' seen event here follows is settings past day at = (
  record { seen = seen; event = event } ∷ [],
  (record { here = subst (λ (x : DayState). can_come event x.place ≡ true) at here; follows = subst (λ (x : DayState). can_follow (duty_of x seen) event ≡ true) at follows }, day),
  is ∙ ap (after event) at,
)

-- with a transmission in hand it goes on
goes_on : (d : DayState) (seen : Inputs) (r : Bool) → d.place ≡ place_in_hand r → duty_of d seen ≡ NextAction.GoOn
goes_on d seen true is = rw is refl
goes_on d seen false is = rw is refl

in_hand_step : (d d' : DayState) (seen : Inputs) (r : Bool) (event : DayEvent) → d.place ≡ place_in_hand r → can_come event (place_in_hand r) ≡ true → can_follow NextAction.GoOn event ≡ true → d' ≡ after event d
    → GoesOnAsDay d d'
in_hand_step d d' seen r event is comes follows now = day_step d d' seen event (rw is comes) (rw (goes_on d seen r is) follows) now

pub comes_step : (c c' : Carried) (event : DayEvent) (d d' : DayState) (seen : Inputs) → d.place ≡ place_in_hand (is_receiving c.station.contender.place) → ComesOf c c' event → d' ≡ after event d → GoesOnAsDay d d'
comes_step c c' (DayEvent.OwnEnded ended) d d' seen is comes now = in_hand_step d d' seen false (DayEvent.OwnEnded ended) (is ∙ ap place_in_hand comes.0) refl refl now
comes_step c c' DayEvent.OtherBegan d d' seen is comes now = in_hand_step d d' seen false DayEvent.OtherBegan (is ∙ ap place_in_hand comes.0) refl refl now
comes_step c c' DayEvent.OtherEnded d d' seen is comes now = in_hand_step d d' seen true DayEvent.OtherEnded (is ∙ ap place_in_hand comes.0) refl refl now
comes_step c c' DayEvent.Disconnected d d' seen is comes now = gone_in (is_receiving c.station.contender.place) is where
  gone_in : (r : Bool) → d.place ≡ place_in_hand r → GoesOnAsDay d d'
  gone_in true at = in_hand_step d d' seen true DayEvent.Disconnected at refl refl now
  gone_in false at = in_hand_step d d' seen false DayEvent.Disconnected at refl refl now
comes_step c c' DayEvent.Connected d d' seen is comes now = absurd comes
comes_step c c' DayEvent.NoConnection d d' seen is comes now = absurd comes
comes_step c c' DayEvent.Quiet d d' seen is comes now = absurd comes
comes_step c c' DayEvent.Heard d d' seen is comes now = absurd comes
comes_step c c' DayEvent.OwnBegan d d' seen is comes now = absurd comes

-- with none in hand something is begun, heard, or the connection is gone
pub free_step : (d d' : DayState) (seen : Inputs) (duty : NextAction) (event : DayEvent) → duty_of d seen ≡ duty → d.place ≡ DayPlace.Free → can_come event DayPlace.Free ≡ true → can_follow duty event ≡ true
    → d' ≡ after event d → GoesOnAsDay d d'
free_step d d' seen duty event next is comes follows now = day_step d d' seen event (rw is comes) (rw next follows) now

pub heard_step : (d d' : DayState) (seen : Inputs) (word : Bool) → duty_of d seen ≡ NextAction.Hear → d.place ≡ DayPlace.Free → d' ≡ after (if word then DayEvent.Heard else DayEvent.Quiet) d → GoesOnAsDay d d'
heard_step d d' seen false next is now = free_step d d' seen NextAction.Hear DayEvent.Quiet next is refl refl now
heard_step d d' seen true next is now = free_step d d' seen NextAction.Hear DayEvent.Heard next is refl refl now

word_at : (d d' : DayState) (seen : Inputs) (place : DayPlace) → d.place ≡ place → is_in_hand place ≡ true → d' ≡ after DayEvent.Heard d → GoesOnAsDay d d' × (d'.place ≡ d.place)
word_at d d' seen DayPlace.Sending at held now = (in_hand_step d d' seen false DayEvent.Heard at refl refl now, now_place d d' at now) where
  now_place : (d d' : DayState) → d.place ≡ DayPlace.Sending → d' ≡ after DayEvent.Heard d → d'.place ≡ d.place
  now_place d d' at now = grind (arith, common_steps)
word_at d d' seen DayPlace.Receiving at held now = (in_hand_step d d' seen true DayEvent.Heard at refl refl now, now_place d d' at now) where
  now_place : (d d' : DayState) → d.place ≡ DayPlace.Receiving → d' ≡ after DayEvent.Heard d → d'.place ≡ d.place
  now_place d d' at now = grind (arith, common_steps)
word_at d d' seen DayPlace.Apart at held now = cc
word_at d d' seen DayPlace.Free at held now = cc

-- with a transmission in hand the other end says a word
pub word_step : (d d' : DayState) (seen : Inputs) → is_in_hand d.place ≡ true → d' ≡ after DayEvent.Heard d → GoesOnAsDay d d'
word_step d d' seen held now = (word_at d d' seen d.place refl held now).0

connected : (d : DayState) (seen : Inputs) → is_of_connection (duty_of d seen) ≡ true → is_connected d.place ≡ true
connected d seen of = grind (arith, common_steps)

gone_follows : (duty : NextAction) → is_of_connection duty ≡ true → can_follow duty DayEvent.Disconnected ≡ true
gone_follows NextAction.Bid of = refl
gone_follows NextAction.Hear of = refl
gone_follows NextAction.GoOn of = refl
gone_follows NextAction.HangUp of = refl
gone_follows _ of = absurd cc

gone_comes : (place : DayPlace) → is_connected place ≡ true → can_come DayEvent.Disconnected place ≡ true
gone_comes DayPlace.Apart is = is
gone_comes _ is = refl

-- the connection is gone, or is left
pub gone_step : (d d' : DayState) (seen : Inputs) (duty : NextAction) → duty ≡ duty_of d seen → is_of_connection duty ≡ true → d' ≡ after DayEvent.Disconnected d → GoesOnAsDay d d'
gone_step d d' seen duty next of now =
    let there : is_of_connection (duty_of d seen) ≡ true = rw (sym next) of in
    day_step d d' seen DayEvent.Disconnected (gone_comes d.place (connected d seen there)) (gone_follows (duty_of d seen) there) now
