-- What a station that stays on the line does between transmissions, and what it keeps to know it: its table (own profile).
use Rattle.std.specs.Prelude.{ℕ, ◌-◌, ◌==◌, Bool, true, false, not, ◌&&◌, ◌||◌, if◌then◌else◌}
use Rattle.rje_day.specs.declared.day_place.DayPlace.{DayPlace}
use Rattle.rje_day.specs.declared.next_action.NextAction.{NextAction}
use Rattle.rje_day.specs.declared.day_event.DayEvent.{DayEvent}
use Rattle.rje_day.specs.declared.inputs.Inputs.{Inputs}
use Rattle.rje_day.specs.declared.settings.Settings.{Settings}
use Rattle.rje_day.specs.Ended.{all_counted, was_answered}

-- What a station keeps of its day.
pub record DayState : Type 0 where
  pub settings : Settings
  pub place : DayPlace
  -- its own transmission was the last, and the other end hasn't had a hearing to bid in since
  pub others_turn : Bool
  -- on this connection: whether the other end has said a word
  pub has_spoken : Bool
  -- how many more hearings without a word it has patience for
  pub patience : ℕ
  -- its last attempt failed: no connection could be had, or it is gone without a word or in the middle of a transmission, or its own last
  -- transmission there ended before all jobs were counted
  pub failed : Bool
  -- a connection is over on which the other end said a word
  pub served : Bool
  -- a connection broke, a transmission in hand, and none has ended well since
  pub broke : Bool
  -- the last connection was the first that did: it calls again at once, if it is one that calls
  pub redials : Bool

-- as the day begins
abbrev pub first_day_state : Settings → DayState
first_day_state settings = record {
  settings = settings;
  place = DayPlace.Apart;
  others_turn = false;
  has_spoken = false;
  patience = settings.patience;
  failed = false;
  served = false;
  broke = false;
  redials = false;
}

-- THE TABLE OF WHAT IS NEXT

-- something lies ready, and the operator doesn't hold it back
abbrev pub may_send : Inputs → Bool
may_send seen = seen.ready && not seen.held

-- it has been drained; or its one connection is over
abbrev pub is_done : DayState → Inputs → Bool
is_done d seen = seen.drained || (d.settings.once && d.served)

-- the time to call again has come; or it calls again after a connection that broke; or something may be sent, and the last attempt didn't fail
abbrev pub is_to_call : DayState → Inputs → Bool
is_to_call d seen = seen.call_due || (d.redials || (may_send seen && not d.failed))

-- it has been drained; or the line is wanted; or the other end has said nothing for as long as it has patience
abbrev pub is_to_hang_up : DayState → Inputs → Bool
is_to_hang_up d seen = seen.drained || (seen.line_wanted || d.patience == 0)

-- no connection
abbrev pub duty_apart : DayState → Inputs → NextAction
duty_apart d seen =
    if is_done d seen then NextAction.End
    else (if not d.settings.calls then NextAction.Listen else (if is_to_call d seen then NextAction.Call else NextAction.Wait))

-- a connection, and nothing in hand
abbrev pub duty_free : DayState → Inputs → NextAction
duty_free d seen =
    if is_to_hang_up d seen then NextAction.HangUp else (if may_send seen && not d.others_turn then NextAction.Bid else NextAction.Hear)

abbrev pub duty_of : DayState → Inputs → NextAction
duty_of d seen = elim d.place [
  | DayPlace.Apart ↦ duty_apart d seen
  | DayPlace.Free ↦ duty_free d seen
  | DayPlace.Sending ↦ NextAction.GoOn
  | DayPlace.Receiving ↦ NextAction.GoOn
]

-- THE TABLE OF EVENTS

-- there is a connection
abbrev pub is_connected : DayPlace → Bool
is_connected DayPlace.Apart = false
is_connected _ = true

-- there is one, and no transmission is in hand
abbrev pub is_free : DayPlace → Bool
is_free DayPlace.Free = true
is_free _ = false

-- its own transmission is in hand
abbrev pub is_sending : DayPlace → Bool
is_sending DayPlace.Sending = true
is_sending _ = false

-- a transmission is in hand
abbrev pub is_in_hand : DayPlace → Bool
is_in_hand place = is_connected place && not (is_free place)

-- where an event can come
abbrev pub can_come : DayEvent → DayPlace → Bool
can_come DayEvent.Connected place = not (is_connected place)
can_come DayEvent.NoConnection place = not (is_connected place)
can_come DayEvent.Quiet place = is_connected place
can_come DayEvent.Heard place = is_connected place
can_come DayEvent.OwnBegan place = is_free place
can_come DayEvent.OtherBegan DayPlace.Free = true
can_come DayEvent.OtherBegan DayPlace.Sending = true
can_come (DayEvent.OwnEnded how) DayPlace.Sending = true
can_come DayEvent.OtherEnded DayPlace.Receiving = true
can_come DayEvent.Disconnected place = is_connected place
can_come _ _ = false

-- where the other end said a word, patience with it begins anew
abbrev pub with_word : Bool → DayState → DayState
with_word said d = if said then record d { has_spoken = true; patience = d.settings.patience } else d

-- what an event comes to where it can come
abbrev pub coming_of : DayEvent → DayState → DayState
coming_of DayEvent.Connected d = record d { place = DayPlace.Free; failed = false; redials = false }
coming_of DayEvent.NoConnection d = record d { failed = true; redials = false }
-- a hearing, in which the other end could have bid
coming_of DayEvent.Quiet d = record d { others_turn = false; patience = d.patience - 1 }
coming_of DayEvent.Heard d = record (with_word true d) { others_turn = false }
coming_of DayEvent.OwnBegan d = record d { place = DayPlace.Sending }
coming_of DayEvent.OtherBegan d = record (with_word true d) { place = DayPlace.Receiving; others_turn = false }
-- then it is the other end's turn to bid
coming_of (DayEvent.OwnEnded how) d = record (with_word (was_answered how) d) {
  place = DayPlace.Free;
  others_turn = true;
  failed = not (all_counted how);
  broke = d.broke && not (all_counted how);
}
coming_of DayEvent.OtherEnded d = record (with_word true d) { place = DayPlace.Free; broke = false }
-- The next connection begins as the first one did, but where this one broke in its own transmission the other end has its turn first.
coming_of DayEvent.Disconnected d = record (first_day_state d.settings) {
  others_turn = is_sending d.place;
  failed = d.failed || not (d.has_spoken && is_free d.place);
  served = d.served || d.has_spoken;
  broke = d.broke || is_in_hand d.place;
  redials = is_in_hand d.place && not d.broke;
}

-- an event that can't come changes nothing
abbrev pub after : DayEvent → DayState → DayState
after event d = if can_come event d.place then coming_of event d else d
