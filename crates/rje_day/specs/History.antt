-- A day, looked back over (own profile). Histories have the newest moment first.
use Rattle.std.specs.Prelude.{◌≡◌, ℕ, ◌+◌, Bool, true, false, ◌||◌, List, [], ◌∷◌, if◌then◌else◌}
use Rattle.rje_day.specs.declared.day_place.DayPlace.{DayPlace}
use Rattle.rje_day.specs.declared.next_action.NextAction.{NextAction}
use Rattle.rje_day.specs.declared.day_event.DayEvent.{DayEvent}
use Rattle.rje_day.specs.declared.inputs.Inputs.{Inputs}
use Rattle.rje_day.specs.declared.settings.Settings.{Settings}
use Rattle.rje_day.specs.Day.{DayState, after, can_come, duty_of, first_day_state, is_in_hand}
use Rattle.rje_day.specs.Duties.{makes_stations}
use Rattle.rje_day.specs.Ended.{all_counted, was_answered}

-- one moment of a day: what was seen as the station asked what is next, and what happened when it did that
pub record Moment : Type 0 where
  pub seen : Inputs
  pub event : DayEvent

abbrev pub History : Type 0
History = List Moment

-- what the station keeps after these
abbrev pub kept_after : Settings → History → DayState
kept_after settings [] = first_day_state settings
kept_after settings (m ∷ past) = after m.event (kept_after settings past)

-- what it did in a moment after these
abbrev pub done_in : Settings → Moment → History → NextAction
done_in settings m past = duty_of (kept_after settings past) m.seen

-- what can come of what it does
abbrev pub can_follow : NextAction → DayEvent → Bool
can_follow NextAction.Listen DayEvent.Connected = true
can_follow NextAction.Listen DayEvent.NoConnection = true
can_follow NextAction.Call DayEvent.Connected = true
can_follow NextAction.Call DayEvent.NoConnection = true
can_follow NextAction.Bid DayEvent.OwnBegan = true
can_follow NextAction.Bid DayEvent.Disconnected = true
can_follow NextAction.Hear DayEvent.Quiet = true
can_follow NextAction.Hear DayEvent.Heard = true
can_follow NextAction.Hear DayEvent.OtherBegan = true
can_follow NextAction.Hear DayEvent.Disconnected = true
can_follow NextAction.GoOn DayEvent.Quiet = true
can_follow NextAction.GoOn DayEvent.Heard = true
can_follow NextAction.GoOn DayEvent.OtherBegan = true
can_follow NextAction.GoOn (DayEvent.OwnEnded how) = true
can_follow NextAction.GoOn DayEvent.OtherEnded = true
can_follow NextAction.GoOn DayEvent.Disconnected = true
can_follow NextAction.HangUp DayEvent.Disconnected = true
can_follow _ _ = false

-- the moment may come after these: its event can come where the station stands, and of what it does
pub record MayCome (settings : Settings) (m : Moment) (past : History) : Type 0 where
  pub here : can_come m.event (kept_after settings past).place ≡ true
  pub follows : can_follow (done_in settings m past) m.event ≡ true

-- a day, in which the station does at each moment what is next
abbrev pub IsDay : Settings → History → Type 0
IsDay settings [] = Unit {0}
IsDay settings (m ∷ past) = MayCome settings m past × IsDay settings past

-- WHAT IS TOLD BY LOOKING BACK

-- where the station stands: the last event that moved it tells
abbrev pub stands_after : History → DayPlace
stands_after [] = DayPlace.Apart
stands_after (m ∷ past) = elim m.event [
  | DayEvent.Connected ↦ DayPlace.Free
  | DayEvent.OwnBegan ↦ DayPlace.Sending
  | DayEvent.OtherBegan ↦ DayPlace.Receiving
  | DayEvent.OwnEnded how ↦ DayPlace.Free
  | DayEvent.OtherEnded ↦ DayPlace.Free
  | DayEvent.Disconnected ↦ DayPlace.Apart
  | _ ↦ stands_after past
]

-- the other end has said a word on this connection: something that was heard, a bid, the EOT of its transmission, or the answers of one of the
-- station's own
abbrev pub has_word : History → Bool
has_word [] = false
has_word (m ∷ past) = elim m.event [
  | DayEvent.Heard ↦ true
  | DayEvent.OtherBegan ↦ true
  | DayEvent.OtherEnded ↦ true
  | DayEvent.OwnEnded how ↦ has_word past || was_answered how
  | DayEvent.Disconnected ↦ false
  | _ ↦ has_word past
]

-- how many hearings brought nothing since the other end said a word on this connection, or since it began
abbrev pub quiet_hearings : History → ℕ
quiet_hearings [] = 0
quiet_hearings (m ∷ past) = elim m.event [
  | DayEvent.Quiet ↦ quiet_hearings past + 1
  | DayEvent.Heard ↦ 0
  | DayEvent.OtherBegan ↦ 0
  | DayEvent.OwnEnded how ↦ if was_answered how then 0 else quiet_hearings past
  | DayEvent.OtherEnded ↦ 0
  | DayEvent.Disconnected ↦ 0
  | _ ↦ quiet_hearings past
]

-- how many connections broke, a transmission in hand, since a transmission ended well: one of its own with all jobs counted, or one of the
-- other end's
abbrev pub breaks : History → ℕ
breaks [] = 0
breaks (m ∷ past) = elim m.event [
  | DayEvent.OwnEnded how ↦ if all_counted how then 0 else breaks past
  | DayEvent.OtherEnded ↦ 0
  | DayEvent.Disconnected ↦ breaks past + (if is_in_hand (stands_after past) then 1 else 0)
  | _ ↦ breaks past
]

-- a connection is over on which the other end said a word
abbrev pub was_served : History → Bool
was_served [] = false
was_served (m ∷ past) = elim m.event [ DayEvent.Disconnected ↦ was_served past || has_word past | _ ↦ was_served past ]

-- HOW MANY TRANSMISSIONS THE STATIONS IN USE HAVE CARRIED

abbrev pub own_begun : DayEvent → ℕ
own_begun DayEvent.OwnBegan = 1
own_begun _ = 0

abbrev pub other_begun : DayEvent → ℕ
other_begun DayEvent.OtherBegan = 1
other_begun _ = 0

-- of the station's own, since new stations were made
abbrev pub own_carried : Settings → History → ℕ
own_carried settings [] = 0
own_carried settings (m ∷ past) = (if makes_stations (done_in settings m past) then 0 else own_carried settings past) + own_begun m.event

-- of the other end's, since new stations were made
abbrev pub other_carried : Settings → History → ℕ
other_carried settings [] = 0
other_carried settings (m ∷ past) = (if makes_stations (done_in settings m past) then 0 else other_carried settings past) + other_begun m.event
