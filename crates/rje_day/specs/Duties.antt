-- When a station that stays on the line does what (own profile).
use Rattle.std.specs.Prelude.{◌≡◌, ◌⊎◌, ◌<◌, Bool, true, false}
use Rattle.rje_day.specs.declared.day_place.DayPlace.{DayPlace}
use Rattle.rje_day.specs.declared.next_action.NextAction.{NextAction}
use Rattle.rje_day.specs.declared.inputs.Inputs.{Inputs}
use Rattle.rje_day.specs.Day.{DayState}

-- its own transmission is in hand, or the other end's
abbrev pub IsInHand : DayPlace → Type 0
IsInHand place = (place ≡ DayPlace.Sending) ⊎ (place ≡ DayPlace.Receiving)

-- it bids where there is a connection, no transmission is in hand, and something lies ready that isn't held back: but not once it is drained,
-- not while it is the other end's turn, not where the line is wanted, and not once patience with an end that says no word is over
pub record MustBid (d : DayState) (seen : Inputs) : Type 0 where
  pub free : d.place ≡ DayPlace.Free
  pub ready : seen.ready ≡ true
  pub not_held : seen.held ≡ false
  pub not_drained : seen.drained ≡ false
  pub own_turn : d.others_turn ≡ false
  pub not_wanted : seen.line_wanted ≡ false
  pub patient : 0 < d.patience

-- it calls, if it is one that calls, where there is no connection: when the time to call again has come, once at once after a connection that
-- broke, or at once for what lies ready and isn't held back, unless its last attempt failed; but not once it is drained, or its one connection
-- is over
pub record MustCall (d : DayState) (seen : Inputs) : Type 0 where
  pub apart : d.place ≡ DayPlace.Apart
  pub calls : d.settings.calls ≡ true
  pub not_drained : seen.drained ≡ false
  pub not_over : (d.settings.once ≡ false) ⊎ (d.served ≡ false)
  pub now : (seen.call_due ≡ true) ⊎ (d.redials ≡ true) ⊎ ((seen.ready ≡ true) × (seen.held ≡ false) × (d.failed ≡ false))

-- it makes new stations where it bids or hears: only where no transmission is in hand
abbrev pub makes_stations : NextAction → Bool
makes_stations NextAction.Bid = true
makes_stations NextAction.Hear = true
makes_stations _ = false

-- it seeks a connection where it listens or calls
abbrev pub seeks_connection : NextAction → Bool
seeks_connection NextAction.Listen = true
seeks_connection NextAction.Call = true
seeks_connection _ = false

-- it hangs up where no transmission is in hand: once it is drained, where the line is wanted, or where patience with the other end is over
pub record MustHangUp (d : DayState) (seen : Inputs) : Type 0 where
  pub free : d.place ≡ DayPlace.Free
  pub why : (seen.drained ≡ true) ⊎ (seen.line_wanted ≡ true) ⊎ (d.patience ≡ 0)

-- it ends where there is no connection: once it is drained, or after its one connection on which the other end said something
pub record MustEnd (d : DayState) (seen : Inputs) : Type 0 where
  pub apart : d.place ≡ DayPlace.Apart
  pub why : (seen.drained ≡ true) ⊎ ((d.settings.once ≡ true) × (d.served ≡ true))
