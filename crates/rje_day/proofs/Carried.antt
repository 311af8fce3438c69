-- The stations in use carry at most one transmission each way.
use Rattle.std.proofs.Common.{◌≡◌, refl, ℕ, ◌+◌, ◌≤◌, true, cond, arith, [], ◌∷◌}
use Rattle.std.proofs.lemmas.Grind.{common_steps}
use Rattle.rje_day.specs.declared.day_place.DayPlace.{DayPlace}
use Rattle.rje_day.specs.declared.day_event.DayEvent.{DayEvent}
use Rattle.rje_day.specs.declared.inputs.Inputs.{Inputs}
use Rattle.rje_day.specs.declared.settings.Settings.{Settings}
use Rattle.rje_day.specs.Day.{DayState, after, can_come, duty_of}
use Rattle.rje_day.specs.Duties.{makes_stations}
use Rattle.rje_day.specs.History.{History, IsDay, can_follow, kept_after, other_begun, other_carried, own_begun, own_carried}
use Rattle.rje_day.specs.Laws.{CarryOneEachWay}

-- at most one each way, and while its own transmission is in hand none of the other end's
record IsCarried (d : DayState) (own other : ℕ) : Type 0 where
  own_one : own ≤ 1
  other_one : other ≤ 1
  other_none : d.place ≡ DayPlace.Sending → other ≡ 0

carried-step : (d : DayState) (seen : Inputs) (event : DayEvent) (own other : ℕ) → can_come event d.place ≡ true → can_follow (duty_of d seen) event ≡ true → IsCarried d own other
    → IsCarried (after event d) (cond (makes_stations (duty_of d seen)) 0 own + own_begun event) (cond (makes_stations (duty_of d seen)) 0 other + other_begun event)
carried-step d seen event own other here follows before = record {
  own_one = grind (arith, common_steps);
  other_one = grind (arith, common_steps);
  other_none = λ e. grind (arith, common_steps);
}

carried : (settings : Settings) (h : History) → IsDay settings h → IsCarried (kept_after settings h) (own_carried settings h) (other_carried settings h)
carried settings [] day = record { own_one = omega arith; other_one = omega arith; other_none = λ e. refl }
carried settings (m ∷ past) day =
    carried-step (kept_after settings past) m.seen m.event (own_carried settings past) (other_carried settings past) day.0.here day.0.follows (carried settings past day.1)

pub carry_one_each_way : CarryOneEachWay
carry_one_each_way settings h day = let c = carried settings h day in (c.own_one, c.other_one)
