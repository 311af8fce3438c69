-- What a station keeps of its day is what looking back over the day tells: so whom it hangs up, when it calls again, and when it ends.
use Rattle.std.proofs.Common.{◌≡◌, refl, sym, ◌∙◌, ◌-◌, true, arith, nat_lt, [], ◌∷◌}
use Rattle.std.proofs.lemmas.Grind.{common_steps}
use Rattle.rje_day.specs.declared.next_action.NextAction.{NextAction}
use Rattle.rje_day.specs.declared.inputs.Inputs.{Inputs}
use Rattle.rje_day.specs.declared.settings.Settings.{Settings}
use Rattle.rje_day.specs.Day.{DayState, after, can_come, duty_of}
use Rattle.rje_day.specs.Duties.{MustEnd, MustHangUp}
use Rattle.rje_day.specs.History.{History, IsDay, Moment, breaks, has_word, kept_after, quiet_hearings, stands_after, was_served}
use Rattle.rje_day.specs.Laws.{BeginWhereNoneIsInHand, CallsAgainAtOnce, CallsAgainInTime, EndsAfterOne, HangsUpTheIdle, HangsUpTheIdleAlone}

-- what is kept is what is told
record IsTold (settings : Settings) (h : History) (d : DayState) : Type 0 where
  settings_are : d.settings ≡ settings
  place_is : d.place ≡ stands_after h
  word_is : d.has_spoken ≡ has_word h
  patience_is : d.patience ≡ settings.patience - quiet_hearings h
  served_is : d.served ≡ was_served h
  broke_is : d.broke ≡ nat_lt 0 (breaks h)

after-told : (settings : Settings) (m : Moment) (past : History) (d : DayState) → can_come m.event d.place ≡ true → IsTold settings past d → IsTold settings (m ∷ past) (after m.event d)
after-told settings m past d here told = grind (arith, common_steps)

kept-told : (settings : Settings) (h : History) → IsDay settings h → IsTold settings h (kept_after settings h)
kept-told settings [] day = record { settings_are = refl; place_is = refl; word_is = refl; patience_is = omega arith; served_is = refl; broke_is = refl }
kept-told settings (m ∷ past) day = after-told settings m past (kept_after settings past) day.0.here (kept-told settings past day.1)

must_hang_up : (d : DayState) (seen : Inputs) → duty_of d seen ≡ NextAction.HangUp → MustHangUp d seen
must_hang_up d seen e = grind (arith, common_steps)

hangs_up : (d : DayState) (seen : Inputs) → MustHangUp d seen → duty_of d seen ≡ NextAction.HangUp
hangs_up d seen must = grind (arith, common_steps)

must_end : (d : DayState) (seen : Inputs) → duty_of d seen ≡ NextAction.End → MustEnd d seen
must_end d seen e = grind (arith, common_steps)

pub hangs_up_the_idle_alone : HangsUpTheIdleAlone
hangs_up_the_idle_alone settings h seen day e =
    let told = kept-told settings h day in let must = must_hang_up (kept_after settings h) seen e in let why = must.why in (sym told.place_is ∙ must.free, grind (arith, common_steps))

pub hangs_up_the_idle : HangsUpTheIdle
hangs_up_the_idle settings h seen day free long =
    let told = kept-told settings h day in
    let d = kept_after settings h in
    let must : MustHangUp d seen = grind (arith, common_steps) in
    hangs_up d seen must

pub begin_where_none_is_in_hand : BeginWhereNoneIsInHand
begin_where_none_is_in_hand settings m past day =
    let told = kept-told settings past day.1 in let here = day.0.here in
    (λ own. grind (arith, common_steps), λ other. grind (arith, common_steps))

pub calls_again_at_once : CallsAgainAtOnce
calls_again_at_once settings m past seen day broken first calls once drained =
    let told = kept-told settings past day.1 in let here = day.0.here in let gone = broken.0 in let held = broken.1 in
    grind (arith, common_steps)

pub calls_again_in_time : CallsAgainInTime
calls_again_in_time settings m past seen day broken more e =
    let told = kept-told settings past day.1 in let here = day.0.here in let gone = broken.0 in let held = broken.1 in
    grind (arith, common_steps)

pub ends_after_one : EndsAfterOne
ends_after_one settings h seen day e =
    let told = kept-told settings h day in let why = (must_end (kept_after settings h) seen e).why in grind (arith, common_steps)
