-- How a transmission ended: by the line of the saying rule that gave EOT, or by an EOT that was heard. Own profile.
use Rattle.std.specs.Prelude.{Bool, false, [], ◌∷◌, Option, Some}
use Rattle.bsc_link.specs.declared.sound.Sound.{Sound}
use Rattle.bsc_link.specs.declared.say.Say.{Say}
use Rattle.bsc_link.specs.declared.outcome.Outcome.{Outcome}
use Rattle.bsc_history.specs.History.{History, Plan}
use Rattle.bsc_history.specs.Known.{gives_up_now}
use Rattle.bsc_history.specs.SayingRule.{due_after, outcome_due}

-- Ended where EOT was heard; else by the line that gave EOT in the last turn, or gives it after that turn. `gave_up`: whether the sender
-- gave up before the last turn; `gives_up`: whether it does after it
abbrev pub outcome_by : Plan → Bool → Bool → History → Option Outcome
outcome_by plan gave_up gives_up [] = outcome_due (due_after plan gives_up [])
outcome_by plan gave_up gives_up (t ∷ past) =
    elim t.heard [
      | Sound.Eot ↦ Some Outcome.Ended
      | _ ↦ elim t.said [ Say.End ↦ outcome_due (due_after plan gave_up past) | _ ↦ outcome_due (due_after plan gives_up (t ∷ past)) ]
    ]

-- the sender gave up before the last turn
abbrev pub gave_up_before : History → Bool
gave_up_before [] = false
gave_up_before (t ∷ past) = gives_up_now past

-- the outcome of a transmission that has blocks, if it ends
abbrev pub outcome_after : Plan → History → Option Outcome
outcome_after plan h = outcome_by plan (gave_up_before h) (gives_up_now h) h

-- the outcome: with no blocks a transmission is done before it begins
abbrev pub outcome : Plan → History → Option Outcome
outcome [] h = Some Outcome.Done
outcome (begins ∷ plan) h = outcome_after (begins ∷ plan) h
