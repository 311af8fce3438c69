-- The saying rule: what is due at a sender after a history. IBM GA27-3004; the limits of seven tries and three hundred holds, and what
-- RVI and TTD do, are own profile.
use Rattle.std.specs.Prelude.{Bool, if◌then◌else◌, [], ◌∷◌, Option, Some, None}
use Rattle.bsc_link.specs.declared.sound.Sound.{Sound}
use Rattle.bsc_link.specs.declared.say.Say.{Say}
use Rattle.bsc_link.specs.declared.next.Next.{Next}
use Rattle.bsc_link.specs.declared.outcome.Outcome.{Outcome}
use Rattle.bsc_history.specs.declared.spoken_turn.SpokenTurn.{SpokenTurn}
use Rattle.bsc_history.specs.History.{History, Plan, what_follows, is_over}
use Rattle.bsc_history.specs.Known.{known, has_heard_rvi, has_grant, is_progress}

-- what a line of the rule gives: nothing, for the transmission is over; EOT, and how the transmission ends; or something else to say
pub data Due : Type 0 where
  Nothing : Due
  Ends : Outcome → Due
  Says : Say → Due

-- the next block is due, but where it has to wait, TTD
abbrev pub next_block_due : Bool → Due
next_block_due pause = if pause then Says Say.Delay else Says Say.Block

-- after progress: Done where no block is left; Turned where an RVI was heard and the next block begins a job; else the next block
abbrev pub due_after_progress : Next → Bool → Bool → Due
due_after_progress Next.Done heard_rvi pause = Ends Outcome.Done
due_after_progress Next.NewJob heard_rvi pause = if heard_rvi then Ends Outcome.Turned else next_block_due pause
due_after_progress Next.Block heard_rvi pause = next_block_due pause

-- after a TTD: the block where NAK was heard and there is no pause any more, else TTD once more
abbrev pub due_after_delay : Sound → Bool → Due
due_after_delay Sound.Nak pause = next_block_due pause
due_after_delay _ pause = Says Say.Delay

-- after a block that wasn't acknowledged: the block again where NAK was heard, else ask
abbrev pub due_after_block : Sound → Due
due_after_block Sound.Nak = Says Say.Again
due_after_block _ = Says Say.Ask

-- after an inquiry that didn't count: the block again where NAK, an ACK (the wrong one, then) or an RVI (an old one, then) was heard; else ask
abbrev pub due_after_inquiry : Sound → Due
due_after_inquiry Sound.Nak = Says Say.Again
due_after_inquiry Sound.Ack0 = Says Say.Again
due_after_inquiry Sound.Ack1 = Says Say.Again
due_after_inquiry Sound.Rvi = Says Say.Again
due_after_inquiry _ = Says Say.Ask

-- after a turn without progress, by what it said; a bid without a grant, EOT and nothing never stand here
abbrev pub due_without_progress : SpokenTurn → Due
due_without_progress t = elim t.said [
  | Say.Delay ↦ due_after_delay t.heard t.pause
  | Say.Block ↦ due_after_block t.heard
  | Say.Again ↦ due_after_block t.heard
  | Say.Ask ↦ due_after_inquiry t.heard
  | _ ↦ Says Say.Ask
]

-- after the grant
abbrev pub due_when_granted : Plan → History → Due
due_when_granted plan [] = Says Say.Bid
due_when_granted plan (t ∷ past) =
    if is_progress past t
    then due_after_progress (what_follows plan (known (t ∷ past))) (has_heard_rvi (t ∷ past)) t.pause
    else due_without_progress t

-- what is due after a history, by the first line that applies: nothing after the end; EOT where the sender gives up; a bid before a
-- grant; and what the last turn asks for after it
abbrev pub due_after : Plan → Bool → History → Due
due_after plan gives_up past =
    if is_over past
    then Nothing
    else (if gives_up then Ends Outcome.GaveUp else (if has_grant past then due_when_granted plan past else Says Say.Bid))

-- what is said of it
abbrev pub said_of : Due → Say
said_of Nothing = Say.Nothing
said_of (Ends outcome) = Say.End
said_of (Says say) = say

-- how the transmission ends by it
abbrev pub outcome_due : Due → Option Outcome
outcome_due (Ends outcome) = Some outcome
outcome_due _ = None

-- what the sender says after a history, where it gives up and where it doesn't
abbrev pub saying : Plan → Bool → History → Say
saying plan gives_up past = said_of (due_after plan gives_up past)
