-- The bridge from the rules to the stations: where two stations stand after a history. Own profile.
use Rattle.std.specs.Prelude.{◌≡◌, ◌<◌, false, List, ◌∷◌, length, slice_get, Some}
use Rattle.bsc_codes.specs.declared.block.Block.{Block}
use Rattle.bsc_frame.specs.declared.frame.Frame.TheVariants as frame
use Rattle.bsc_frame.specs.declared.heard.Heard.{Heard}
use Rattle.bsc_frame.specs.declared.heard.Heard.TheVariants as heard
use Rattle.bsc_link.specs.declared.say.Say.TheVariants as Say
use Rattle.rje_jobs.specs.declared.job.Job.{Job}
use Rattle.rje_jobs.specs.Blocks.{blocks}
use Rattle.rje_jobs.specs.Joined.{joined}
use Rattle.rje_station.specs.Hearing.{sound_heard}
use Rattle.rje_station.specs.JoinedJobs.{begun_in}
use Rattle.rje_station.specs.Laws.{HasCounted}
use Rattle.rje_station.specs.Receiving.{Receiving, MayRefuse, after_receiving}
use Rattle.rje_station.specs.Sending.{Sending, after_speaking, after_hearing}
use Rattle.bsc_history.specs.declared.spoken_turn.SpokenTurn.{SpokenTurn}
use Rattle.bsc_history.specs.History.{History, is_over}
use Rattle.bsc_history.specs.Known.{known}
use Rattle.bsc_history.specs.Got.{got}
use Rattle.bsc_history.specs.Conversation.{MayBeSpoken}
use Rattle.bsc_history.specs.Cores.{sender_after, receiver_after, IsSpoken}
use Rattle.line_world.specs.Plan.{plan_of, numbered}

-- the sending station stands where the history left it
pub record StandsSending (jobs : List Job) (h : History) (s : Sending) : Type 0 where
  pub jobs_are : s.jobs ≡ jobs
  pub core : s.core ≡ sender_after (plan_of (blocks jobs)) h
  pub counted : HasCounted jobs (known h) s
  pub over : s.over ≡ is_over h

-- one turn in which it speaks, and but for EOT hears, is one turn of the history
abbrev pub after_turn : Sending → SpokenTurn → Sending
after_turn s t = elim t.said [ Say.End ↦ after_speaking s | _ ↦ after_hearing (after_speaking s) t.heard t.pause ]

abbrev pub SendingTurns : Type 0
SendingTurns =
    (jobs : List Job) (h : History) (s : Sending) (t : SpokenTurn) → 0 < length jobs → StandsSending jobs h s
    → IsSpoken (plan_of (blocks jobs)) (t ∷ h) → StandsSending jobs (t ∷ h) (after_turn s t)

-- the receiving station stands where the history left it: it holds the jobs of the blocks that it got
pub record StandsReceiving (blocks : List Block) (h : History) (r : Receiving) : Type 0 where
  pub core : r.core ≡ receiver_after h
  pub jobs : r.jobs ≡ joined (numbered blocks (got h))
  pub over : is_over h ≡ false → r.over ≡ false

-- one hearing is one turn of the history, where a block that is heard is the one that the sender doesn't know of yet
abbrev pub ReceivingTurns : Type 0
ReceivingTurns =
    (blocks : List Block) (h : History) (r : Receiving) (t : SpokenTurn) (what : Heard) → StandsReceiving blocks h r → MayBeSpoken (plan_of blocks) (t ∷ h)
    → t.arrived ≡ sound_heard what → MayRefuse what (begun_in r.jobs) t.refused
    → ((b : Block) → what ≡ heard.Frame (frame.Block b) → slice_get blocks (known h) ≡ Some b)
    → StandsReceiving blocks (t ∷ h) (after_receiving r what t.refused t.wish)
