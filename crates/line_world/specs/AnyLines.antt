-- Stations that take turns over lines of any kind, whatever these do; and what holds where the lines keep the headline's premises. Own
-- profile.
use Rattle.std.specs.Prelude.{◌≡◌, ◌⊎◌, ℕ, ◌-◌, ◌^◌, Bool, true, false, List, [], ◌∷◌, length, Option, Some, None}
use Rattle.std.specs.List.{AllByRecursion}
use Rattle.bsc_codes.specs.declared.block.Block.{Block}
use Rattle.bsc_frame.specs.declared.frame.Frame.TheVariants as frame
use Rattle.bsc_frame.specs.declared.heard.Heard.{Heard}
use Rattle.bsc_frame.specs.declared.heard.Heard.TheVariants as heard
use Rattle.bsc_link.specs.declared.say.Say.{Say}
use Rattle.bsc_link.specs.declared.sound.Sound.{Sound}
use Rattle.bsc_link.specs.declared.wish.Wish.{Wish}
use Rattle.bsc_link.specs.Sender.{say_in}
use Rattle.rje_jobs.specs.declared.job.Job.{Job}
use Rattle.rje_jobs.specs.Fitting.{JobFits}
use Rattle.rje_station.specs.declared.station_fault.StationFault.{StationFault}
use Rattle.rje_station.specs.Hearing.{sound_heard}
use Rattle.rje_station.specs.JoinedJobs.{begun_in}
use Rattle.rje_station.specs.Receiving.{Receiving, MayRefuse, first_receiving, after_receiving, after_replying}
use Rattle.rje_station.specs.Receiving.{after_refusal as receiver_refused}
use Rattle.rje_station.specs.Sending.{Sending, first_sending, after_speaking}
use Rattle.rje_station.specs.Sending.{after_refusal as sender_refused}
use Rattle.bsc_history.specs.declared.spoken_turn.SpokenTurn.{SpokenTurn}
use Rattle.bsc_history.specs.Fate.{sound_of, sound_of_reply, MayBeHeardAs}
use Rattle.bsc_history.specs.History.{History}
use Rattle.line_world.specs.declared.spoken.Spoken.{Spoken}
use Rattle.line_world.specs.Turns.{after_turn}

-- ONE TURN

-- the sending station's part: it said what was due, and but for EOT it heard something
pub record SenderTakes (s s' : Sending) (t : SpokenTurn) : Type 0 where
  pub live : s.over ≡ false
  pub said : t.said ≡ say_in s.core.place
  -- after EOT it doesn't listen
  pub done : t.said ≡ Say.End → t.heard ≡ Sound.Quiet
  pub state : s' ≡ after_turn s t

-- after the last hearing nothing is replied
abbrev pub after_answering : Receiving → Heard → SpokenTurn → Receiving
after_answering r what t = elim t.said [
  | Say.End ↦ after_receiving r what t.refused t.wish
  | _ ↦ after_replying (after_receiving r what t.refused t.wish)
]

-- the receiving station's part: it heard something, and but for the last turn it replied
pub record ReceiverTakes (r r' : Receiving) (t : SpokenTurn) : Type 0 where
  pub what : Heard
  pub arrived : t.arrived ≡ sound_heard what
  pub may : MayRefuse what (begun_in r.jobs) t.refused
  pub reply : t.reply ≡ (after_receiving r what t.refused t.wish).due
  pub state : r' ≡ after_answering r what t

-- TURN BY TURN, the newest first

-- these turns were taken, each from the state to which those before it led
abbrev pub Turns : {S T : Type 0} → (List T → S → S → T → Type 0) → S → List T → S → Type 0
Turns Step s [] s' = s' ≡ s
Turns {S} Step s (t ∷ past) s' = (near : S) × Turns Step s past near × Step past near s' t

-- by a sending station
abbrev pub SenderTook : Sending → History → Sending → Type 0
SenderTook = Turns (λ _. SenderTakes)

-- by a receiving station
abbrev pub ReceiverTook : Receiving → History → Receiving → Type 0
ReceiverTook = Turns (λ _. ReceiverTakes)

-- it ends where the station is over; or so many turns were taken that no more can be counted
abbrev pub IsThrough : Sending → History → Type 0
IsThrough s h = (s.over ≡ true) ⊎ (length h ≡ 2 ^ 64 - 1)

-- A FAULT ENDS A TURN

-- of a sending station: as it spoke, or as it listened
abbrev pub SenderFails : Sending → Sending → StationFault → Type 0
SenderFails s s' fault = (s' ≡ sender_refused fault s) ⊎ (s' ≡ sender_refused fault (after_speaking s))

-- of a receiving station: as it listened, or as it replied
abbrev pub ReceiverFails : Receiving → Receiving → StationFault → Type 0
ReceiverFails r r' fault = (r' ≡ receiver_refused fault r) ⊎ ((what : Heard) × (refused : Bool) × MayRefuse what (begun_in r.jobs) refused × (r' ≡ receiver_refused fault (after_receiving r what refused Wish.Go)))

-- of both: as the sender spoke, as the receiver listened, as it replied to what came in this turn, or as the sender listened
abbrev pub BothFail : Sending → Sending → Receiving → Receiving → StationFault → Type 0
BothFail s s' r r' fault =
    ((s' ≡ sender_refused fault s) × (r' ≡ r))
    ⊎ ((s' ≡ after_speaking s) × (r' ≡ receiver_refused fault r))
    ⊎ ((s' ≡ after_speaking s) × ((what : Heard) × (refused : Bool) × MayRefuse what (begun_in r.jobs) refused × (r' ≡ receiver_refused fault (after_receiving r what refused Wish.Go))))
    ⊎ ((s' ≡ sender_refused fault (after_speaking s)) × ((what : Heard) × (refused : Bool) × MayRefuse what (begun_in r.jobs) refused × (r' ≡ after_replying (after_receiving r what refused Wish.Go))))

-- WHAT IS TOLD OF IT

-- a turn in which neither asked to wait
abbrev pub unhindered : Spoken → SpokenTurn
unhindered t = record { said = t.said; arrived = t.arrived; refused = t.refused; reply = t.reply; heard = t.heard; wish = Wish.Go; pause = false }

-- both took this turn; where the sender was over there is none
abbrev pub BothTake : Option Spoken → Sending → Sending → Receiving → Receiving → Type 0
BothTake None s s' r r' = (s.over ≡ true) × (s' ≡ s) × (r' ≡ r)
BothTake (Some t) s s' r r' = SenderTakes s s' (unhindered t) × ReceiverTakes r r' (unhindered t)

-- a sending station took some turns, and then it failed
abbrev pub SendsToFault : Sending → Sending → StationFault → Type 0
SendsToFault s s' fault = (h : History) × (near : Sending) × SenderTook s h near × SenderFails near s' fault

-- both took the same turns to the end
abbrev pub BothToEnd : Sending → Sending → Receiving → Receiving → Type 0
BothToEnd s s' r r' = (h : History) × SenderTook s h s' × ReceiverTook r h r' × IsThrough s' h

-- both took the same turns, and then one failed
abbrev pub BothToFault : Sending → Sending → Receiving → Receiving → StationFault → Type 0
BothToFault s s' r r' fault =
    (h : History) × (near : Sending) × (far : Receiving) × SenderTook s h near × ReceiverTook r h far × BothFail near s' far r' fault

-- WHERE THE LINES KEEP THE PREMISES

-- In this turn they did: what arrived and what was heard is what was said and replied, or nothing, or damage that passes for no block and
-- no EOT, and of a control sequence other than TTD for none; and a block that came is the one that was outstanding at the sender.
pub record IsFaithful (s : Sending) (what : Heard) (t : SpokenTurn) : Type 0 where
  pub up : MayBeHeardAs (sound_of t.said) t.arrived
  pub block : (b : Block) → what ≡ heard.Frame (frame.Block b) → (more : List Block) × (s.rest ≡ b ∷ more)
  pub down : MayBeHeardAs (sound_of_reply t.reply) t.heard

-- in each turn that both took they did
abbrev pub AreFaithful : (s s' : Sending) (r r' : Receiving) (h : History) → SenderTook s h s' → ReceiverTook r h r' → Type 0
AreFaithful s s' r r' [] sent received = Unit {0}
AreFaithful s s' r r' (t ∷ past) (near, sent, says) (far, received, hears) = IsFaithful near hears.what t × AreFaithful s near r far past sent received

-- the headline over such lines: two new stations took the same turns, the sending one with jobs that can be sent; so many jobs it
-- counts, and these the receiving one hands out
abbrev pub OverFaithfulLines : (ℕ → List Job → List Job → Type 0) → Type 0
OverFaithfulLines Holds =
    (jobs : List Job) (s : Sending) (r : Receiving) (h : History) (sent : SenderTook (first_sending jobs) h s) (received : ReceiverTook first_receiving h r)
    → AllByRecursion JobFits jobs → AreFaithful (first_sending jobs) s first_receiving r h sent received → Holds s.counted jobs r.jobs
