-- One turn of two stations over lines in memory. Private functions cite this; no promise rests on it.
use Rattle.std.specs.Prelude.{◌≡◌, ◌⊎◌, Bool, true, false, ℕ, List, [], Option, Some, None}
use Rattle.bsc_frame.specs.declared.heard.Heard.{Heard}
use Rattle.bsc_frame.specs.Written.{Written}
use Rattle.bsc_link.specs.declared.reply.Reply.{Reply}
use Rattle.bsc_link.specs.declared.say.Say.{Say}
use Rattle.bsc_link.specs.declared.sound.Sound.{Sound}
use Rattle.bsc_link.specs.Sender.{say_in}
use Rattle.rje_station.specs.Hearing.{sound_heard}
use Rattle.rje_station.specs.JoinedJobs.{begun_in}
use Rattle.rje_station.specs.Receiving.{Receiving, MayRefuse, after_receiving, after_replying, frame_of}
use Rattle.rje_station.specs.Sending.{Sending, IsWrittenOf, after_speaking, after_hearing}
use Rattle.line_world.specs.declared.fate.Fate.{Fate}
use Rattle.line_world.specs.declared.spoken.Spoken.{Spoken}
use Rattle.line_world.specs.declared.turn.Turn.{Turn}
use Rattle.line_world.specs.declared.turn_fault.TurnFault.{TurnFault}
use Rattle.bsc_history.specs.Fate.{sound_of, sound_of_reply}
use Rattle.line_world.specs.Damage.{AreHeardAs}
use Rattle.line_world.specs.Carrying.{IsCarried, FaultOf}

-- ---- The two ways of a turn.

-- what the sender sent went up, and the receiver heard it
pub record GoesUp (turn : Turn) (said : Sound) (sent : List ℕ) (r r' : Receiving) (arrived : Sound) (refused : Bool) (reply : Option Reply) : Type 0 where
  pub what : Heard
  pub carried : IsCarried turn.up said sent what
  pub arrived_is : arrived ≡ sound_heard what
  pub may : MayRefuse what (begun_in r.jobs) refused
  pub state : r' ≡ after_receiving r what refused turn.wish
  pub reply_is : reply ≡ r'.due

-- the reply that was due was sent and carried, and heard so; where none was due, nothing came
abbrev pub IsReplyCarried : Fate → Option Reply → Sound → Type 0
IsReplyCarried fate None heard = AreHeardAs [] heard
IsReplyCarried fate (Some reply) heard =
    (sent : List ℕ) × Written (frame_of reply) sent × ((what : Heard) × IsCarried fate (sound_of_reply (Some reply)) sent what × (heard ≡ sound_heard what))

-- the reply that was due was sent, and its fate breaks a rule
abbrev pub ReplyBreaks : (Fate → Sound → List ℕ → Type 0) → Fate → Option Reply → Type 0
ReplyBreaks Breaks fate None = ⊥
ReplyBreaks Breaks fate (Some reply) = (sent : List ℕ) × Written (frame_of reply) sent × Breaks fate (sound_of_reply (Some reply)) sent

-- why it isn't carried
abbrev pub IsReplyFault : Fate → Option Reply → TurnFault → Type 0
IsReplyFault fate due fault = FaultOf (λ Breaks. ReplyBreaks Breaks fate due) fault

-- the receiver's reply went down, and the sender heard it
pub record GoesDown (turn : Turn) (s s' : Sending) (r r' : Receiving) (heard : Sound) : Type 0 where
  pub carried : IsReplyCarried turn.down r.due heard
  pub sender : s' ≡ after_hearing s heard turn.pause
  pub receiver : r' ≡ after_replying r

-- ---- One turn.

-- one thing holds after EOT, and another after all else that is said
abbrev pub AfterEnd : Say → Type 0 → Type 0 → Type 0
AfterEnd Say.End P Q = P
AfterEnd _ P Q = Q

-- after EOT the sender doesn't listen
abbrev pub GoesDownAfter : Say → Turn → Sending → Sending → Receiving → Receiving → Sound → Type 0
GoesDownAfter say turn s s' r r' heard = AfterEnd say ((s' ≡ s) × (r' ≡ r) × (heard ≡ Sound.Quiet)) (GoesDown turn s s' r r' heard)

-- one turn of both stations
pub record TakesTurn (turn : Turn) (s s' : Sending) (r r' : Receiving) (t : Spoken) : Type 0 where
  pub live : s.over ≡ false
  pub said : t.said ≡ say_in s.core.place
  pub sent : List ℕ
  pub written : IsWrittenOf (say_in s.core.place) s.rest sent
  pub middle : Receiving
  pub up : GoesUp turn (sound_of (say_in s.core.place)) sent r middle t.arrived t.refused t.reply
  pub down : GoesDownAfter (say_in s.core.place) turn (after_speaking s) s' middle r' t.heard

-- where the sender was over there is no turn
abbrev pub Takes : Option Spoken → Turn → Sending → Sending → Receiving → Receiving → Type 0
Takes None turn s s' r r' = (s.over ≡ true) × (s' ≡ s) × (r' ≡ r)
Takes (Some t) turn s s' r r' = TakesTurn turn s s' r r' t

-- the fate of the reply breaks a rule
pub record BreaksReply (Breaks : Fate → Sound → List ℕ → Type 0) (turn : Turn) (said : Sound) (sent : List ℕ) (r : Receiving) : Type 0 where
  pub arrived : Sound
  pub refused : Bool
  pub answer : Option Reply
  pub middle : Receiving
  pub up : GoesUp turn said sent r middle arrived refused answer
  pub breaks : ReplyBreaks Breaks turn.down middle.due

-- a fate of the turn breaks a rule
pub record BreaksIn (Breaks : Fate → Sound → List ℕ → Type 0) (turn : Turn) (s : Sending) (r : Receiving) : Type 0 where
  pub live : s.over ≡ false
  pub sent : List ℕ
  pub written : IsWrittenOf (say_in s.core.place) s.rest sent
  pub breaks : Breaks turn.up (sound_of (say_in s.core.place)) sent ⊎ BreaksReply Breaks turn (sound_of (say_in s.core.place)) sent r

abbrev pub IsTurnFault : Turn → Sending → Receiving → TurnFault → Type 0
IsTurnFault turn s r fault = FaultOf (λ Breaks. BreaksIn Breaks turn s r) fault
