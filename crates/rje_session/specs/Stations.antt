-- A station that sends and receives over a line that may tell its bytes, in one turn (own profile).
use Rattle.std.specs.Prelude.{◌≡◌, ◌≢◌, ◌⊎◌, ℕ, false, List, Option, Some, None, if◌then◌else◌}
use Rattle.bsc_codes.specs.declared.block.Block.{Block}
use Rattle.bsc_frame.specs.declared.heard.Heard.{Heard}
use Rattle.bsc_link.specs.declared.reply.Reply.{Reply}
use Rattle.bsc_link.specs.declared.say.Say.{Say}
use Rattle.bsc_link.specs.declared.sound.Sound.{Sound}
use Rattle.bsc_link.specs.declared.wish.Wish.{Wish}
use Rattle.rje_station.specs.declared.arrival.Arrival.{Arrival}
use Rattle.rje_station.specs.declared.station_fault.StationFault.{StationFault}
use Rattle.rje_station.specs.declared.station_fault.StationFault.TheVariants as fault
use Rattle.rje_station.specs.Hearing.{Hearing, HearsSound, sound_heard}
use Rattle.rje_station.specs.JoinedJobs.{begun_in}
use Rattle.rje_station.specs.Line.{Passes, Talk, one_more}
use Rattle.rje_station.specs.Receiving.{MayRefuse, Replied, with_reply}
use Rattle.rje_station.specs.Sending.{Spoke}
use Rattle.rje_station.specs.Station.{Contending, due_at, is_deaf, after_own_speaking, after_answer, after_other, after_own_reply, after_other_ended, after_own_refusal}

-- after its own turn: after EOT it doesn't listen
abbrev pub after_own_turn : Contending → Say → Sound → Contending
after_own_turn s Say.End heard = after_own_speaking s
after_own_turn s said heard = after_answer (after_own_speaking s) heard false

-- its own turn: it said what was due, and but for EOT it heard something
pub record TakesOwn (s s' : Contending) (said : Say) (heard : Sound) : Type 0 where
  pub live : s.failed ≡ false
  pub due : said ≢ Say.Nothing
  pub said_is : said ≡ due_at s
  pub done : said ≡ Say.End → heard ≡ Sound.Quiet
  pub state : s' ≡ after_own_turn s said heard

-- it replies to what it heard; where that ended the other's transmission, it leaves its receiving side
abbrev pub after_answering_other : Contending → Contending
after_answering_other s = if s.receiver.over then after_other_ended s else after_own_reply s

-- It heard something of the other, which isn't answered yet: this came, this reply is due, and the line gave it.
pub record HearsOther (s s' : Contending) (arrival : Arrival) (reply : Option Reply) (t u : Option Talk) : Type 0 where
  pub live : is_deaf s ≡ false
  pub what : Heard
  pub told : Passes t u (λ t u. Hearing t u what)
  pub came : arrival.sound ≡ sound_heard what
  pub may : MayRefuse what (begun_in s.receiver.jobs) arrival.refused
  pub state : s' ≡ after_other s what arrival.refused Wish.Go
  pub reply_is : reply ≡ s'.receiver.due
  pub arrived : s'.receiver.arrival ≡ Some arrival

-- the other's turn: it heard something of the other, and replied where a reply was due
pub record TakesOthers (s s' : Contending) (arrival : Arrival) (reply : Option Reply) : Type 0 where
  pub live : is_deaf s ≡ false
  pub what : Heard
  pub came : arrival.sound ≡ sound_heard what
  pub may : MayRefuse what (begun_in s.receiver.jobs) arrival.refused
  pub reply_is : reply ≡ (after_other s what arrival.refused Wish.Go).receiver.due
  pub state : s' ≡ after_answering_other (after_other s what arrival.refused Wish.Go)

-- a fault of the line ended its own turn: as it spoke, or as it listened
abbrev pub FailsInOwn : Contending → Contending → StationFault → Type 0
FailsInOwn s s' fault = (s' ≡ after_own_refusal fault s) ⊎ (s' ≡ after_own_refusal fault (after_own_speaking s))

-- what a line tells: its bytes, where it tells them, and how many transmissions it has begun
abbrev pub LineTells : Type 0
LineTells = Option Talk × ℕ

-- after what a station said the line gave what it heard; after EOT the station doesn't listen
abbrev pub Answers : Say → Sound → (asked answered : Option Talk) → Type 0
Answers Say.End heard asked answered = answered ≡ asked
Answers said heard asked answered = Passes asked answered (λ t u. HearsSound t u heard)

-- a station that has these blocks to send spoke, and listened: the line sent just what it said, and then gave what it heard
abbrev pub SpokeAndHeard : List Block → (t u : LineTells) → Say → Sound → Type 0
SpokeAndHeard rest t u said heard =
    (asked : Option Talk) × Passes t.0 asked (Spoke said rest) × (u.1 ≡ one_more t.1) × Answers said heard asked u.0

-- a station listened, and replied: the line gave this, and then sent just the reply, or nothing where there was none
abbrev pub HeardAndReplied : Heard → (t u : LineTells) → Option Reply → Type 0
HeardAndReplied what t u reply =
    (heard : Option Talk) × Passes t.0 heard (λ t u. Hearing t u what) × Passes heard u.0 (Replied reply) × (u.1 ≡ with_reply reply t.1)

-- the reply that is sent: none where what came ended the other's transmission
abbrev pub reply_sent : Contending → Option Reply
reply_sent s = if s.receiver.over then None else s.receiver.due

-- it answered what it had heard: the line sent just the reply, or nothing
abbrev pub AnswersOther : Contending → Contending → (t u : LineTells) → Type 0
AnswersOther s s' t u = (s' ≡ after_answering_other s) × Passes t.0 u.0 (Replied (reply_sent s)) × (u.1 ≡ with_reply (reply_sent s) t.1)

-- The fault of a station on its way: the line failed or babbled, or the station was over. New stations have others.
abbrev pub IsOfRun : StationFault → Type 0
IsOfRun (fault.BadJob number) = ⊥
IsOfRun fault.OutOfMemory = ⊥
IsOfRun _ = Unit {0}
