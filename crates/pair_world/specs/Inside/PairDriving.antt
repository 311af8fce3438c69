-- One turn of two stations that both have jobs, over lines in memory. Private functions cite this; no promise rests on it.
use Rattle.std.specs.Prelude.{◌≡◌, ◌⊎◌, Bool, true, false, ℕ, List, [], Option, Some, None}
use Rattle.bsc_frame.specs.declared.heard.Heard.{Heard}
use Rattle.bsc_link.specs.declared.reply.Reply.{Reply}
use Rattle.bsc_link.specs.declared.say.Say.{Say}
use Rattle.bsc_link.specs.declared.sound.Sound.{Sound}
use Rattle.rje_station.specs.Hearing.{sound_heard}
use Rattle.rje_station.specs.JoinedJobs.{begun_in}
use Rattle.rje_station.specs.Receiving.{MayRefuse}
use Rattle.rje_station.specs.Sending.{IsWrittenOf}
use Rattle.rje_station.specs.Station.{Contending, due_at, after_own_speaking, after_answer, after_other, after_own_reply, after_other_ended}
use Rattle.line_world.specs.declared.fate.Fate.{Fate}
use Rattle.line_world.specs.declared.spoken.Spoken.{Spoken}
use Rattle.line_world.specs.declared.turn.Turn.{Turn}
use Rattle.line_world.specs.declared.turn_fault.TurnFault.{TurnFault}
use Rattle.bsc_history.specs.Fate.{sound_of}
use Rattle.line_world.specs.Damage.{AreHeardAs}
use Rattle.line_world.specs.Inside.Driving.{IsReplyCarried, ReplyBreaks, AfterEnd}
use Rattle.line_world.specs.Carrying.{IsCarried, FaultOf}
use Rattle.bsc_history.specs.declared.bids.Bids.{Bids}
use Rattle.pair_world.specs.declared.pair_spoken.PairSpoken.{PairSpoken}
use Rattle.pair_world.specs.declared.pair_turn.PairTurn.{PairTurn}
use Rattle.bsc_history.specs.Pair.{speaks, lets_primary, lets_secondary}

-- ---- One station speaks.

-- what was sent went across, and the listener heard it
pub record GoesAcross (turn : Turn) (said : Sound) (sent : List ℕ) (l l' : Contending) (arrived : Sound) (refused : Bool) (reply : Option Reply) : Type 0 where
  pub what : Heard
  pub carried : IsCarried turn.up said sent what
  pub arrived_is : arrived ≡ sound_heard what
  pub may : MayRefuse what (begun_in l.receiver.jobs) refused
  pub state : l' ≡ after_other l what refused turn.wish
  pub reply_is : reply ≡ l'.receiver.due

-- the listener's reply came back, and the speaker heard it
pub record ComesBack (turn : Turn) (s s' l l' : Contending) (heard : Sound) : Type 0 where
  pub carried : IsReplyCarried turn.down l.receiver.due heard
  pub speaker : s' ≡ after_answer s heard turn.pause
  pub listener : l' ≡ after_own_reply l

-- after EOT the speaker doesn't listen
abbrev pub ComesBackAfter : Say → Turn → Contending → Contending → Contending → Contending → Sound → Type 0
ComesBackAfter say turn s s' l l' heard = AfterEnd say ((s' ≡ s) × (l' ≡ l) × (heard ≡ Sound.Quiet)) (ComesBack turn s s' l l' heard)

-- after EOT the other station is told that the transmission ended
abbrev pub after_end_of : Say → Contending → Contending
after_end_of Say.End s = after_other_ended s
after_end_of _ s = s

-- one station spoke, and the other heard it
pub record SpeaksAlone (turn : Turn) (s s' l l' : Contending) (t : Spoken) : Type 0 where
  pub said : t.said ≡ due_at s
  pub sent : List ℕ
  pub written : IsWrittenOf (due_at s) s.sender.rest sent
  pub middle : Contending
  pub across : GoesAcross turn (sound_of (due_at s)) sent l middle t.arrived t.refused t.reply
  pub after : Contending
  pub back : ComesBackAfter (due_at s) turn (after_own_speaking s) s' middle after t.heard
  pub ended : l' ≡ after_end_of (due_at s) after

-- the fate of the reply breaks a rule
pub record BreaksBack (Breaks : Fate → Sound → List ℕ → Type 0) (turn : Turn) (said : Sound) (sent : List ℕ) (l : Contending) : Type 0 where
  pub arrived : Sound
  pub refused : Bool
  pub answer : Option Reply
  pub middle : Contending
  pub across : GoesAcross turn said sent l middle arrived refused answer
  pub breaks : ReplyBreaks Breaks turn.down middle.receiver.due

-- a fate of the turn breaks a rule
pub record BreaksAlone (Breaks : Fate → Sound → List ℕ → Type 0) (turn : Turn) (s l : Contending) : Type 0 where
  pub sent : List ℕ
  pub written : IsWrittenOf (due_at s) s.sender.rest sent
  pub breaks : Breaks turn.up (sound_of (due_at s)) sent ⊎ BreaksBack Breaks turn (sound_of (due_at s)) sent l

abbrev pub IsAloneFault : Turn → Contending → Contending → TurnFault → Type 0
IsAloneFault turn s l fault = FaultOf (λ Breaks. BreaksAlone Breaks turn s l) fault

-- ---- Both speak.

-- nothing came in answer; after EOT the speaker doesn't listen
abbrev pub HearsNothing : Say → Bool → Contending → Contending → Sound → Type 0
HearsNothing say pause s s' heard = AfterEnd say ((s' ≡ s) × (heard ≡ Sound.Quiet)) ((s' ≡ after_answer s heard pause) × AreHeardAs [] heard)

-- a station spoke, and nothing arrived
pub record SpeaksInVain (pause : Bool) (s s' : Contending) (t : Spoken) : Type 0 where
  pub said : t.said ≡ due_at s
  pub arrived : t.arrived ≡ Sound.Quiet
  pub refused : t.refused ≡ false
  pub reply : t.reply ≡ None
  pub hears : HearsNothing (due_at s) pause (after_own_speaking s) s' t.heard

-- both did
pub record Collides (pause : Bool) (a a' b b' : Contending) (t : PairSpoken) : Type 0 where
  pub first : Spoken
  pub second : Spoken
  pub a_after : Contending
  pub b_after : Contending
  pub primary : SpeaksInVain pause a a_after first
  pub secondary : SpeaksInVain pause b b_after second
  pub primary_is : t.primary ≡ Some first
  pub secondary_is : t.secondary ≡ Some second
  pub a_ended : a' ≡ after_end_of second.said a_after
  pub b_ended : b' ≡ after_end_of first.said b_after

-- ---- One turn.

-- who speaks
abbrev pub primary_does : Bids → Contending → Contending → Bool
primary_does bids a b = speaks (due_at a) (due_at b) (lets_primary bids)

abbrev pub secondary_does : Bids → Contending → Contending → Bool
secondary_does bids a b = speaks (due_at b) (due_at a) (lets_secondary bids)

pub record PrimaryAlone (turn : PairTurn) (a a' b b' : Contending) (t : PairSpoken) : Type 0 where
  pub does : primary_does turn.bids a b ≡ true
  pub rests : secondary_does turn.bids a b ≡ false
  pub spoken : Spoken
  pub primary_is : t.primary ≡ Some spoken
  pub secondary_is : t.secondary ≡ None
  pub alone : SpeaksAlone turn.turn a a' b b' spoken

pub record SecondaryAlone (turn : PairTurn) (a a' b b' : Contending) (t : PairSpoken) : Type 0 where
  pub rests : primary_does turn.bids a b ≡ false
  pub does : secondary_does turn.bids a b ≡ true
  pub spoken : Spoken
  pub primary_is : t.primary ≡ None
  pub secondary_is : t.secondary ≡ Some spoken
  pub alone : SpeaksAlone turn.turn b b' a a' spoken

pub record BothSpeak (turn : PairTurn) (a a' b b' : Contending) (t : PairSpoken) : Type 0 where
  pub p_does : primary_does turn.bids a b ≡ true
  pub q_does : secondary_does turn.bids a b ≡ true
  pub collide : Collides turn.turn.pause a a' b b' t

-- where nothing is due at either there is no turn
abbrev pub TakesPair : Option PairSpoken → PairTurn → Contending → Contending → Contending → Contending → Type 0
TakesPair None turn a a' b b' = (primary_does turn.bids a b ≡ false) × (secondary_does turn.bids a b ≡ false) × (a' ≡ a) × (b' ≡ b)
TakesPair (Some t) turn a a' b b' = PrimaryAlone turn a a' b b' t ⊎ (SecondaryAlone turn a a' b b' t ⊎ BothSpeak turn a a' b b' t)

-- a fate is looked at where one speaks alone
abbrev pub BreaksPair : (Fate → Sound → List ℕ → Type 0) → PairTurn → Contending → Contending → Type 0
BreaksPair Breaks turn a b =
    ((primary_does turn.bids a b ≡ true) × (secondary_does turn.bids a b ≡ false) × BreaksAlone Breaks turn.turn a b)
    ⊎ ((primary_does turn.bids a b ≡ false) × (secondary_does turn.bids a b ≡ true) × BreaksAlone Breaks turn.turn b a)

abbrev pub IsPairTurnFault : PairTurn → Contending → Contending → TurnFault → Type 0
IsPairTurnFault turn a b fault = FaultOf (λ Breaks. BreaksPair Breaks turn a b) fault
