-- One transmission over a connection: what happens at the two ends, and what the connection does between them. Each end has its own order of
-- what happens, and there is no other clock: what is said comes at any later moment, or never. Own profile.
use Rattle.std.specs.Prelude.{◌≡◌, ◌⊎◌, ◌+◌, ◌≤◌, ℕ, Bool, true, false, List, [], ◌∷◌, map, Option, Some}
use Rattle.bsc_codes.specs.declared.block.Block.{Block}
use Rattle.bsc_frame.specs.declared.frame.Frame.{Frame}
use Rattle.bsc_frame.specs.declared.frame.Frame.TheVariants as frame
use Rattle.bsc_frame.specs.declared.heard.Heard.{Heard}
use Rattle.bsc_frame.specs.declared.heard.Heard.TheVariants as heard
use Rattle.bsc_link.specs.declared.reply.Reply.{Reply}
use Rattle.bsc_link.specs.declared.say.Say.{Say}
use Rattle.bsc_link.specs.declared.sound.Sound.{Sound}
use Rattle.bsc_link.specs.declared.wish.Wish.{Wish}
use Rattle.bsc_link.specs.Sender.{say_in}
use Rattle.bsc_history.specs.Fate.{MayBeHeardAs, sound_of_reply}
use Rattle.rje_answers.specs.declared.link_event.LinkEvent.{LinkEvent}
use Rattle.rje_answers.specs.declared.given.Given.{Given}
use Rattle.rje_answers.specs.declared.rest.Rest.{Rest}
use Rattle.rje_answers.specs.Awaiting.{given_at, said_in}
use Rattle.rje_answers.specs.Law.{AllHappen, Answer, Events, kept_of, things}
use Rattle.rje_jobs.specs.declared.job.Job.{Job}
use Rattle.rje_station.specs.Hearing.{sound_heard, sound_of_frame}
use Rattle.rje_station.specs.JoinedJobs.{begun_in}
use Rattle.rje_station.specs.Receiving.{Receiving, MayRefuse, after_receiving, after_replying, first_receiving}
use Rattle.rje_station.specs.Sending.{Sending, after_hearing, after_speaking, first_sending}

-- AT THE SENDING END

-- What happens there: it says this; the answer to one of the things that it said comes; or a hearing in which no more came is over, and this was
-- heard in it.
pub data AtSender : Type 0 where
  Says : Frame → AtSender
  Comes : Answer → AtSender
  InVain : Rest → AtSender

-- the event that this is at its end, which awaits the answers
abbrev pub told_of : AtSender → LinkEvent Answer
told_of (Says f) = LinkEvent.Says (said_in f)
told_of (Comes a) = LinkEvent.Answer a
told_of (InVain rest) = LinkEvent.Vain rest

-- the newest first
abbrev pub told : List AtSender → Events
told past = map told_of past

-- the outstanding block
abbrev pub IsOutstanding : List Block → Frame → Type 0
IsOutstanding [] f = ⊥
IsOutstanding (b ∷ more) f = f ≡ frame.Block b

-- the frame of what is due: Bid and Ask are ENQ, Delay is TTD, End is EOT; Block and Again are the outstanding block
abbrev pub IsFrameOf : Say → List Block → Frame → Type 0
IsFrameOf Say.Bid rest f = f ≡ frame.Enq
IsFrameOf Say.Ask rest f = f ≡ frame.Enq
IsFrameOf Say.Delay rest f = f ≡ frame.Ttd
IsFrameOf Say.End rest f = f ≡ frame.Eot
IsFrameOf Say.Block rest f = IsOutstanding rest f
IsFrameOf Say.Again rest f = IsOutstanding rest f
IsFrameOf Say.Nothing rest f = ⊥

-- it speaks: it says what is due
pub record Speaks (f : Frame) (s s' : Sending) : Type 0 where
  pub live : s.over ≡ false
  pub due : IsFrameOf (say_in s.core.place) s.rest f
  pub state : s' ≡ after_speaking s

-- what was heard where no answer came
abbrev pub sound_of_rest : Rest → Sound
sound_of_rest Rest.Quiet = Sound.Quiet
sound_of_rest Rest.Noise = Sound.Noise
sound_of_rest Rest.Bad = Sound.Bad

-- what the station hears of what it is given; a bid comes only in the next hearing
abbrev pub sound_given : Given Answer → Sound
sound_given Given.Nothing = Sound.Quiet
sound_given (Given.Answer a) = sound_of_reply (Some a.reply)
sound_given Given.Bid = Sound.Quiet
sound_given Given.End = Sound.Eot
sound_given (Given.InVain rest) = sound_of_rest rest

-- the station goes on listening where it is given nothing; else it heard what it was given, and its next block has to wait or not
abbrev pub Listens : Given Answer → Sending → Sending → Type 0
Listens Given.Nothing s s' = s' ≡ s
Listens given s s' = (pause : Bool) × (s' ≡ after_hearing s (sound_given given) pause)

-- what happens next makes this of the station: it speaks, or it is given what its end gives after all that happened before
abbrev pub SenderGoes : Bool → List AtSender → AtSender → Sending → Sending → Type 0
SenderGoes gives_way past (Says f) s s' = Speaks f s s'
SenderGoes gives_way past (Comes a) s s' = Listens (given_at (LinkEvent.Answer a) (kept_of gives_way (told past))) s s'
SenderGoes gives_way past (InVain rest) s s' = Listens (given_at (LinkEvent.Vain rest) (kept_of gives_way (told past))) s s'

-- and so does all of it, the newest first
abbrev pub SenderWent : Bool → Sending → List AtSender → Sending → Type 0
SenderWent gives_way s [] s' = s' ≡ s
SenderWent gives_way s (e ∷ past) s' = (near : Sending) × SenderWent gives_way s past near × SenderGoes gives_way past e near s'

-- AT THE RECEIVING END

-- one hearing
pub record OneHearing : Type 0 where
  -- what was heard
  pub what : Heard
  -- whether a block that came was refused, and what the operator wished
  pub refused : Bool
  pub wish : Wish
  -- what was replied
  pub reply : Option Reply

-- What happens there: the thing of this number, from 0, arrives, and this is its hearing; or in this hearing nothing arrives.
pub data AtReceiver : Type 0 where
  Arrives : ℕ → OneHearing → AtReceiver
  NothingArrives : OneHearing → AtReceiver

abbrev pub hearing_of : AtReceiver → OneHearing
hearing_of (Arrives k h) = h
hearing_of (NothingArrives h) = h

-- the station heard it, and replied what was due
pub record ReceiverGoes (h : OneHearing) (r r' : Receiving) : Type 0 where
  pub live : r.over ≡ false
  pub may : MayRefuse h.what (begun_in r.jobs) h.refused
  pub reply : h.reply ≡ (after_receiving r h.what h.refused h.wish).due
  pub state : r' ≡ after_replying (after_receiving r h.what h.refused h.wish)

-- all its hearings, the newest first
abbrev pub ReceiverWent : Receiving → List AtReceiver → Receiving → Type 0
ReceiverWent r [] r' = r' ≡ r
ReceiverWent r (e ∷ past) r' = (far : Receiving) × ReceiverWent r past far × ReceiverGoes (hearing_of e) far r'

-- BETWEEN THEM

-- the thing of this number is this frame; EOT, the last thing, is numbered too
abbrev pub IsThing : ℕ → Frame → List AtSender → Type 0
IsThing k f [] = ⊥
IsThing k f (Says said ∷ past) = ((k ≡ things (told past)) × (f ≡ said)) ⊎ IsThing k f past
IsThing k f (_ ∷ past) = IsThing k f past

-- what is said may come so: as it is, or damaged, within the headline's premises; and a block that comes is the one that was said
pub record MayComeAs (f : Frame) (what : Heard) : Type 0 where
  pub sound : MayBeHeardAs (sound_of_frame f) (sound_heard what)
  pub block : (b : Block) → what ≡ heard.Frame (frame.Block b) → f ≡ frame.Block b

-- the things below this number can't come any more
abbrev pub come_by : List AtReceiver → ℕ
come_by [] = 0
come_by (Arrives k h ∷ past) = k + 1
come_by (NothingArrives h ∷ past) = come_by past

-- what a receiving station passes over: answers, noise and quiet
abbrev pub is_passed_over : Sound → Bool
is_passed_over Sound.Enq = false
is_passed_over Sound.Ttd = false
is_passed_over Sound.Abort = false
is_passed_over Sound.Eot = false
is_passed_over Sound.Block = false
is_passed_over Sound.Bad = false
is_passed_over _ = true

-- what arrives is a thing that was said, after those before it; where none does, nothing is heard that the station heeds
abbrev pub MayArrive : List AtSender → List AtReceiver → AtReceiver → Type 0
MayArrive near past (Arrives k h) = (come_by past ≤ k) × ((f : Frame) × IsThing k f near × MayComeAs f h.what)
MayArrive near past (NothingArrives h) = is_passed_over (sound_heard h.what) ≡ true

-- UP: each thing comes at most once, and in order
abbrev pub ComeUp : List AtSender → List AtReceiver → Type 0
ComeUp near [] = Unit {0}
ComeUp near (e ∷ past) = MayArrive near past e × ComeUp near past

-- this was replied to that thing
abbrev pub IsReplied : Answer → List AtReceiver → Type 0
IsReplied a [] = ⊥
IsReplied a (Arrives k h ∷ past) = ((k ≡ a.thing) × (h.reply ≡ Some a.reply)) ⊎ IsReplied a past
IsReplied a (NothingArrives h ∷ past) = IsReplied a past

-- DOWN: an answer that comes is what was replied to its thing; one that is damaged isn't heard as an answer, and doesn't come
abbrev pub ComeDown : List AtSender → List AtReceiver → Type 0
ComeDown [] far = Unit {0}
ComeDown (Comes a ∷ past) far = IsReplied a far × ComeDown past far
ComeDown (_ ∷ past) far = ComeDown past far

-- ALL OF IT

-- Two new stations at the ends of a connection: the sending one was given these jobs, and its end gives way to a bid or not; what has
-- happened at each of them, and where they stand.
pub record IsOverConnection (jobs : List Job) (gives_way : Bool) (near : List AtSender) (s : Sending) (far : List AtReceiver) (r : Receiving) : Type 0 where
  pub sends : SenderWent gives_way (first_sending jobs) near s
  pub receives : ReceiverWent first_receiving far r
  pub up : ComeUp near far
  pub down : ComeDown near far
  -- a thing is said only where no answer is awaited; answers come at most once each, in order, and each with fewer than two hearings in vain
  -- since its thing was said
  pub in_time : AllHappen gives_way (told near)
