-- Two stations that both have jobs, at the two ends of one connection: what happens at each end, and what the connection does between them. Own
-- profile.
use Rattle.std.specs.Prelude.{◌≡◌, ℕ, Bool, true, false, List, [], ◌∷◌, Some, None, if◌then◌else◌}
use Rattle.std.specs.List.{AllByRecursion}
use Rattle.bsc_frame.specs.declared.frame.Frame.{Frame}
use Rattle.bsc_link.specs.declared.rank.Rank.{Rank}
use Rattle.rje_answers.specs.declared.link_event.LinkEvent.{LinkEvent}
use Rattle.rje_answers.specs.declared.given.Given.{Given}
use Rattle.rje_answers.specs.declared.said.Said.{Said}
use Rattle.rje_answers.specs.Awaiting.{Kept, given_at, has_answer}
use Rattle.rje_answers.specs.Law.{AllHappen, Answer, Events, kept_of}
use Rattle.rje_jobs.specs.declared.job.Job.{Job}
use Rattle.rje_jobs.specs.Fitting.{JobFits}
use Rattle.rje_station.specs.JoinedJobs.{begun_in}
use Rattle.rje_station.specs.Receiving.{MayRefuse}
use Rattle.rje_station.specs.Station.{Contending, after_answer, after_other, after_other_ended, after_own_reply, after_own_speaking, due_at, first_contending, is_deaf}
use Rattle.connection_world.specs.Connection.{AtReceiver, AtSender, Says, Comes, InVain, ComeDown, ComeUp, IsFrameOf, OneHearing, hearing_of, sound_given, told_of}

-- AT EITHER END

-- what comes from the other end while an answer is awaited, and is not an answer
pub data Crossing : Type 0 where
  Bid : Crossing
  End : Crossing
  Text : Crossing

-- What happens there: in its own transmission, where it speaks or awaits the answer; something crosses what it said; or it hears the other
-- station, and replies.
pub data AtEnd : Type 0 where
  Own : AtSender → AtEnd
  Crosses : Crossing → AtEnd
  Others : AtReceiver → AtEnd

-- of its own transmission, and of the other one's, the newest first
abbrev pub own_of : List AtEnd → List AtSender
own_of [] = []
own_of (Own e ∷ past) = e ∷ own_of past
own_of (_ ∷ past) = own_of past

abbrev pub others_of : List AtEnd → List AtReceiver
others_of [] = []
others_of (Others e ∷ past) = e ∷ others_of past
others_of (_ ∷ past) = others_of past

-- the event that this is at the end, which awaits answers: a hearing of the other station is one where it replied
abbrev pub event_of : Crossing → LinkEvent Answer
event_of Bid = LinkEvent.Bid
event_of End = LinkEvent.End
event_of Text = LinkEvent.Text

abbrev pub with_reply : OneHearing → Events → Events
with_reply h past = elim h.reply [ None ↦ past | Some reply ↦ LinkEvent.Says Said.Reply ∷ past ]

abbrev pub told_both : List AtEnd → Events
told_both [] = []
told_both (Own e ∷ past) = told_of e ∷ told_both past
told_both (Crosses c ∷ past) = event_of c ∷ told_both past
told_both (Others e ∷ past) = with_reply (hearing_of e) (told_both past)

-- a secondary gives way to a bid that crosses its own
abbrev pub yields : Rank → Bool
yields Rank.Primary = false
yields Rank.Secondary = true

-- what it keeps of the answers
abbrev pub kept_by : Rank → List AtEnd → Kept Answer
kept_by rank past = kept_of (yields rank) (told_both past)

-- it speaks: it says what is due
pub record SpeaksOwn (f : Frame) (s s' : Contending) : Type 0 where
  pub due : IsFrameOf (due_at s) s.sender.rest f
  pub state : s' ≡ after_own_speaking s

-- it goes on listening where it is given nothing; else it heard what it was given
abbrev pub ListensOwn : Given Answer → Contending → Contending → Type 0
ListensOwn Given.Nothing s s' = s' ≡ s
ListensOwn given s s' = (pause : Bool) × (s' ≡ after_answer s (sound_given given) pause)

-- it heard the other station, and replied what was due; or that one's transmission ended
pub record HearsOther (h : OneHearing) (s s' : Contending) : Type 0 where
  pub live : is_deaf s ≡ false
  pub may : MayRefuse h.what (begun_in s.receiver.jobs) h.refused
  pub reply : h.reply ≡ (after_other s h.what h.refused h.wish).receiver.due
  pub state : s' ≡ (let heard = after_other s h.what h.refused h.wish in if heard.receiver.over then after_other_ended heard else after_own_reply heard)

-- what happens next makes this of the station; it hears the other one only where it awaits no answer
abbrev pub EndGoes : Rank → List AtEnd → AtEnd → Contending → Contending → Type 0
EndGoes rank past (Own (Says f)) s s' = SpeaksOwn f s s'
EndGoes rank past (Own (Comes a)) s s' = ListensOwn (given_at (LinkEvent.Answer a) (kept_by rank past)) s s'
EndGoes rank past (Own (InVain rest)) s s' = ListensOwn (given_at (LinkEvent.Vain rest) (kept_by rank past)) s s'
EndGoes rank past (Crosses c) s s' = ListensOwn (given_at (event_of c) (kept_by rank past)) s s'
EndGoes rank past (Others e) s s' = (has_answer (kept_by rank past).said ≡ false) × HearsOther (hearing_of e) s s'

-- and so does all of it
abbrev pub EndWent : Rank → List Job → List AtEnd → Contending → Type 0
EndWent rank jobs [] s = s ≡ first_contending rank jobs
EndWent rank jobs (e ∷ past) s = (mid : Contending) × EndWent rank jobs past mid × EndGoes rank past e mid s

-- BETWEEN THEM

-- one way: what the one says comes to the other as over a connection of one direction, and so do the answers; each in time
pub record AreConnected (rank : Rank) (near far : List AtEnd) : Type 0 where
  pub up : ComeUp (own_of near) (others_of far)
  pub down : ComeDown (own_of near) (others_of far)
  pub in_time : AllHappen (yields rank) (told_both near)

-- ALL OF IT

-- two new stations with these jobs, what has happened at each of them, and where they stand
pub record IsExchange (ups downs : List Job) (near far : List AtEnd) (p s : Contending) : Type 0 where
  pub primary : EndWent Rank.Primary ups near p
  pub secondary : EndWent Rank.Secondary downs far s
  pub up : AreConnected Rank.Primary near far
  pub down : AreConnected Rank.Secondary far near

-- the headline, each way: of jobs that can be sent each station counts the first n of its own, and these the other one hands out
abbrev pub OverExchanges : (ℕ → List Job → List Job → Type 0) → Type 0
OverExchanges Holds =
    (ups downs : List Job) (near far : List AtEnd) (p s : Contending) → AllByRecursion JobFits ups → AllByRecursion JobFits downs
    → IsExchange ups downs near far p s → Holds p.sender.counted ups s.receiver.jobs × Holds s.sender.counted downs p.receiver.jobs
