-- A receiving station: what it holds, what it sends, and what each call makes of it (own profile, over the link tables of bsc_link).
use Rattle.std.specs.Prelude.{◌≡◌, Bool, true, false, List, [], ◌∷◌, ◌++◌, ℕ, Option, Some, None, if◌then◌else◌}
use Rattle.bsc_frame.specs.declared.frame.Frame.{Frame}
use Rattle.bsc_frame.specs.declared.frame.Frame.TheVariants as frame
use Rattle.bsc_frame.specs.declared.heard.Heard.{Heard}
use Rattle.bsc_frame.specs.declared.heard.Heard.TheVariants as heard
use Rattle.bsc_frame.specs.Written.{Written}
use Rattle.bsc_link.specs.declared.sound.Sound.{Sound}
use Rattle.bsc_link.specs.declared.wish.Wish.{Wish}
use Rattle.bsc_link.specs.declared.reply.Reply.{Reply}
use Rattle.bsc_link.specs.Receiver.{ReceiverState, first_receiver_state, receiver_hears, receiver_news, receiver_quiet_long}
use Rattle.rje_text.specs.declared.unpacked.Unpacked.{Unpacked}
use Rattle.rje_text.specs.TextFault.{IsTextFault}
use Rattle.rje_text.specs.declared.text_fault.TextFault.{TextFault}
use Rattle.rje_text.specs.Reading.{IsRead}
use Rattle.rje_jobs.specs.declared.job.Job.{Job}
use Rattle.rje_jobs.specs.Joined.{mode_of_begun}
use Rattle.rje_station.specs.declared.arrival.Arrival.{Arrival}
use Rattle.rje_station.specs.declared.event.Event.{Event}
use Rattle.rje_station.specs.declared.event.Event.TheVariants as event
use Rattle.rje_station.specs.declared.station_fault.StationFault.{StationFault}
use Rattle.rje_station.specs.declared.station_fault.StationFault.TheVariants as fault
use Rattle.rje_station.specs.Hearing.{sound_heard}
use Rattle.rje_station.specs.JoinedJobs.{with_block, begun_in}
use Rattle.rje_station.specs.Line.{Talk, one_more}
use Rattle.rje_station.specs.Trace.{last_events}

-- a receiving station
pub record Receiving : Type 0 where
  -- the jobs of the accepted blocks; one of which blocks came but not the last one stands last, not whole
  pub jobs : List Job
  pub core : ReceiverState
  -- the reply that is due
  pub due : Option Reply
  -- it neither speaks nor hears any more
  pub over : Bool
  -- what the last hearing brought; none before the first
  pub arrival : Option Arrival
  pub trace : List Event

-- a station that has done nothing
abbrev pub first_receiving : Receiving
first_receiving = record { jobs = []; core = first_receiver_state; due = None; over = false; arrival = None; trace = [] }

-- ---- Hearing.

-- what the core takes: a whole block that was refused is a bad one
abbrev pub sound_taken : Heard → Bool → Sound
sound_taken (heard.Frame f) refused = if refused then Sound.Bad else sound_heard (heard.Frame f)
sound_taken h refused = sound_heard h

-- A whole block alone may be refused: where it doesn't read in the mode of the job that is begun, or where memory runs out. One that isn't
-- refused reads.
abbrev pub MayRefuse : Heard → Option Job → Bool → Type 0
MayRefuse (heard.Frame (frame.Block b)) begun true = Unit {0}
MayRefuse (heard.Frame (frame.Block b)) begun false = (u : Unpacked) × IsRead b (mode_of_begun begun) u
MayRefuse h begun refused = refused ≡ false

-- why a whole block is refused: its text isn't read in the mode of the job that is begun, for this reason
abbrev pub IsRefusal : Heard → Option Job → TextFault → Type 0
IsRefusal (heard.Frame (frame.Block b)) begun fault = IsTextFault b (mode_of_begun begun) fault
IsRefusal h begun fault = ⊥

-- the last hearing brought a block that was refused
abbrev pub was_refused : Option Arrival → Bool
was_refused None = false
was_refused (Some arrival) = arrival.refused

-- an accepted block is joined to the jobs, and nothing else changes them
abbrev pub jobs_after : Heard → Bool → List Job → List Job
jobs_after (heard.Frame (frame.Block b)) true jobs = with_block jobs b
jobs_after _ accepted jobs = jobs

-- what is noted of a step
abbrev pub received_events : Bool → Bool → List Event
received_events accepted true = event.Refused ∷ []
received_events true false = event.Accepted ∷ []
received_events false false = []

-- after a hearing: the core takes its one step, and its reply, or none, is due in place of an older one
abbrev pub after_receiving : Receiving → Heard → Bool → Wish → Receiving
after_receiving s h refused wish =
    let sound = sound_taken h refused in
    let news = receiver_news s.core sound wish in
    record {
      jobs = jobs_after h news.accepted s.jobs;
      core = receiver_hears s.core sound wish;
      due = news.reply;
      over = news.ended;
      arrival = Some (record { sound = sound_heard h; refused = refused });
      trace = last_events (s.trace ++ event.Heard (sound_heard h) ∷ received_events news.accepted refused);
    }

-- one hearing: something was heard, of which `IsTold` holds, and it was refused or not
pub record Received (old new : Receiving) (wish : Wish) (reply : Option Reply) (IsTold : Heard → Type 0) : Type 0 where
  pub what : Heard
  pub refused : Bool
  pub told : IsTold what
  pub may : MayRefuse what (begun_in old.jobs) refused
  pub state : new ≡ after_receiving old what refused wish
  pub reply_is : reply ≡ new.due

-- ---- Speaking.

-- the frame of a reply
abbrev pub frame_of : Reply → Frame
frame_of Reply.Ack0 = frame.Ack0
frame_of Reply.Ack1 = frame.Ack1
frame_of Reply.Nak = frame.Nak
frame_of Reply.Wack = frame.Wack
frame_of Reply.Rvi = frame.Rvi

-- the reply that was due was sent, and what comes is as before; where none was due, nothing was sent
abbrev pub Replied : Option Reply → Talk → Talk → Type 0
Replied None t u = u ≡ t
Replied (Some reply) t u = Written (frame_of reply) u.sent × (u.coming ≡ t.coming)

-- the number of transmissions: one more where a reply was due, and else as before
abbrev pub with_reply : Option Reply → ℕ → ℕ
with_reply None n = n
with_reply (Some reply) n = one_more n

-- a reply that was sent is noted
abbrev pub trace_after_reply : Option Reply → List Event → List Event
trace_after_reply None trace = trace
trace_after_reply (Some reply) trace = last_events (trace ++ event.Replied reply ∷ [])

-- after it spoke no reply is due
abbrev pub after_replying : Receiving → Receiving
after_replying s = record s { due = None; trace = trace_after_reply s.due s.trace }

-- ---- The end.

-- after a fault of the line it is over; the jobs stay
abbrev pub after_fault : Receiving → Receiving
after_fault s = record s { over = true; trace = last_events (s.trace ++ event.Over ∷ []) }

-- after a refusal: a station that was over stays as it is
abbrev pub after_refusal : StationFault → Receiving → Receiving
after_refusal fault.Over s = s
after_refusal f s = after_fault s

-- after it was told to end; the jobs stay
abbrev pub after_abandon : Receiving → Receiving
after_abandon s = record s { core = receiver_quiet_long s.core; due = None; over = true; trace = last_events (s.trace ++ event.Over ∷ []) }
