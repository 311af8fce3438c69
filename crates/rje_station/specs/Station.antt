-- A station that sends and receives: what it holds, and what each call makes of it (own profile, over the tables of bsc_link).
use Rattle.std.specs.Prelude.{◌≡◌, ℕ, Bool, true, false, ◌||◌, List, [], ◌∷◌, ◌++◌, Option, Some, None, if◌then◌else◌}
use Rattle.bsc_codes.specs.declared.block.Block.{Block}
use Rattle.bsc_frame.specs.declared.heard.Heard.{Heard}
use Rattle.bsc_link.specs.declared.contender_place.ContenderPlace.{ContenderPlace}
use Rattle.bsc_link.specs.declared.rank.Rank.{Rank}
use Rattle.bsc_link.specs.declared.reply.Reply.{Reply}
use Rattle.bsc_link.specs.declared.say.Say.{Say}
use Rattle.bsc_link.specs.declared.sound.Sound.{Sound}
use Rattle.bsc_link.specs.declared.wish.Wish.{Wish}
use Rattle.bsc_link.specs.Contender.{ContenderState, first_contender_state, after_bid, after_grant, after_enq, takes_enq, after_own_end, after_other_end}
use Rattle.bsc_link.specs.Sender.{say_in, sender_yielded}
use Rattle.rje_jobs.specs.declared.job.Job.{Job}
use Rattle.rje_station.specs.declared.event.Event.TheVariants as event
use Rattle.rje_station.specs.declared.station_fault.StationFault.{StationFault}
use Rattle.rje_station.specs.declared.station_fault.StationFault.TheVariants as fault
use Rattle.rje_station.specs.Hearing.{sound_heard, HearsSound}
use Rattle.rje_station.specs.JoinedJobs.{begun_in}
use Rattle.rje_station.specs.Line.{Talk, Passes, one_more}
use Rattle.rje_station.specs.Receiving.{Receiving, first_receiving, MayRefuse, after_receiving, after_replying, after_abandon}
use Rattle.rje_station.specs.Receiving.{after_fault as receiver_lost}
use Rattle.rje_station.specs.Sending.{Sending, first_sending, Spoke, after_speaking, after_hearing}
use Rattle.rje_station.specs.Sending.{after_fault as sender_lost}
use Rattle.rje_station.specs.Trace.{last_events}

-- a station that sends and receives
pub record Contending : Type 0 where
  pub sender : Sending
  pub receiver : Receiving
  pub contender : ContenderState
  -- a line failed or babbled
  pub failed : Bool

-- a station that has done nothing
abbrev pub first_contending : Rank → List Job → Contending
first_contending rank jobs = record { sender = first_sending jobs; receiver = first_receiving; contender = first_contender_state rank; failed = false }

-- ---- Its own transmission.

-- what is due at a sending station; nothing where it is over
abbrev pub due_in : Sending → Say
due_in s = if s.over then Say.Nothing else say_in s.core.place

abbrev pub is_receiving : ContenderPlace → Bool
is_receiving ContenderPlace.Receiving = true
is_receiving _ = false

-- what is due: nothing while the station receives, after a fault, and once its own transmission is over
abbrev pub due_at : Contending → Say
due_at s = if s.failed then Say.Nothing else (if is_receiving s.contender.place then Say.Nothing else due_in s.sender)

-- a bid that was said is noted, and EOT ends its own transmission
abbrev pub contender_said : Say → ContenderState → ContenderState
contender_said Say.Bid c = after_bid c
contender_said Say.End c = after_own_end c
contender_said _ c = c

-- after it spoke: where nothing was due nothing changes
abbrev pub after_own_speaking : Contending → Contending
after_own_speaking s = elim (due_at s) [
  | Say.Nothing ↦ s
  | _ ↦ record s { sender = after_speaking s.sender; contender = contender_said (due_at s) s.contender }
]

-- just what is due was sent; where nothing is, nothing
abbrev pub SpokeDue : Say → List Block → Talk → Talk → Type 0
SpokeDue Say.Nothing rest t u = u ≡ t
SpokeDue say rest t u = Spoke say rest t u

-- what is due is one transmission
abbrev pub with_said : Say → ℕ → ℕ
with_said Say.Nothing n = n
with_said _ n = one_more n

-- where something was due it was this; where nothing was the line is as it was
abbrev pub IfSilent : Say → Type 0 → Type 0
IfSilent Say.Nothing P = P
IfSilent _ P = Unit {0}

-- its bid was granted, or EOT was heard in answer
abbrev pub contender_answered : Say → Sound → ContenderState → ContenderState
contender_answered Say.Bid Sound.Ack0 c = after_grant c
contender_answered say Sound.Eot c = after_own_end c
contender_answered say _ c = c

-- after it heard the answer to what it said; where nothing was due nothing changes
abbrev pub after_answer : Contending → Sound → Bool → Contending
after_answer s sound pause = elim (due_at s) [
  | Say.Nothing ↦ s
  | _ ↦ record s { sender = after_hearing s.sender sound pause; contender = contender_answered (due_at s) sound s.contender }
]

-- one hearing of an answer; where nothing was due it is Quiet
abbrev pub HeardAnswer : Option Talk → Option Talk → Say → Sound → Type 0
HeardAnswer old new Say.Nothing sound = sound ≡ Sound.Quiet
HeardAnswer old new say sound = Passes old new (λ t u. HearsSound t u sound)

-- after a fault of the line; a station that was over stays as it is
abbrev pub after_own_refusal : StationFault → Contending → Contending
after_own_refusal fault.Over s = s
after_own_refusal f s = record s { sender = sender_lost s.sender; failed = true }

-- a fault of the line is noted
abbrev pub after_note : StationFault → Contending → Contending
after_note fault.Over s = s
after_note f s = record s { failed = true }

-- ---- The other station's transmission.

-- an ENQ comes to the receiver where the contender takes it, and all else does
abbrev pub lets_in : ContenderState → Sound → Bool
lets_in c Sound.Enq = takes_enq c
lets_in c _ = true

-- the other station bids or asks, or ends its transmission
abbrev pub contender_hears : Sound → ContenderState → ContenderState
contender_hears Sound.Enq c = after_enq c
contender_hears Sound.Eot c = after_other_end c
contender_hears _ c = c

-- a secondary gives way to an ENQ that it takes
abbrev pub gives_way : Rank → Sound → Sending → Sending
gives_way Rank.Secondary Sound.Enq s = record s { core = sender_yielded s.core }
gives_way rank sound s = s

-- an ENQ that isn't taken is noted, and no reply is due
abbrev pub after_passing : Receiving → Receiving
after_passing r = record r { due = None; arrival = Some (record { sound = Sound.Enq; refused = false }); trace = last_events (r.trace ++ event.Heard Sound.Enq ∷ []) }

-- after it heard the other station
abbrev pub after_other : Contending → Heard → Bool → Wish → Contending
after_other s what refused wish =
    if lets_in s.contender (sound_heard what)
    then record s {
      sender = gives_way s.contender.rank (sound_heard what) s.sender;
      receiver = after_receiving s.receiver what refused wish;
      contender = contender_hears (sound_heard what) s.contender;
    }
    else record s { receiver = after_passing s.receiver }

-- one hearing of the other station: something was heard, of which `IsTold` holds, and it was refused or not
pub record HeardOther (old new : Contending) (wish : Wish) (reply : Option Reply) (IsTold : Heard → Type 0) : Type 0 where
  pub what : Heard
  pub refused : Bool
  pub told : IsTold what
  pub may : MayRefuse what (begun_in old.receiver.jobs) refused
  pub state : new ≡ after_other old what refused wish
  pub reply_is : reply ≡ new.receiver.due

-- after it sent the reply that was due
abbrev pub after_own_reply : Contending → Contending
after_own_reply s = record s { receiver = after_replying s.receiver }

-- after a fault of the line; a station that was over stays as it is
abbrev pub after_other_refusal : StationFault → Contending → Contending
after_other_refusal fault.Over s = s
after_other_refusal f s = record s { receiver = receiver_lost s.receiver; failed = true }

-- after it was told that the other station's transmission ended: a receiver that isn't over is abandoned
abbrev pub after_other_ended : Contending → Contending
after_other_ended s = record s { receiver = if s.receiver.over then s.receiver else after_abandon s.receiver; contender = after_other_end s.contender }

-- it neither hears the other station nor replies
abbrev pub is_deaf : Contending → Bool
is_deaf s = s.failed || s.receiver.over
