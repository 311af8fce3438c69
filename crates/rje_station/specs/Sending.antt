-- A sending station: what it holds, what it sends, and what each call makes of it (own profile, over the link tables of bsc_link).
use Rattle.std.specs.Prelude.{◌≡◌, ℕ, ◌+◌, ◌==◌, Bool, true, false, List, [], ◌∷◌, ◌++◌, length, Option, Some, if◌then◌else◌}
use Rattle.bsc_codes.specs.declared.block.Block.{Block}
use Rattle.bsc_codes.specs.declared.block.Closing.{Closing}
use Rattle.bsc_codes.specs.declared.block.Closing.TheVariants.{Etb, Etx}
use Rattle.bsc_frame.specs.declared.frame.Frame.TheVariants as frame
use Rattle.bsc_frame.specs.Written.{Written}
use Rattle.bsc_link.specs.declared.say.Say.{Say}
use Rattle.bsc_link.specs.declared.sound.Sound.{Sound}
use Rattle.bsc_link.specs.declared.next.Next.{Next}
use Rattle.bsc_link.specs.declared.outcome.Outcome.{Outcome}
use Rattle.bsc_link.specs.Sender.{SenderState, first_sender_state, say_in, outcome_in, sender_hears, sender_sent_end, counts_block, line_for}
use Rattle.rje_jobs.specs.declared.job.Job.{Job}
use Rattle.rje_jobs.specs.Blocks.{blocks}
use Rattle.rje_text.specs.NextBlock.{blocks_after}
use Rattle.rje_station.specs.declared.event.Event.{Event}
use Rattle.rje_station.specs.declared.event.Event.TheVariants as event
use Rattle.rje_station.specs.declared.station_fault.StationFault.{StationFault}
use Rattle.rje_station.specs.declared.station_fault.StationFault.TheVariants as fault
use Rattle.rje_station.specs.Line.{Talk}
use Rattle.rje_station.specs.Trace.{last_events}

-- a sending station
pub record Sending : Type 0 where
  -- the jobs given
  pub jobs : List Job
  -- their blocks that aren't counted, in order; the first is outstanding
  pub rest : List Block
  -- how many jobs have their last block counted
  pub counted : ℕ
  pub core : SenderState
  -- it neither speaks nor hears any more
  pub over : Bool
  pub trace : List Event

-- a station that has done nothing; with no jobs it is over
abbrev pub first_sending : List Job → Sending
first_sending jobs = record { jobs = jobs; rest = blocks jobs; counted = 0; core = first_sender_state; over = length jobs == 0; trace = [] }

-- how the transmission ends; with no jobs it is done
abbrev pub outcome_of : Sending → Option Outcome
outcome_of s = if length s.jobs == 0 then Some Outcome.Done else outcome_in s.core.place

-- ---- The outstanding block.

-- the bytes of its text
abbrev pub first_length : List Block → ℕ
first_length [] = 0
first_length (b ∷ rest) = length b.text.items

-- after it come the blocks of the first job's records from this one on, and those of the jobs after it
abbrev pub GoesOnAt : List Block → List Job → ℕ → Type 0
GoesOnAt (b ∷ rest) (j ∷ jobs) record_after = rest ≡ blocks_after j.select j.mode j.records b.closing record_after ++ blocks jobs
GoesOnAt (b ∷ rest) [] record_after = ⊥
GoesOnAt [] jobs record_after = Unit {0}

-- ---- Speaking.

-- these bytes are the first of the blocks, written
abbrev pub IsFirstWritten : List Block → List ℕ → Type 0
IsFirstWritten [] bytes = ⊥
IsFirstWritten (b ∷ rest) bytes = Written (frame.Block b) bytes

-- these bytes are what is due, written: Bid and Ask are ENQ, Delay is TTD, End is EOT; Block and Again are the outstanding block
abbrev pub IsWrittenOf : Say → List Block → List ℕ → Type 0
IsWrittenOf Say.Bid rest bytes = Written frame.Enq bytes
IsWrittenOf Say.Ask rest bytes = Written frame.Enq bytes
IsWrittenOf Say.Delay rest bytes = Written frame.Ttd bytes
IsWrittenOf Say.End rest bytes = Written frame.Eot bytes
IsWrittenOf Say.Block rest bytes = IsFirstWritten rest bytes
IsWrittenOf Say.Again rest bytes = IsFirstWritten rest bytes
IsWrittenOf Say.Nothing rest bytes = ⊥

-- just what is due was sent, and what comes is as before
abbrev pub Spoke : Say → List Block → Talk → Talk → Type 0
Spoke say rest t u = IsWrittenOf say rest u.sent × (u.coming ≡ t.coming)

-- End is due
abbrev pub is_end : Say → Bool
is_end Say.End = true
is_end _ = false

-- after it spoke: nothing but the trace changes, except that after End it is over
abbrev pub after_speaking : Sending → Sending
after_speaking s = record s {
  core = sender_sent_end s.core;
  over = is_end (say_in s.core.place);
  trace = last_events (s.trace ++ event.Said (say_in s.core.place) ∷ []);
}

-- ---- Hearing.

-- what follows a block that ends so, with these blocks after it
abbrev pub next_after : Closing → List Block → Next
next_after closing [] = Next.Done
next_after Etx (b ∷ bs) = Next.NewJob
next_after Etb (b ∷ bs) = Next.Block

-- what follows the outstanding block
abbrev pub next_in : List Block → Next
next_in [] = Next.Done
next_in (b ∷ bs) = next_after b.closing bs

-- what the core is given of what follows: while it bids, that the next block begins a job
abbrev pub next_for : Say → List Block → Next
next_for Say.Bid rest = Next.NewJob
next_for _ rest = next_in rest

-- a block with ETX counts its job
abbrev pub counted_by : Closing → ℕ → ℕ
counted_by Etx n = n + 1
counted_by Etb n = n

-- where the outstanding block is counted, the next one becomes outstanding
abbrev pub rest_after : Bool → List Block → List Block
rest_after true (b ∷ rest) = rest
rest_after _ rest = rest

-- and its job is counted where it has ETX
abbrev pub counted_after : Bool → List Block → ℕ → ℕ
counted_after true (b ∷ rest) n = counted_by b.closing n
counted_after _ rest n = n

-- the core has nothing to say any more
abbrev pub is_done : Say → Bool
is_done Say.Nothing = true
is_done _ = false

-- what is noted of a step
abbrev pub counted_events : Bool → List Event
counted_events true = event.Counted ∷ []
counted_events false = []

-- after it heard a sound: the core takes its one step, and where that counts the outstanding block, the next one is outstanding
abbrev pub after_hearing : Sending → Sound → Bool → Sending
after_hearing s sound pause =
    let counts = counts_block (line_for s.core sound pause) in
    let core = sender_hears s.core sound (next_for (say_in s.core.place) s.rest) pause in
    record s {
      rest = rest_after counts s.rest;
      counted = counted_after counts s.rest s.counted;
      core = core;
      over = is_done (say_in core.place);
      trace = last_events (s.trace ++ event.Heard sound ∷ counted_events counts);
    }

-- ---- Faults.

-- after a fault of the line it is over; jobs and counts stay
abbrev pub after_fault : Sending → Sending
after_fault s = record s { over = true; trace = last_events (s.trace ++ event.Over ∷ []) }

-- after a refusal: a station that was over stays as it is
abbrev pub after_refusal : StationFault → Sending → Sending
after_refusal fault.Over s = s
after_refusal f s = after_fault s

-- ---- Counting.

-- how many jobs these blocks end
abbrev pub ended_by : List Block → ℕ
ended_by [] = 0
ended_by (b ∷ bs) = counted_by b.closing (ended_by bs)
