-- Driving two new stations over a schedule: the run that is told of it, and where both stations stand after it. Own profile.
use Rattle.std.specs.Prelude.{◌≡◌, List, [], None}
use Rattle.rje_jobs.specs.declared.job.Job.{Job}
use Rattle.rje_jobs.specs.Blocks.{blocks}
use Rattle.rje_station.specs.Receiving.{Receiving, first_receiving}
use Rattle.rje_station.specs.Sending.{Sending, first_sending, outcome_of}
use Rattle.rje_station.specs.Trace.{IsTraceOf}
use Rattle.line_world.specs.declared.spoken.Spoken.{Spoken}
use Rattle.line_world.specs.declared.turn.Turn.{Turn}
use Rattle.bsc_history.specs.History.{History}
use Rattle.line_world.specs.Run.{IsRun}
use Rattle.line_world.specs.Traces.{sender_events, receiver_events}
use Rattle.line_world.specs.Turns.{StandsSending, StandsReceiving}

-- where both stations stand after a history of these jobs
pub record StandBoth (jobs : List Job) (h : History) (s : Sending) (r : Receiving) : Type 0 where
  -- with no jobs both are as new ones
  pub idle : jobs ≡ [] → (s ≡ first_sending []) × (r ≡ first_receiving)
  -- else the sending station stands where the history left it
  pub sends : (jobs ≡ [] → ⊥) → StandsSending jobs h s
  -- and so does the receiving one, which holds the jobs of the blocks that it got
  pub receives : StandsReceiving (blocks jobs) h r
  -- no reply is due
  pub silent : r.due ≡ None
  -- each trace is that of a station that did what the history tells
  pub said : IsTraceOf (sender_events h) s.trace
  pub heard : IsTraceOf (receiver_events h) r.trace

-- the turns told are those of a run, and both stations stand after its history
pub record IsDrive (jobs : List Job) (turns : List Turn) (spoken : List Spoken) (s : Sending) (r : Receiving) : Type 0 where
  pub run : IsRun jobs turns spoken r.jobs s.counted (outcome_of s)
  pub stand : StandBoth jobs run.history s r
