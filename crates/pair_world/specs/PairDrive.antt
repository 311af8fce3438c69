-- Driving two new stations that both have jobs over a schedule: the run that is told of it, and where both stations stand after it. Own
-- profile.
use Rattle.std.specs.Prelude.{◌≡◌, ℕ, false, not, ◌||◌, ◌==◌, List, length, None}
use Rattle.bsc_codes.specs.declared.block.Block.{Block}
use Rattle.bsc_link.specs.declared.rank.Rank.{Rank}
use Rattle.bsc_link.specs.Sender.{say_in, is_enough}
use Rattle.rje_jobs.specs.declared.job.Job.{Job}
use Rattle.rje_jobs.specs.Blocks.{blocks}
use Rattle.rje_jobs.specs.Joined.{joined}
use Rattle.rje_station.specs.Laws.{HasCounted}
use Rattle.rje_station.specs.Receiving.{Receiving}
use Rattle.rje_station.specs.Sending.{Sending}
use Rattle.rje_station.specs.Station.{Contending}
use Rattle.rje_station.specs.Trace.{IsTraceOf}
use Rattle.bsc_history.specs.History.{History, is_over, is_even}
use Rattle.bsc_history.specs.Known.{known, tries, holds, has_heard_rvi}
use Rattle.bsc_history.specs.Got.{got}
use Rattle.bsc_history.specs.SayingRule.{saying}
use Rattle.bsc_history.specs.Pair.{PairHistory, up, down, is_open, is_bid_out}
use Rattle.bsc_history.specs.PairCount.{spent}
use Rattle.pair_world.specs.declared.pair_spoken.PairSpoken.{PairSpoken}
use Rattle.pair_world.specs.declared.pair_turn.PairTurn.{PairTurn}
use Rattle.pair_world.specs.Contending.{is_sending, place_of}
use Rattle.line_world.specs.Plan.{plan_of, numbered}
use Rattle.line_world.specs.Traces.{sender_events}
use Rattle.pair_world.specs.PairTraces.{primary_events, secondary_events}
use Rattle.line_world.specs.Turns.{StandsReceiving}
use Rattle.pair_world.specs.PairRun.{IsPairRun, told_by}

-- where a sending station stands after the turns of its direction, of which so many tries and holds count: its core says next what the
-- rule says, and what is outstanding and counted is what they left
pub record SendsAfter (jobs : List Job) (own : History) (m n : ℕ) (s : Sending) : Type 0 where
  pub jobs_are : s.jobs ≡ jobs
  pub says : say_in s.core.place ≡ saying (plan_of (blocks jobs)) (is_enough m n) own
  pub parity : s.core.odd_counted ≡ not (is_even (known own))
  pub rvi : s.core.rvi_noted ≡ has_heard_rvi own
  pub tried : is_over own ≡ false → is_enough m n ≡ false → s.core.tries ≡ m
  pub held : is_over own ≡ false → is_enough m n ≡ false → s.core.holds ≡ n
  pub counted : HasCounted jobs (known own) s
  pub over : s.over ≡ ((length jobs == 0) || is_over own)

-- where a receiving station stands after them: it holds the jobs of the blocks that it got, and while they go on its core stands where
-- they left it
pub record ReceivesAfter (blocks : List Block) (own : History) (r : Receiving) : Type 0 where
  pub jobs : r.jobs ≡ joined (numbered blocks (got own))
  pub live : is_over own ≡ false → StandsReceiving blocks own r

-- where both stations stand after these turns: no line failed; each receives where the other was bid for, and sends where its bid was
-- granted, until that direction is over; and the bid of the primary is noted while it is out
pub record StandPair (ups downs : List Job) (h : PairHistory) (a b : Contending) : Type 0 where
  pub a_live : a.failed ≡ false
  pub b_live : b.failed ≡ false
  pub a_rank : a.contender.rank ≡ Rank.Primary
  pub b_rank : b.contender.rank ≡ Rank.Secondary
  pub a_place : a.contender.place ≡ place_of (is_open (down h)) (is_sending (up h))
  pub b_place : b.contender.place ≡ place_of (is_open (up h)) (is_sending (down h))
  pub a_noted : a.contender.bid_noted ≡ is_bid_out (up h)
  pub a_sends : SendsAfter ups (up h) (tries (up h)) (holds (up h)) a.sender
  pub b_sends : SendsAfter downs (down h) (spent h).tries (spent h).holds b.sender
  pub a_receives : ReceivesAfter (blocks downs) (down h) a.receiver
  pub b_receives : ReceivesAfter (blocks ups) (up h) b.receiver
  -- no reply is due
  pub a_silent : a.receiver.due ≡ None
  pub b_silent : b.receiver.due ≡ None
  -- each trace is that of a station that did what the history tells
  pub a_said : IsTraceOf (sender_events (up h)) a.sender.trace
  pub b_said : IsTraceOf (sender_events (down h)) b.sender.trace
  pub a_heard : IsTraceOf (primary_events h) a.receiver.trace
  pub b_heard : IsTraceOf (secondary_events h) b.receiver.trace

-- the turns told are those of a run of the pair, and both stations stand after its history
pub record IsPairDrive (ups downs : List Job) (turns : List PairTurn) (spoken : List PairSpoken) (a b : Contending) : Type 0 where
  pub run : IsPairRun ups downs turns spoken (told_by b a) (told_by a b)
  pub stand : StandPair ups downs run.history a b
