-- What holds of stations beyond their calls.
use Rattle.std.specs.Prelude.{◌≡◌, ℕ, ◌+◌, Bool, true, List, [], ◌∷◌, ◌++◌, drop, take, if◌then◌else◌}
use Rattle.bsc_codes.specs.declared.block.Block.{Block}
use Rattle.bsc_frame.specs.declared.frame.Frame.TheVariants as frame
use Rattle.bsc_frame.specs.declared.heard.Heard.{Heard}
use Rattle.bsc_frame.specs.declared.heard.Heard.TheVariants as heard
use Rattle.bsc_link.specs.declared.sound.Sound.{Sound}
use Rattle.bsc_link.specs.declared.wish.Wish.{Wish}
use Rattle.bsc_link.specs.Receiver.{receiver_news}
use Rattle.bsc_link.specs.Sender.{counts_block, line_for}
use Rattle.rje_jobs.specs.declared.job.Job.{Job}
use Rattle.rje_jobs.specs.Blocks.{blocks}
use Rattle.rje_jobs.specs.Joined.{joined}
use Rattle.rje_station.specs.declared.event.Event.{Event}
use Rattle.rje_station.specs.JoinedJobs.{with_block, with_blocks}
use Rattle.rje_station.specs.Receiving.{Receiving, sound_taken, after_receiving}
use Rattle.rje_station.specs.Sending.{Sending, first_sending, after_hearing, ended_by}
use Rattle.rje_station.specs.Trace.{last_events, IsTraceOf}

-- joining block by block gives the jobs of the blocks
abbrev pub JoinsBlocks : Type 0
JoinsBlocks = (blocks : List Block) → with_blocks [] blocks ≡ joined blocks

-- and one more block goes on
abbrev pub JoinsOn : Type 0
JoinsOn = (blocks : List Block) (b : Block) → with_block (joined blocks) b ≡ joined (blocks ++ b ∷ [])

-- the accepted blocks with the one that was heard, where it was accepted
abbrev pub accepted_after : Heard → Bool → List Block → List Block
accepted_after (heard.Frame (frame.Block b)) true blocks = blocks ++ b ∷ []
accepted_after _ accepted blocks = blocks

-- so a receiving station that holds the jobs of the blocks accepted so far holds those of all of them after each hearing
abbrev pub HearsJobs : Type 0
HearsJobs = (accepted : List Block) (s : Receiving) (what : Heard) (refused : Bool) (wish : Wish) → s.jobs ≡ joined accepted
    → (after_receiving s what refused wish).jobs ≡ joined (accepted_after what (receiver_news s.core (sound_taken what refused) wish).accepted accepted)

-- what is noted after a trace is noted after all events that it stands for
abbrev pub TraceGoesOn : Type 0
TraceGoesOn = (events more trace : List Event) → IsTraceOf events trace → IsTraceOf (events ++ more) (last_events (trace ++ more))

-- the first n blocks of these jobs are counted, and as many jobs as they end
pub record HasCounted (jobs : List Job) (n : ℕ) (s : Sending) : Type 0 where
  pub rest : s.rest ≡ drop n (blocks jobs)
  pub counted : s.counted ≡ ended_by (take n (blocks jobs))

-- a new station has counted no block, and a hearing counts one more where the core's step does
abbrev pub CountsBlocks : Type 0
CountsBlocks =
    ((jobs : List Job) → HasCounted jobs 0 (first_sending jobs))
    × ((jobs : List Job) (n : ℕ) (s : Sending) (sound : Sound) (pause : Bool) → HasCounted jobs n s
    → HasCounted jobs (if counts_block (line_for s.core sound pause) then n + 1 else n) (after_hearing s sound pause))
