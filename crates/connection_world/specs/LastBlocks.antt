-- How many jobs come over an exchange, to the job: those that are counted, or one more, and that one's last block was said. Own profile.
use Rattle.std.specs.Prelude.{◌≡◌, ◌⊎◌, ◌+◌, ℕ, true, List, [], ◌∷◌}
use Rattle.std.specs.List.{AllByRecursion}
use Rattle.bsc_codes.specs.declared.block.Block.{Block}
use Rattle.bsc_frame.specs.declared.frame.Frame.{Frame}
use Rattle.bsc_frame.specs.declared.frame.Frame.TheVariants as frame
use Rattle.bsc_link.specs.declared.rank.Rank.{Rank}
use Rattle.rje_jobs.specs.declared.job.Job.{Job}
use Rattle.rje_jobs.specs.Fitting.{JobFits}
use Rattle.rje_jobs.specs.Joined.{ends_job}
use Rattle.rje_station.specs.Sending.{Sending}
use Rattle.rje_station.specs.Station.{Contending}
use Rattle.line_world.specs.Headline.{HandsFirst}
use Rattle.connection_world.specs.BothWays.{AtEnd, Own, EndWent, IsExchange}
use Rattle.connection_world.specs.Connection.{Says}

-- this frame is the outstanding block, and the last one of its job
pub record IsLastOfJob (f : Frame) (s : Sending) : Type 0 where
  pub block : Block
  pub behind : List Block
  pub outstanding : s.rest ≡ block ∷ behind
  pub said : f ≡ frame.Block block
  pub last : ends_job block.closing ≡ true

-- Looked back over what happened at its end: with so many jobs counted the station said the last block of the next one, for the first time or
-- again.
abbrev pub HasSaidLast : (counted : ℕ) → (rank : Rank) (jobs : List Job) (past : List AtEnd) (s : Contending) → EndWent rank jobs past s → Type 0
HasSaidLast counted rank jobs [] s went = ⊥
HasSaidLast counted rank jobs (Own (Says f) ∷ past) s (before, went, speaks) =
    ((before.sender.counted ≡ counted) × IsLastOfJob f before.sender) ⊎ HasSaidLast counted rank jobs past before went
HasSaidLast counted rank jobs (_ ∷ past) s (before, went, goes) = HasSaidLast counted rank jobs past before went

-- The first so many of the jobs given are handed out as they are, and after them nothing, or a beginning of the next one: as many as are counted;
-- or one more, and then this holds.
pub record HandsFirstWhere (one_more : Type 0) (counted : ℕ) (given handed : List Job) : Type 0 where
  pub whole : ℕ
  pub many : (whole ≡ counted) ⊎ ((whole ≡ counted + 1) × one_more)
  pub first : HandsFirst whole given handed

-- Each way of an exchange of jobs that can be sent: a job that is handed out whole and isn't counted is the one after those that are, and the
-- sending station has said its last block.
abbrev pub HandOutWhatWasSaid : Type 0
HandOutWhatWasSaid =
    (ups downs : List Job) (near far : List AtEnd) (p s : Contending) → AllByRecursion JobFits ups → AllByRecursion JobFits downs
    → (c : IsExchange ups downs near far p s)
    → HandsFirstWhere (HasSaidLast p.sender.counted Rank.Primary ups near p c.primary) p.sender.counted ups s.receiver.jobs
    × HandsFirstWhere (HasSaidLast s.sender.counted Rank.Secondary downs far s c.secondary) s.sender.counted downs p.receiver.jobs
