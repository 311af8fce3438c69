-- What a station that sends and receives holds in its two files while it takes its turns (own profile); no promise rests on it.
use Rattle.rje_store.specs.Store.{FileMap}
use Rattle.rje_jobs.specs.declared.job.Job.{Job}
use Rattle.rje_sockets.specs.declared.job_writer.JobWriter.{JobWriter}
use Rattle.std.specs.Prelude.{List, Option, ℕ, length, ◌≡◌, ◌≢◌}
use Rattle.rje_sockets.specs.declared.sent_marker.SentMarker.{SentMarker}
use Rattle.rje_station.specs.Station.{Contending}
use Rattle.rje_sockets.specs.declared.transfer_error.TransferError.{TransferError}
use Rattle.rje_sockets.specs.BothWays.{Fails, StationTurn, Took, ExchangesTo}
use Rattle.rje_sockets.specs.LeavingBoth.{CameTo}
use Rattle.std.specs.Io.KnownBytes.{Appends}
use Rattle.rje_sockets.specs.declared.socket_commands.ending.Ending.{Ending}
use Rattle.rje_sockets.specs.declared.receive_end.ReceiveEnd.{ReceiveEnd}
use Rattle.rje_sockets.specs.Exchanging.{MakesBoth, ending_of_both, exchanged_text, is_idle}
use Rattle.rje_sockets.specs.Inside.Marking.{Marks}
use Rattle.rje_sockets.specs.Inside.Keeping.{KeepsJobs}
use Rattle.rje_sockets.specs.OverLine.{Outside}
use Rattle.rje_station.specs.Sending.{outcome_of}

-- since the files were these, the marker marked what is counted in its file, and the keeper kept these jobs in its own: as if all marks had
-- been made before the first job came
abbrev pub HoldsBoth : SentMarker → (counted : ℕ) → JobWriter → List Job → (files made : Option FileMap) → Type 0
HoldsBoth marker counted keeper jobs files made =
    (marked : Option FileMap) × Marks marker counted files marked × KeepsJobs keeper jobs marked made

-- what such a station changes beside itself: what is marked, what is kept, and the files
abbrev pub HeldSoFar : Type 0
HeldSoFar = SentMarker × JobWriter × Option FileMap

-- what a station has counted of its own jobs, and what came
abbrev pub Progress : Type 0
Progress = ℕ × List Job

-- that of this station
abbrev pub progress_of : Contending → Progress
progress_of s = (s.sender.counted, s.receiver.jobs)

-- a marker and a keeper, each of the same file, went on to mark what is counted and to keep what came, where these are two files
pub record GoesOnHolding (was is : HeldSoFar) (had has : Progress) : Type 0 where
  pub name : is.0.name ≡ was.0.name
  pub file : is.0.file ≡ was.0.file
  pub own : is.1.file ≡ was.1.file
  pub holds : was.0.name.now ≢ was.1.file.into.jobs.now → (files : Option FileMap)
      → HoldsBoth was.0 had.0 was.1 had.1 files was.2 → HoldsBoth is.0 has.0 is.1 has.1 files is.2

-- what is kept of the jobs of a station that broke off: all that it has; or, where the last one couldn't be kept, those that it had before
abbrev pub kept_of : Contending → Contending → TransferError → List Job
kept_of near s (TransferError.Line fault) = s.receiver.jobs
kept_of near s (TransferError.File fault) = near.receiver.jobs

-- it took some turns, and then it broke off; what it had counted is marked, and what had come is kept
pub record BreaksBoth (s s' : Contending) (was is : HeldSoFar) (broken : TransferError) : Type 0 where
  pub turns : List StationTurn
  pub near : Contending
  pub took : Took s.contender.rank s turns near
  pub fails : Fails near s' broken
  pub holds : GoesOnHolding was is (progress_of s) (near.sender.counted, kept_of near s' broken)

-- so many jobs it had counted then
abbrev pub HasCounted : Contending → ℕ → Type 0
HasCounted s n = (last : Contending) × CameTo s last × (last.sender.counted ≡ n)

-- one transmission was made each way over a line: the station, with this patience, took some turns there and left so; what it counted is marked in the one file, what
-- came is kept in the other, and just the lines of both were printed
pub record Exchanges (ending : Ending) (most : ℕ) (s : Contending) (files : SentMarker × JobWriter) (was is : Outside) : Type 0 where
  pub left : ReceiveEnd
  pub station : Contending
  pub exchanges : ExchangesTo most left s was.0 station is.0
  pub makes : files.0.name.now ≢ files.1.file.into.jobs.now → (first : Option FileMap)
      → HoldsBoth files.0 s.sender.counted files.1 s.receiver.jobs first was.1
      → MakesBoth files.0.file.items station files.0.name.now files.1.file.into first is.1
  pub ending_is : ending ≡ ending_of_both (outcome_of station.sender) (is_idle (length s.sender.jobs) station.receiver.jobs) left
  pub text_is : Appends was.2 is.2 (exchanged_text station.sender.counted (length s.sender.jobs) (outcome_of station.sender) station.receiver.jobs)
