-- One transmission each way over one line: what it makes of the two files, and what is printed of it (own profile).
use Rattle.std.specs.Prelude.{◌≡◌, ◌++◌, ◌==◌, ℕ, Bool, true, false, List, [], ◌∷◌, length, Option, Some}
use Rattle.std.specs.Io.KnownBytes.{Appends}
use Rattle.bsc_link.specs.declared.outcome.Outcome.{Outcome}
use Rattle.bsc_link.specs.declared.rank.Rank.{Rank}
use Rattle.rje_jobs.specs.declared.job.Job.{Job}
use Rattle.rje_files.specs.declared.entry.Entry.{Entry}
use Rattle.rje_files.specs.Entry.{jobs_in}
use Rattle.rje_files.specs.JobFile.{HasEntries}
use Rattle.rje_files.specs.Unsent.{unsent}
use Rattle.rje_station.specs.Sending.{outcome_of}
use Rattle.rje_station.specs.Station.{Contending, first_contending}
use Rattle.rje_requests.specs.declared.order.Destination.{Destination}
use Rattle.rje_commands.specs.Commands.{OfFile}
use Rattle.rje_sockets.specs.declared.receive_end.ReceiveEnd.{ReceiveEnd}
use Rattle.rje_sockets.specs.declared.socket_commands.ending.Ending.{Ending}
use Rattle.rje_sockets.specs.BothWays.{ExchangesTo}
use Rattle.rje_print.specs.ReportTexts.{counted_line, outcome_line}
use Rattle.rje_sockets.specs.Ending.{MakesJobFile, MarksSent, ending_status, received_text}
use Rattle.rje_sockets.specs.OverLine.{Outside}
use Rattle.rje_store.specs.Store.{FileMap}

-- how a station takes part: its rank, and after how many of the other's turns in a row that brought nothing it leaves
abbrev pub Part : Type 0
Part = Rank × ℕ

-- nothing was given to be sent, and nothing came
abbrev pub is_idle : (given : ℕ) → List Job → Bool
is_idle given [] = given == 0
is_idle given (job ∷ jobs) = false

-- both directions ended as they should, or one ended otherwise; an idle one ended as it should also where the other was quiet for long
abbrev pub ending_of_both : Option Outcome → (is_idle : Bool) → ReceiveEnd → Ending
ending_of_both (Some Outcome.Done) idle ReceiveEnd.Ended = Ending.Done
ending_of_both (Some Outcome.Done) true ReceiveEnd.Abandoned = Ending.Done
ending_of_both _ _ _ = Ending.Other

-- the lines of both: how many of so many jobs were counted, how that ended, and what came
abbrev pub exchanged_text : (counted given : ℕ) → Option Outcome → List Job → List ℕ
exchanged_text counted given outcome jobs = counted_line counted given ++ outcome_line outcome ++ received_text jobs

-- the file of the one name became that of the same entries as this file's, in which just so many of those that were not Sent are Sent as the
-- station counted, and the file of the destination became that of the entries in front and its jobs; no other file changed
abbrev pub MakesBoth : (file : List ℕ) → Contending → (send : List ℕ) → (into : Destination) → (files made : Option FileMap) → Type 0
MakesBoth file s send into files made =
    (marked : Option FileMap) × MarksSent file s.sender.counted send files marked × MakesJobFile s.receiver.jobs into marked made

-- what was left of the job file of the one name was exchanged over a line for the jobs of the other station: a new station took some turns
-- there in this part and left so; the jobs that it counted are Sent in that file now, the file of the destination is that of the entries in front and
-- the jobs that came, no other file changed, and just the lines of both were printed
pub record ExchangesLeft (ending : Ending) (part : Part) (send : List ℕ) (into : Destination) (was is : Outside) : Type 0 where
  pub file : List ℕ
  pub entries : List Entry
  pub left : ReceiveEnd
  pub station : Contending
  pub read : OfFile send was.1 (λ read. file ≡ read)
  pub file_is : HasEntries entries file
  pub exchanges : ExchangesTo part.1 left (first_contending part.0 (jobs_in (unsent entries))) was.0 station is.0
  pub makes : MakesBoth file station send into was.1 is.1
  pub ending_is : ending ≡ ending_of_both (outcome_of station.sender) (is_idle (length (unsent entries)) station.receiver.jobs) left
  pub text_is : Appends was.2 is.2 (exchanged_text station.sender.counted (length (unsent entries)) (outcome_of station.sender) station.receiver.jobs)

-- a command over a line ended with this status, and what was left of the job file of the one name was exchanged so, with the usual patience of
-- forty
abbrev pub EndsExchanging : (status : ℕ) → Rank → (send : List ℕ) → (into : Destination) → (was is : Outside) → Type 0
EndsExchanging status rank send into was is = (ending : Ending) × (status ≡ ending_status ending) × ExchangesLeft ending (rank, 40) send into was is
