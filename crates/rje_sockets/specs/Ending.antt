-- How a transmission ends that no fault ended, and what is printed of it (own profile).
use Rattle.std.specs.Prelude.{◌≡◌, ◌≤◌, ◌++◌, ℕ, List, length, map, Option, Some}
use Rattle.std.specs.Io.KnownBytes.{Appends}
use Rattle.bsc_link.specs.declared.outcome.Outcome.{Outcome}
use Rattle.rje_jobs.specs.declared.job.Job.{Job}
use Rattle.rje_files.specs.declared.entry.Entry.{Entry}
use Rattle.rje_files.specs.declared.job_file.version.FileVersion.TheVariants.{Second}
use Rattle.rje_files.specs.Entry.{entry_of, jobs_in}
use Rattle.rje_files.specs.FileFault.{IsFileFault}
use Rattle.rje_files.specs.JobFile.{HasEntries, IsEntryFile, IsEntryFileOf}
use Rattle.rje_files.specs.Unsent.{IsFirstUnsendable, IsSentFile, unsent}
use Rattle.rje_station.specs.Receiving.{Receiving, first_receiving}
use Rattle.rje_station.specs.Sending.{Sending, first_sending, outcome_of}
use Rattle.rje_print.specs.ReportTexts.{counted_line, handed_line, outcome_line, whole_jobs}
use Rattle.rje_sockets.specs.declared.socket_commands.ending.Ending.{Ending}
use Rattle.rje_sockets.specs.declared.receive_end.ReceiveEnd.{ReceiveEnd}
use Rattle.rje_commands.specs.declared.command_fault.CommandFault.{CommandFault}
use Rattle.rje_commands.specs.CommandFault.{status_of}
use Rattle.rje_commands.specs.Commands.{OfFile}
use Rattle.rje_requests.specs.declared.order.Destination.{Destination}
use Rattle.rje_sockets.specs.InFront.{StandInFront}
use Rattle.rje_sockets.specs.OverLine.{Outside, SendsOver}
use Rattle.rje_sockets.specs.Patience.{LeavesSo}
use Rattle.rje_store.specs.Store.{FileMap, Discloses, Sets}

-- the exit status
abbrev pub ending_status : Ending → ℕ
ending_status Ending.Done = 0
ending_status Ending.Other = 4

-- only an outcome of `done` says that all was sent
abbrev pub ending_of : Option Outcome → Ending
ending_of (Some Outcome.Done) = Ending.Done
ending_of _ = Ending.Other

-- the lines of a transmission that was sent: how many of so many jobs were counted, and how it ended
abbrev pub sent_text : (counted given : ℕ) → Option Outcome → List ℕ
sent_text counted given outcome = counted_line counted given ++ outcome_line outcome

-- the line of a transmission that was received: how many jobs were handed out, and how many of them whole
abbrev pub received_text : List Job → List ℕ
received_text jobs = handed_line (length jobs) (whole_jobs jobs)

-- the lines of a transmission of which both ends are here
abbrev pub loop_text : (counted given : ℕ) → List Job → Option Outcome → List ℕ
loop_text counted given jobs outcome = counted_line counted given ++ received_text jobs ++ outcome_line outcome

-- the file of a destination became the version 2 file of the entries in front and of these jobs, without names and Whole or Cut, and no other
-- file changed
abbrev pub MakesJobFile : List Job → (into : Destination) → (files made : Option FileMap) → Type 0
MakesJobFile jobs into files made =
    (front : List Entry) × (bytes : List ℕ) × StandInFront into.existing into.jobs.now files front
    × IsEntryFileOf Second (front ++ map entry_of jobs) bytes × (length bytes ≤ 16777216) × Discloses files made (Sets into.jobs.now bytes)

-- only where the sender ended the transmission all was received
abbrev pub ending_of_left : ReceiveEnd → Ending
ending_of_left ReceiveEnd.Ended = Ending.Done
ending_of_left ReceiveEnd.Abandoned = Ending.Other

-- one transmission was received over a line: a new station, which left after so many quiet hearings in a row at most, took some turns there and
-- left so, the file of the destination became that of the
-- entries in front and its jobs, and just their line was printed
pub record Receives (most : ℕ) (ending : Ending) (into : Destination) (was is : Outside) : Type 0 where
  pub left : ReceiveEnd
  pub station : Receiving
  pub leaves : LeavesSo most left first_receiving was.0 station is.0
  pub makes : MakesJobFile station.jobs into was.1 is.1
  pub ending_is : ending ≡ ending_of_left left
  pub text_is : Appends was.2 is.2 (received_text station.jobs)

-- a command over a line ended with this status, and one transmission was received, with the usual patience of forty quiet hearings
abbrev pub EndsReceiving : (status : ℕ) → (into : Destination) → (was is : Outside) → Type 0
EndsReceiving status into was is = (ending : Ending) × (status ≡ ending_status ending) × Receives 40 ending into was is

-- the file of this name became that of the same entries as this file's, in which just the first counted of those that were not Sent are Sent,
-- and no other file changed
abbrev pub MarksSent : (file : List ℕ) → (counted : ℕ) → (name : List ℕ) → (files made : Option FileMap) → Type 0
MarksSent file counted name files made =
    (bytes : List ℕ) × IsSentFile file counted bytes × (length bytes ≤ 16777216) × Discloses files made (Sets name bytes)

-- Why what is left of this file isn't sent: it is no job file, or the job of this number is the first of those that were not sent that
-- can't be.
abbrev pub IsUnsentFault : (file : List ℕ) → CommandFault → Type 0
IsUnsentFault file (CommandFault.File fault) = IsFileFault IsEntryFile file fault
IsUnsentFault file (CommandFault.BadJob number) = (entries : List Entry) × HasEntries entries file × IsFirstUnsendable entries number
IsUnsentFault file _ = ⊥

-- what is left of this file isn't sent, and it isn't for want of memory
abbrev pub IsRefusedFile : (file : List ℕ) → Type 0
IsRefusedFile file = (fault : CommandFault) × IsUnsentFault file fault × (status_of fault ≡ 1)

-- what was left of the job file of this name was sent over a line: a new station for these jobs took some turns there to the end of its
-- transmission; the jobs that it counted are Sent in the file now, it ended so, and just the lines of it were printed
pub record SendsLeft (ending : Ending) (name : List ℕ) (was is : Outside) : Type 0 where
  pub file : List ℕ
  pub entries : List Entry
  pub station : Sending
  pub read : OfFile name was.1 (λ read. file ≡ read)
  pub file_is : HasEntries entries file
  pub sends : SendsOver (first_sending (jobs_in (unsent entries))) was.0 station is.0
  pub marks : MarksSent file station.counted name was.1 is.1
  pub ending_is : ending ≡ ending_of (outcome_of station)
  pub text_is : Appends was.2 is.2 (sent_text station.counted (length (unsent entries)) (outcome_of station))

-- a command over a line ended with this status, and what was left of the job file of this name was sent
abbrev pub EndsSending : (status : ℕ) → (name : List ℕ) → (was is : Outside) → Type 0
EndsSending status name was is = (ending : Ending) × (status ≡ ending_status ending) × SendsLeft ending name was is
