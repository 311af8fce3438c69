-- What `loop` does with the jobs of a file, and why it doesn't (own profile).
use Rattle.std.specs.Prelude.{◌≡◌, ℕ, List, length, Option}
use Rattle.std.specs.Io.KnownBytes.{Appends}
use Rattle.rje_jobs.specs.declared.job.Job.{Job}
use Rattle.rje_files.specs.FileFault.{IsFileFault}
use Rattle.rje_files.specs.JobFile.{HasJobs, IsEntryFile}
use Rattle.rje_station.specs.Receiving.{Receiving, first_receiving}
use Rattle.rje_station.specs.Sending.{Sending, first_sending, outcome_of}
use Rattle.line_world.specs.AnyLines.{BothToEnd}
use Rattle.rje_commands.specs.declared.command_fault.CommandFault.{CommandFault}
use Rattle.rje_commands.specs.Commands.{HasBadJob}
use Rattle.rje_sockets.specs.declared.socket_commands.ending.Ending.{Ending}
use Rattle.rje_sockets.specs.Ending.{ending_of, loop_text}

-- the jobs of this file were sent from one end to the other: new stations took the same turns to the end of the transmission, it ended so,
-- and just the lines of it were printed
pub record Loops (ending : Ending) (file : List ℕ) (before after : Option (List ℕ)) : Type 0 where
  pub jobs : List Job
  pub sender : Sending
  pub receiver : Receiving
  pub file_is : HasJobs jobs file
  pub carries : BothToEnd (first_sending jobs) sender first_receiving receiver
  pub ending_is : ending ≡ ending_of (outcome_of sender)
  pub text_is : Appends before after (loop_text sender.counted (length jobs) receiver.jobs (outcome_of sender))

-- why the jobs of this file aren't sent: it is no job file, or the job of this number is the first that can't be
abbrev pub IsUnloopedFault : (file : List ℕ) → CommandFault → Type 0
IsUnloopedFault file (CommandFault.File fault) = IsFileFault IsEntryFile file fault
IsUnloopedFault file (CommandFault.BadJob number) = HasBadJob number file
IsUnloopedFault file _ = ⊥
