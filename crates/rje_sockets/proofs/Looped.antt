-- What both ends did with some jobs holds of the file that has them.
use Rattle.std.proofs.Common.{◌≡◌, ℕ, List, length, Option, Result, Ok, Err, OnOk, IfOk}
use Rattle.std.specs.Io.KnownBytes.{Appends}
use Rattle.rje_jobs.specs.declared.job.Job.{Job}
use Rattle.rje_files.specs.JobFile.{HasJobs}
use Rattle.rje_station.specs.Receiving.{Receiving, first_receiving}
use Rattle.rje_station.specs.Sending.{Sending, first_sending, outcome_of}
use Rattle.rje_sockets.specs.OverLine.{BothTookOut}
use Rattle.rje_sockets.specs.Watching.{SawBoth, SawEnd}
use Rattle.rje_sockets.proofs.Watched.{took_both_out}
use Rattle.rje_commands.specs.declared.command_fault.CommandFault.{CommandFault}
use Rattle.rje_commands.specs.Commands.{OfFile}
use Rattle.rje_commands.proofs.Inputs.{of_file_more}
use Rattle.rje_store.specs.Store.{FileMap}
use Rattle.rje_sockets.specs.declared.socket_commands.ending.Ending.{Ending}
use Rattle.rje_sockets.specs.Ending.{ending_of, loop_text}
use Rattle.rje_sockets.specs.Looping.{Loops}

pub looped : {W : Type 0} (Saw : SawBoth W) (End : SawEnd W) (result : Result Ending CommandFault) (name : List ℕ) (files : Option FileMap) (jobs : List Job) (before after : Option (List ℕ))
    (sender : Sending) (receiver : Receiving) (w w' : W)
    → OfFile name files (HasJobs jobs) → OnOk result (BothTookOut Saw End (first_sending jobs, first_receiving, w) (sender, receiver, w')) → IfOk result (λ ending. ending ≡ ending_of (outcome_of sender))
    → OnOk result (Appends before after (loop_text sender.counted (length jobs) receiver.jobs (outcome_of sender)))
    → IfOk result (λ ending. OfFile name files (λ file. Loops ending file before after))
looped Saw End (Err fault) name files jobs before after sender receiver w w' has carries is text = tt
looped Saw End (Ok ending) name files jobs before after sender receiver w w' has carries is text =
    of_file_more (HasJobs jobs) (λ file. Loops ending file before after)
    (λ file h. record { jobs = jobs; sender = sender; receiver = receiver; file_is = h; carries = took_both_out Saw End (first_sending jobs) sender first_receiving receiver w w' carries; ending_is = is; text_is = text }) name files has
