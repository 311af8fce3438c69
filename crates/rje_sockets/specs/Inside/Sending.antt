-- What is sent of a job file, and why it isn't; no promise rests on it.
use Rattle.std.specs.Prelude.{◌≡◌, ◌⊎◌, ℕ, List, Option}
use Rattle.rje_jobs.specs.declared.job.Job.{Job}
use Rattle.rje_files.specs.Marks.{AreMarks}
use Rattle.rje_files.specs.Unsent.{IsLeft}
use Rattle.rje_commands.specs.declared.command_fault.CommandFault.{CommandFault}
use Rattle.rje_commands.specs.CommandFault.{IsFailing, status_of}
use Rattle.rje_commands.specs.Commands.{OfFile}
use Rattle.rje_sockets.specs.declared.sent_marker.SentMarker.{SentMarker}
use Rattle.rje_sockets.specs.Ending.{IsUnsentFault}
use Rattle.rje_requests.specs.declared.order.Destination.{Destination}
use Rattle.rje_sockets.specs.InFront.{HasStandingFault, LooksInto}
use Rattle.rje_sockets.specs.NamedFiles.{NamesOne}
use Rattle.rje_store.specs.Store.{FileMap}

-- these jobs are left to send of the file of this name, and the marker marks them in it; none is marked yet
pub record IsOutgoing (name : List ℕ) (files : Option FileMap) (jobs : List Job) (marker : SentMarker) : Type 0 where
  pub read : OfFile name files (λ file. marker.file.items ≡ file)
  pub left : IsLeft marker.file.items jobs
  pub marks : AreMarks marker.file.items marker.places.items
  pub named : marker.name.now ≡ name
  pub none : marker.marked ≡ 0

-- this is the fault of a line or an output, or of memory, or of the file of this name or one of those that are written; or it is why what is left
-- of the file of this name isn't sent
abbrev pub IsSendFault : (Written : List ℕ → Type 0) → (name : List ℕ) → Option FileMap → CommandFault → Type 0
IsSendFault Written name files fault =
    (IsFailing (status_of fault) × NamesOne (λ named. named ≡ name) Written fault) ⊎ ((file : List ℕ) × IsUnsentFault file fault × OfFile name files (λ read. file ≡ read))

-- this is the fault of a line or an output, or of memory, or of the file that is sent or the one that is received into; or it is why one of them
-- isn't exchanged
abbrev pub IsExchangeFault : (send : List ℕ) → (into : Destination) → Option FileMap → CommandFault → Type 0
IsExchangeFault send into files fault =
    (IsFailing (status_of fault) × NamesOne (λ name. (name ≡ send) ⊎ LooksInto into name) (λ name. (name ≡ send) ⊎ (name ≡ into.jobs.now)) fault)
    ⊎ (((file : List ℕ) × IsUnsentFault file fault × OfFile send files (λ read. file ≡ read)) ⊎ HasStandingFault into files fault)
