-- What stands in a file in front of the jobs that are received into it, and why it isn't received into (own profile).
use Rattle.std.specs.Prelude.{◌≡◌, ◌≢◌, ℕ, List, [], Option, IfSome}
use Rattle.rje_files.specs.declared.entry.Entry.{Entry}
use Rattle.rje_files.specs.FileFault.{IsFileFault}
use Rattle.rje_files.specs.JobFile.{HasEntries, IsEntryFile}
use Rattle.rje_requests.specs.declared.order.Destination.{Destination}
use Rattle.rje_requests.specs.declared.order.Existing.{Existing}
use Rattle.rje_requests.specs.declared.order.Existing.TheVariants.{Replace, Refuse, Append}
use Rattle.rje_commands.specs.declared.command_fault.CommandFault.{CommandFault}
use Rattle.rje_commands.specs.CommandFault.{status_of}
use Rattle.rje_commands.specs.Commands.{AreEntriesOf, OfFile}
use Rattle.rje_store.specs.Store.{FileMap}

-- the entries in front of the jobs that come into the file of this name: none where they replace what it holds; where a file that holds jobs is
-- refused, none too, and the file has none; else those of the file, where there is one
abbrev pub StandInFront : Existing → (name : List ℕ) → (files : Option FileMap) → List Entry → Type 0
StandInFront Replace name files front = front ≡ []
StandInFront Refuse name files front = (front ≡ []) × IfSome files (λ known. AreEntriesOf (known name) [])
StandInFront Append name files front = IfSome files (λ known. AreEntriesOf (known name) front)

-- why this file isn't received into: jobs that it holds are not to be replaced, and it is no job file; or it holds some, and such a file is
-- refused
abbrev pub IsStandingFault : Destination → (file : List ℕ) → CommandFault → Type 0
IsStandingFault into file (CommandFault.File fault) = (into.existing ≢ Replace) × IsFileFault IsEntryFile file fault
IsStandingFault into file (CommandFault.HoldsJobs name) =
    (into.existing ≡ Refuse) × (name.now ≡ into.jobs.now) × ((entries : List Entry) × HasEntries entries file × (entries ≢ []))
IsStandingFault into file _ = ⊥

-- so it is of the file of a destination: where the store discloses its files, that of its name
abbrev pub HasStandingFault : Destination → (files : Option FileMap) → CommandFault → Type 0
HasStandingFault into files fault = (file : List ℕ) × IsStandingFault into file fault × OfFile into.jobs.now files (λ read. file ≡ read)

-- the file that is received into is read where its jobs are not replaced
abbrev pub LooksInto : Destination → (name : List ℕ) → Type 0
LooksInto into name = (into.existing ≢ Replace) × (name ≡ into.jobs.now)

-- the file isn't received into, and it isn't for want of memory
abbrev pub IsRefusedDestination : Destination → (files : Option FileMap) → Type 0
IsRefusedDestination into files = (fault : CommandFault) × HasStandingFault into files fault × (status_of fault ≡ 1)
