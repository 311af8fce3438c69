-- A file that is received into, as it was opened, and why it isn't received into (own profile); no promise rests on it.
use Rattle.rje_files.specs.declared.entry.Entry.{Entry}
use Rattle.rje_sockets.specs.declared.existing_entries.ExistingEntries.{ExistingEntries}
use Rattle.rje_files.specs.JobFile.{IsEntryFileOf}
use Rattle.std.specs.Prelude.{List, length, IfSome, Option, ◌≡◌, ◌⊎◌, []}
use Rattle.rje_files.specs.declared.job_file.version.FileVersion.TheVariants.{Second}
use Rattle.rje_store.specs.Store.{FileMap}
use Rattle.rje_store.specs.declared.store.WriteMode.TheVariants.{Growing, Once}
use Rattle.rje_sockets.specs.declared.kept_file.KeptFile.{KeptFile}
use Rattle.rje_sockets.specs.InFront.{StandInFront, HasStandingFault, LooksInto}
use Rattle.rje_commands.specs.declared.command_fault.CommandFault.{CommandFault}
use Rattle.rje_requests.specs.declared.order.Destination.{Destination}
use Rattle.rje_commands.specs.CommandFault.{IsFailing, status_of}
use Rattle.rje_sockets.specs.NamedFiles.{NamesOne}

-- it is the version 2 file of these entries, and counts them
abbrev pub HasFront : List Entry → ExistingEntries → Type 0
HasFront entries front = IsEntryFileOf Second entries front.bytes.items × (front.jobs ≡ length entries)

-- the file of a destination with these entries in front of what comes, where the files are these: a device or a pipe has none, and where the
-- store discloses its files it is neither
pub record IsOpened (front : List Entry) (file : KeptFile) (files : Option FileMap) : Type 0 where
  pub stand : StandInFront file.into.existing file.into.jobs.now files front
  pub has : HasFront front file.front
  pub once : file.place ≡ Once → front ≡ []
  pub grows : IfSome files (λ _. file.place ≡ Growing)

-- a line, an output, memory or that file fails, or the file isn't received into
abbrev pub IsDestinationFault : Destination → (files : Option FileMap) → CommandFault → Type 0
IsDestinationFault into files fault =
    (IsFailing (status_of fault) × NamesOne (LooksInto into) (λ name. name ≡ into.jobs.now) fault) ⊎ HasStandingFault into files fault
