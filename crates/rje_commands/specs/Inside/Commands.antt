-- What the private functions of the commands cite; no promise rests on it.
use Rattle.std.specs.Prelude.{◌≡◌, ◌⊎◌, ℕ, List, [], ◌∷◌, ◌++◌, length, Option, None, Some, Bool, true, false, ⊤}
use Rattle.std.specs.Option.{IsSomeAnd}
use Rattle.rje_files.specs.FileFault.{IsFileFault}
use Rattle.rje_files.specs.declared.entry.Entry.{Entry}
use Rattle.rje_files.specs.declared.job_file.version.FileVersion.TheVariants.{Second}
use Rattle.rje_files.specs.JobFile.{HasEntries, HasJobs, IsEntryFile, IsEntryFileOf}
use Rattle.rje_files.specs.Entry.{entry_of_cards}
use Rattle.rje_jobs.specs.declared.job.Job.{Job}
use Rattle.rje_text.specs.declared.record.Record.{Record}
use Rattle.line_world.specs.declared.world_fault.WorldFault.TheVariants as world
use Rattle.rje_monitor.specs.Turns.{IsFirstBadLine as IsFirstBadTurn}
use Rattle.rje_print.specs.Script.{IsFirstBadLine}
use Rattle.rje_commands.specs.declared.command_fault.CommandFault.{CommandFault}
use Rattle.rje_requests.specs.declared.choice.Choice.{Choice}
use Rattle.rje_requests.specs.Device.{select_of, writing}
use Rattle.rje_requests.specs.declared.order.CardsOrder.{CardsOrder}
use Rattle.rje_requests.specs.declared.order.MarkOrder.{MarkOrder}
use Rattle.rje_requests.specs.declared.order.TakeOrder.{TakeOrder}
use Rattle.rje_requests.specs.JobNumbers.{AreWithin}
use Rattle.rje_jobs.specs.declared.file_fault.FileFault.TheVariants.{NotJobFile}
use Rattle.rje_commands.specs.Chosen.{cards_in, chosen, marked, state_given, taken}
use Rattle.rje_commands.specs.Commands.{AreEntriesOf, HasBadJob, HasCutJob, HasFewer, IsFaultOfRun, IsThere, LacksJob}
use Rattle.rje_commands.specs.NamedFile.{IsHoldFault, IsReadFault}
use Rattle.rje_store.specs.Store.{FileMap}

-- this is the job file to which the job is added, where there is one
abbrev pub IsHeld : CardsOrder → Option FileMap → Option (List ℕ) → Type 0
IsHeld order files held = (order.append ≡ true → IsThere order.jobs.now files held) × (order.append ≡ false → held ≡ None)

-- the job file to which the job is added can't be read
abbrev pub IsHeldFault : CardsOrder → CommandFault → Type 0
IsHeldFault order fault = (order.append ≡ true) × IsReadFault order.jobs.now fault

-- the entry of the job of these cards, which waits to be sent, as the order has its name and its device
abbrev pub cards_entry : CardsOrder → List Record → Entry
cards_entry order cards = entry_of_cards order.name (select_of order.device) (writing order.device) cards

-- these are the bytes of the version 2 file of what this file holds and, after it, of this entry
abbrev pub IsMade : (held : Option (List ℕ)) → Entry → (bytes : List ℕ) → Type 0
IsMade held entry bytes = (front : List Entry) × AreEntriesOf held front × IsEntryFileOf Second (front ++ entry ∷ []) bytes

-- there is no memory for the file of what this file holds and one more job, or this isn't a job file
abbrev pub IsMadeFault : (held : Option (List ℕ)) → CommandFault → Type 0
IsMadeFault held CommandFault.OutOfMemory = ⊤
IsMadeFault held (CommandFault.File fault) = IsSomeAnd held (λ file. IsFileFault IsEntryFile file fault)
IsMadeFault held _ = ⊥

-- there is no memory for the run of this file over this script, one of them isn't read, or the run has this fault
abbrev pub IsTryFault : (file script : List ℕ) → CommandFault → Type 0
IsTryFault file script CommandFault.OutOfMemory = ⊤
IsTryFault file script (CommandFault.File fault) = IsFileFault IsEntryFile file fault
IsTryFault file script (CommandFault.Script line) = IsEntryFile file × IsFirstBadLine script line
IsTryFault file script (CommandFault.BadJob number) = IsFaultOfRun (world.BadJob number) file script
IsTryFault file script (CommandFault.NotDamage turn) = (attempt : ℕ) × IsFaultOfRun (world.NotDamage attempt turn) file script
IsTryFault file script (CommandFault.BadCut turn) = (attempt : ℕ) × IsFaultOfRun (world.BadCut attempt turn) file script
IsTryFault file script _ = ⊥

-- the bytes are the file of some entries, of either version, and this is a text that is one of these entries
abbrev pub IsEntriesText : (List Entry → List ℕ → Type 0) → (file text : List ℕ) → Type 0
IsEntriesText IsText file text = (entries : List Entry) × HasEntries entries file × IsText entries text

-- the bytes are the file of some jobs, of either version, and this is a text that is one of these jobs
abbrev pub IsJobsText : (List Job → List ℕ → Type 0) → (file text : List ℕ) → Type 0
IsJobsText IsText file text = (jobs : List Job) × HasJobs jobs file × IsText jobs text

-- there is no memory for the text of these bytes, or they are no job file
abbrev pub IsTextFault : (file : List ℕ) → CommandFault → Type 0
IsTextFault file CommandFault.OutOfMemory = ⊤
IsTextFault file (CommandFault.File fault) = IsFileFault IsEntryFile file fault
IsTextFault file _ = ⊥

-- so it is, or there are fewer jobs than the number of the chosen one
abbrev pub IsChoiceFault : Choice → (file : List ℕ) → CommandFault → Type 0
IsChoiceFault choice file (CommandFault.NoJob number) = (choice.job ≡ Some number) × HasFewer number file
IsChoiceFault choice file fault = IsTextFault file fault

-- so it is, or the job of this number is the first that can't be sent
abbrev pub IsCheckFault : (file : List ℕ) → CommandFault → Type 0
IsCheckFault file (CommandFault.BadJob number) = HasBadJob number file
IsCheckFault file fault = IsTextFault file fault

-- there is no memory for the text of this capture, or its line of this number is the first that is no bytes in hexadecimal
abbrev pub IsCaptureFault : (hex : Bool) → (capture : List ℕ) → CommandFault → Type 0
IsCaptureFault hex capture CommandFault.OutOfMemory = ⊤
IsCaptureFault hex capture (CommandFault.NotHex line) = (hex ≡ true) × IsFirstBadTurn capture line
IsCaptureFault hex capture _ = ⊥

-- the job file to which jobs are added: with `--append` what the name has; else there is no such file
abbrev pub IsFound : TakeOrder → Option FileMap → Option (List ℕ) → Type 0
IsFound order files found = IsThere order.new.now files found × (order.append ≡ false → found ≡ None)

-- the job file to which jobs are added can't be had for the command alone, read or written
abbrev pub IsFoundFault : TakeOrder → CommandFault → Type 0
IsFoundFault order fault = IsHoldFault order.new.now fault

-- there is no memory for the entries of this file, which has this name, or it isn't a job file
abbrev pub IsNamedFault : (name file : List ℕ) → CommandFault → Type 0
IsNamedFault name file CommandFault.OutOfMemory = ⊤
IsNamedFault name file (CommandFault.File fault) = IsFileFault IsEntryFile file fault
IsNamedFault name file (CommandFault.NoJobFile named) = (named.now ≡ name) × IsFileFault IsEntryFile file NotJobFile
IsNamedFault name file _ = ⊥

-- so it is, or one of these numbers is that of no job
abbrev pub IsNumbersFault : (name numbers file : List ℕ) → CommandFault → Type 0
IsNumbersFault name numbers file (CommandFault.NoJob number) = LacksJob numbers number file
IsNumbersFault name numbers file fault = IsNamedFault name file fault

-- these are the bytes of the version 2 file of what this file holds and, after it, of these entries
abbrev pub IsMadeOf : (held : Option (List ℕ)) → List Entry → (bytes : List ℕ) → Type 0
IsMadeOf held entries bytes = (front : List Entry) × AreEntriesOf held front × IsEntryFileOf Second (front ++ entries) bytes

-- there is no memory for it, or the held file of this name isn't a job file
abbrev pub IsMadeOfFault : (name : List ℕ) → (held : Option (List ℕ)) → CommandFault → Type 0
IsMadeOfFault name held fault = (fault ≡ CommandFault.OutOfMemory) ⊎ IsSomeAnd held (λ file. IsNamedFault name file fault)

-- these are the bytes of the file of what was found and the chosen jobs of this file, and so many jobs and cards these are
pub record IsTakenOf (order : TakeOrder) (file : List ℕ) (found : Option (List ℕ)) (bytes : List ℕ) (jobs cards : ℕ) : Type 0 where
  pub entries : List Entry
  pub file_is : HasEntries entries file
  pub there : AreWithin order.numbers.text.now (length entries)
  pub made : IsMadeOf found (taken order.numbers.text.now entries) bytes
  pub jobs_are : jobs ≡ length (taken order.numbers.text.now entries)
  pub cards_are : cards ≡ cards_in (taken order.numbers.text.now entries)

-- why there is no such file
abbrev pub IsTakenFault : TakeOrder → (file : List ℕ) → (found : Option (List ℕ)) → CommandFault → Type 0
IsTakenFault order file found fault =
    IsNumbersFault order.jobs.now order.numbers.text.now file fault ⊎ IsMadeOfFault order.new.now found fault

-- these are the bytes of the version 2 file of what this file holds with the marks of the order, and so many jobs are marked
pub record IsMarkedOf (order : MarkOrder) (file bytes : List ℕ) (jobs : ℕ) : Type 0 where
  pub entries : List Entry
  pub file_is : HasEntries entries file
  pub there : AreWithin order.numbers.text.now (length entries)
  pub made : IsEntryFileOf Second (marked order.numbers.text.now (state_given order.mark) entries) bytes
  pub jobs_are : jobs ≡ length (chosen order.numbers.text.now entries)

-- why there is no such file
abbrev pub IsMarkedFault : MarkOrder → (file : List ℕ) → CommandFault → Type 0
IsMarkedFault order file (CommandFault.BadJob number) = HasCutJob order number file
IsMarkedFault order file fault = IsNumbersFault order.jobs.now order.numbers.text.now file fault
