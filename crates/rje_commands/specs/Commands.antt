-- What the commands over files do, and why they do nothing, by what files, input and output disclose (own profile).
use Rattle.std.specs.Prelude.{◌≡◌, ◌≢◌, ◌<◌, ◌≤◌, ◌⊎◌, ℕ, List, [], ◌∷◌, ◌++◌, codes, length, Option, None, Some, IfSome, Bool, true, false, ⊤}
use Rattle.std.specs.Io.KnownBytes.{Appends}
use Rattle.std.specs.Option.{IsSomeAnd}
use Rattle.bsc_link.specs.declared.outcome.Outcome.{Outcome}
use Rattle.rje_jobs.specs.declared.job.Job.{Job}
use Rattle.rje_jobs.specs.Deck.{deck_fault, job_of, IsDeckFault}
use Rattle.rje_jobs.specs.declared.file_fault.FileFault.TheVariants.{NotJobFile}
use Rattle.rje_files.specs.declared.entry.Entry.{Entry}
use Rattle.rje_files.specs.declared.entry.State.TheVariants.{Waiting}
use Rattle.rje_files.specs.declared.job_file.version.FileVersion.TheVariants.{Second}
use Rattle.rje_files.specs.Entry.{bad_entry}
use Rattle.rje_files.specs.FileFault.{IsFileFault}
use Rattle.rje_files.specs.JobFile.{HasEntries, HasJobs, IsEntryFile, IsEntryFileOf}
use Rattle.rje_station.specs.StationFault.{IsFirstUnfit}
use Rattle.line_world.specs.declared.spoken.Spoken.{Spoken}
use Rattle.line_world.specs.declared.turn.Turn.{Turn}
use Rattle.line_world.specs.declared.world_fault.WorldFault.TheVariants as world
use Rattle.line_world.specs.declared.world_fault.WorldFault.{WorldFault}
use Rattle.line_world.specs.Run.{IsRun, IsRunFault}
use Rattle.rje_requests.specs.declared.device.Device.{Device}
use Rattle.rje_requests.specs.Device.{select_of, writing}
use Rattle.rje_requests.specs.declared.order.CardsOrder.{CardsOrder}
use Rattle.rje_requests.specs.declared.order.FileOrder.{FileOrder}
use Rattle.rje_requests.specs.declared.order.MarkOrder.{MarkOrder}
use Rattle.rje_requests.specs.declared.order.TakeOrder.{TakeOrder}
use Rattle.rje_requests.specs.JobNumbers.{AreWithin, HasAbove}
use Rattle.rje_monitor.specs.Stream.{IsStreamText}
use Rattle.rje_monitor.specs.Turns.{IsTurnsText}
use Rattle.rje_monitor.specs.Turns.{IsFirstBadLine as IsFirstBadTurn}
use Rattle.rje_print.specs.BlockListing.{IsBlockListing}
use Rattle.rje_print.specs.JobTexts.{cards_line, marked_line, taken_line, IsShown, IsChecked, IsPaper}
use Rattle.rje_print.specs.ReportTexts.{run_text}
use Rattle.rje_print.specs.Script.{IsScript, IsFirstBadLine}
use Rattle.rje_commands.specs.declared.command_fault.CommandFault.{CommandFault}
use Rattle.rje_commands.specs.Chosen.{cards_in, chosen, marked, state_given, taken}
use Rattle.rje_store.specs.Store.{FileMap, Discloses, IsSame, Sets}

-- WHAT A COMMAND READS

-- this holds of the file of this name: where the store discloses its files, there is such a file
abbrev pub OfFile : List ℕ → Option FileMap → (List ℕ → Type 0) → Type 0
OfFile name files P = IfSome files (λ known. IsSomeAnd (known name) P)

-- where the store discloses its files, this is what this name has
abbrev pub IsThere : List ℕ → Option FileMap → Option (List ℕ) → Type 0
IsThere name files found = IfSome files (λ known. known name ≡ found)

-- this holds of the files of these two names
abbrev pub OfFiles : (first second : List ℕ) → Option FileMap → (List ℕ → List ℕ → Type 0) → Type 0
OfFiles first second files P = IfSome files (λ known. IsSomeAnd (known first) (λ a. IsSomeAnd (known second) (λ b. P a b)))

-- this holds of the deck of this name: of standard input where the name is `-`, else of the file
abbrev pub OfDeck : List ℕ → Option FileMap → Option (List ℕ) → (List ℕ → Type 0) → Type 0
OfDeck name files input P = (name ≡ codes "-" → IfSome input P) × (name ≢ codes "-" → OfFile name files P)

-- WHAT A COMMAND DOES

-- just the block listing of this deck was printed
abbrev pub PrintsBlocks : List ℕ → Option (List ℕ) → Option (List ℕ) → Type 0
PrintsBlocks deck before after = (text : List ℕ) × IsBlockListing deck text × Appends before after text

-- the bytes are the file of some entries, of either version, and just a text that is one of these entries was printed
abbrev pub PrintsEntries : (List Entry → List ℕ → Type 0) → List ℕ → Option (List ℕ) → Option (List ℕ) → Type 0
PrintsEntries IsText file before after = (entries : List Entry) × (text : List ℕ) × HasEntries entries file × IsText entries text × Appends before after text

-- the bytes are the file of some jobs, of either version, and just a text that is one of these jobs was printed
abbrev pub PrintsJobs : (List Job → List ℕ → Type 0) → List ℕ → Option (List ℕ) → Option (List ℕ) → Type 0
PrintsJobs IsText file before after = (jobs : List Job) × (text : List ℕ) × HasJobs jobs file × IsText jobs text × Appends before after text

-- the job of this deck for this device
abbrev pub deck_job : Device → List ℕ → Job
deck_job device deck = job_of (select_of device) (writing device) deck

-- the entry of that job, of this name, which waits to be sent
abbrev pub deck_entry : Device → (name deck : List ℕ) → Entry
deck_entry device name deck = record { name = name; state = Waiting; job = deck_job device deck }

-- the entries of a file, and none where there is no file
abbrev pub AreEntriesOf : Option (List ℕ) → List Entry → Type 0
AreEntriesOf None entries = entries ≡ []
AreEntriesOf (Some file) entries = HasEntries entries file

-- the entries in front of the deck's: with `--append` those of the file that the order names, where there is one, and else none
abbrev pub AreInFront : CardsOrder → Option FileMap → List Entry → Type 0
AreInFront order files entries =
    (order.append ≡ true → IfSome files (λ known. AreEntriesOf (known order.jobs.now) entries)) × (order.append ≡ false → entries ≡ [])

-- the deck has no fault, and these are the bytes of the version 2 file of these entries and, after them, its job, which are no more than are
-- read of a file
pub record IsCardFile (device : Device) (name deck : List ℕ) (front : List Entry) (bytes : List ℕ) : Type 0 where
  pub good : deck_fault deck ≡ None
  pub file : IsEntryFileOf Second (front ++ deck_entry device name deck ∷ []) bytes
  pub few : length bytes ≤ 16777216

-- the file that the order names became that of the deck's job, after the entries in front of it, and no other file changed
abbrev pub MakesFile : CardsOrder → (deck : List ℕ) → (files made : Option FileMap) → Type 0
MakesFile order deck files made =
    (front : List Entry) × (bytes : List ℕ) × AreInFront order files front × IsCardFile order.device order.name deck front bytes
    × Discloses files made (Sets order.jobs.now bytes)

-- so it did, and just the line of how many cards there are was printed
abbrev pub MakesCards : CardsOrder → (deck : List ℕ) → (files made : Option FileMap) → (before after : Option (List ℕ)) → Type 0
MakesCards order deck files made before after =
    MakesFile order deck files made × Appends before after (cards_line (length (deck_job order.device deck).records))

-- these are the file of some jobs and a script of some turns, and this is the text of the report of a run of these jobs over these turns
pub record IsRunText (file script text : List ℕ) : Type 0 where
  pub jobs : List Job
  pub turns : List Turn
  pub spoken : List Spoken
  pub handed : List Job
  pub counted : ℕ
  pub ending : Option Outcome
  pub file_is : HasJobs jobs file
  pub script_is : IsScript turns script
  pub run : IsRun jobs turns spoken handed counted ending
  pub text_is : text ≡ run_text (length jobs) spoken handed counted ending

-- just the text of a run of these files was printed
abbrev pub PrintsRun : List ℕ → List ℕ → Option (List ℕ) → Option (List ℕ) → Type 0
PrintsRun file script before after = (text : List ℕ) × IsRunText file script text × Appends before after text

-- this is the text of what is heard of a capture: of a stream, or of turns in hexadecimal
abbrev pub IsCaptureText : (hex : Bool) → (capture text : List ℕ) → Type 0
IsCaptureText false capture text = IsStreamText capture text
IsCaptureText true capture text = IsTurnsText capture text

-- just that text was printed
abbrev pub PrintsCapture : (hex : Bool) → List ℕ → Option (List ℕ) → Option (List ℕ) → Type 0
PrintsCapture hex capture before after = (text : List ℕ) × IsCaptureText hex capture text × Appends before after text

-- what the file holds that `take` writes: with `--append` these entries, where there is such a file; else there is none
abbrev pub AreKept : TakeOrder → Option FileMap → List Entry → Type 0
AreKept order files front =
    (order.append ≡ true → IfSome files (λ known. AreEntriesOf (known order.new.now) front))
    × (order.append ≡ false → IfSome files (λ known. known order.new.now ≡ None) × (front ≡ []))

-- These bytes are the version 2 file of the entries in front and, after them, of the chosen ones of these entries as they are taken. Each number
-- is that of an entry, and the bytes are no more than are read of a file.
pub record IsTakenFile (numbers : List ℕ) (front entries : List Entry) (bytes : List ℕ) : Type 0 where
  pub there : AreWithin numbers (length entries)
  pub file : IsEntryFileOf Second (front ++ taken numbers entries) bytes
  pub few : length bytes ≤ 16777216

-- the file that the order names became that of the chosen ones of these entries, and no other file changed: not the one that they are in
pub record TakesEntries (order : TakeOrder) (entries : List Entry) (files made : Option FileMap) : Type 0 where
  pub front : List Entry
  pub bytes : List ℕ
  pub kept : AreKept order files front
  pub taken_file : IsTakenFile order.numbers.text.now front entries bytes
  pub two : order.jobs.now ≢ order.new.now
  pub sets : Discloses files made (Sets order.new.now bytes)

-- so it did, of the entries of this file
abbrev pub TakesFile : TakeOrder → (file : List ℕ) → (files made : Option FileMap) → Type 0
TakesFile order file files made = (entries : List Entry) × HasEntries entries file × TakesEntries order entries files made

-- so it did, and just the line was printed of how many jobs and cards were taken
abbrev pub TakesJobs : TakeOrder → (file : List ℕ) → (files made : Option FileMap) → (before after : Option (List ℕ)) → Type 0
TakesJobs order file files made before after =
    (entries : List Entry) × HasEntries entries file × TakesEntries order entries files made
    × Appends before after (taken_line (length (taken order.numbers.text.now entries)) (cards_in (taken order.numbers.text.now entries)))

-- the file that the order names became one of version 2 of these entries, of which just the chosen ones have the state of the mark, and no other
-- file changed. Each number is that of an entry, and the bytes are no more than are read of a file.
pub record MarksEntries (order : MarkOrder) (entries : List Entry) (files made : Option FileMap) : Type 0 where
  pub bytes : List ℕ
  pub there : AreWithin order.numbers.text.now (length entries)
  pub file : IsEntryFileOf Second (marked order.numbers.text.now (state_given order.mark) entries) bytes
  pub few : length bytes ≤ 16777216
  pub sets : Discloses files made (Sets order.jobs.now bytes)

-- so it did, of the entries of this file
abbrev pub MarksFile : MarkOrder → (file : List ℕ) → (files made : Option FileMap) → Type 0
MarksFile order file files made = (entries : List Entry) × HasEntries entries file × MarksEntries order entries files made

-- so it did, and just the line was printed of how many jobs were marked
abbrev pub MarksJobs : MarkOrder → (file : List ℕ) → (files made : Option FileMap) → (before after : Option (List ℕ)) → Type 0
MarksJobs order file files made before after =
    (entries : List Entry) × HasEntries entries file × MarksEntries order entries files made
    × Appends before after (marked_line (length (chosen order.numbers.text.now entries)))

-- what is done where an order is carried out: what files and input were and held, what the files are then, and what was printed before and after
abbrev pub Does : FileOrder → (files made : Option FileMap) (input before after : Option (List ℕ)) → Type 0
Does (FileOrder.Blocks deck) files made input before after = OfDeck deck.now files input (λ bytes. PrintsBlocks bytes before after)
Does (FileOrder.Cards order) files made input before after =
    OfDeck order.deck.now files input (λ bytes. MakesCards order bytes files made before after)
Does (FileOrder.Show order) files made input before after =
    OfFile order.jobs.now files (λ bytes. PrintsEntries (IsShown order.choice order.records) bytes before after)
Does (FileOrder.Check jobs) files made input before after = OfFile jobs.now files (λ bytes. PrintsJobs IsChecked bytes before after)
Does (FileOrder.Print order) files made input before after =
    OfFile order.jobs.now files (λ bytes. PrintsEntries (IsPaper order.choice order.form) bytes before after)
Does (FileOrder.Try order) files made input before after =
    OfFiles order.jobs.now order.script.now files (λ file script. PrintsRun file script before after)
Does (FileOrder.Monitor order) files made input before after =
    OfDeck order.capture.now files input (λ bytes. PrintsCapture order.hex bytes before after)
Does (FileOrder.Take order) files made input before after = OfFile order.jobs.now files (λ bytes. TakesJobs order bytes files made before after)
Does (FileOrder.Mark order) files made input before after = OfFile order.jobs.now files (λ bytes. MarksJobs order bytes files made before after)

-- WHAT BECOMES OF THE FILES

-- all files are as they were; those of `cards`, `take` and `mark` as they were, or with just the file that it makes
abbrev pub Leaves : FileOrder → (files made : Option FileMap) (input : Option (List ℕ)) → Type 0
Leaves (FileOrder.Cards order) files made input =
    Discloses files made IsSame ⊎ OfDeck order.deck.now files input (λ bytes. MakesFile order bytes files made)
Leaves (FileOrder.Take order) files made input =
    Discloses files made IsSame ⊎ OfFile order.jobs.now files (λ bytes. TakesFile order bytes files made)
Leaves (FileOrder.Mark order) files made input =
    Discloses files made IsSame ⊎ OfFile order.jobs.now files (λ bytes. MarksFile order bytes files made)
Leaves _ files made input = Discloses files made IsSame

-- WHY A COMMAND ISN'T CARRIED OUT

-- this holds of the deck of the order
abbrev pub OfItsDeck : FileOrder → Option FileMap → (input : Option (List ℕ)) → (List ℕ → Type 0) → Type 0
OfItsDeck (FileOrder.Blocks deck) files input P = OfDeck deck.now files input P
OfItsDeck (FileOrder.Cards order) files input P = OfDeck order.deck.now files input P
OfItsDeck _ files input P = ⊥

-- this holds of the job file that the order reads
abbrev pub OfItsFile : FileOrder → Option FileMap → (List ℕ → Type 0) → Type 0
OfItsFile (FileOrder.Show order) files P = OfFile order.jobs.now files P
OfItsFile (FileOrder.Check jobs) files P = OfFile jobs.now files P
OfItsFile (FileOrder.Print order) files P = OfFile order.jobs.now files P
OfItsFile (FileOrder.Try order) files P = OfFile order.jobs.now files P
OfItsFile (FileOrder.Cards order) files P = (order.append ≡ true) × OfFile order.jobs.now files P
OfItsFile (FileOrder.Take order) files P = OfFile order.jobs.now files P ⊎ ((order.append ≡ true) × OfFile order.new.now files P)
OfItsFile (FileOrder.Mark order) files P = OfFile order.jobs.now files P
OfItsFile _ files P = ⊥

-- the order names the job file that is none, if one is: it has this name
abbrev pub NamesFile : FileOrder → (name : List ℕ) → Type 0
NamesFile (FileOrder.Take order) name = (name ≡ order.jobs.now) ⊎ ((order.append ≡ true) × (name ≡ order.new.now))
NamesFile (FileOrder.Mark order) name = name ≡ order.jobs.now
NamesFile _ name = ⊥

-- this holds of the job file and the script of `try`
abbrev pub OfItsScript : FileOrder → Option FileMap → (List ℕ → List ℕ → Type 0) → Type 0
OfItsScript (FileOrder.Try order) files P = OfFiles order.jobs.now order.script.now files P
OfItsScript _ files P = ⊥

-- this is the fault of a run of the jobs of this file over the turns of this script
abbrev pub IsFaultOfRun : WorldFault → (file script : List ℕ) → Type 0
IsFaultOfRun fault file script = (jobs : List Job) × (turns : List Turn) × HasJobs jobs file × IsScript turns script × IsRunFault jobs turns fault

-- it is a job file, and the job of this number is the first in it that can't be sent
abbrev pub HasBadJob : ℕ → List ℕ → Type 0
HasBadJob number file = (jobs : List Job) × HasJobs jobs file × IsFirstUnfit jobs number

-- it is a job file, and the chosen job of this number is the first that can't have the state of the mark, since it was cut
abbrev pub HasCutJob : MarkOrder → ℕ → List ℕ → Type 0
HasCutJob order number file =
    (entries : List Entry) × HasEntries entries file
    × (bad_entry (marked order.numbers.text.now (state_given order.mark) entries) ≡ Some number)

-- the job of this number is the first that can't be sent: of the jobs to check, of those to mark, or of those to try
abbrev pub IsBadJob : FileOrder → Option FileMap → ℕ → Type 0
IsBadJob (FileOrder.Check jobs) files number = OfFile jobs.now files (HasBadJob number)
IsBadJob (FileOrder.Mark order) files number = OfFile order.jobs.now files (HasCutJob order number)
IsBadJob order files number = OfItsScript order files (IsFaultOfRun (world.BadJob number))

-- it is a job file of fewer jobs than this
abbrev pub HasFewer : ℕ → List ℕ → Type 0
HasFewer number file = (entries : List Entry) × HasEntries entries file × (length entries < number)

-- it is a job file, and this is one of the numbers of a text and above how many jobs there are
abbrev pub LacksJob : (numbers : List ℕ) → ℕ → List ℕ → Type 0
LacksJob numbers number file = (entries : List Entry) × HasEntries entries file × HasAbove numbers (length entries) number

-- the one job that the order is for, or one of those that it is for, has this number, and its file has fewer
abbrev pub IsNoJob : FileOrder → Option FileMap → ℕ → Type 0
IsNoJob (FileOrder.Show order) files number = (order.choice.job ≡ Some number) × OfFile order.jobs.now files (HasFewer number)
IsNoJob (FileOrder.Print order) files number = (order.choice.job ≡ Some number) × OfFile order.jobs.now files (HasFewer number)
IsNoJob (FileOrder.Take order) files number = OfFile order.jobs.now files (LacksJob order.numbers.text.now number)
IsNoJob (FileOrder.Mark order) files number = OfFile order.jobs.now files (LacksJob order.numbers.text.now number)
IsNoJob order files number = ⊥

-- the order is for a capture in hexadecimal, of which the line of this number is the first that is none
abbrev pub IsNotHex : FileOrder → Option FileMap → (input : Option (List ℕ)) → ℕ → Type 0
IsNotHex (FileOrder.Monitor order) files input line =
    (order.hex ≡ true) × OfDeck order.capture.now files input (λ bytes. IsFirstBadTurn bytes line)
IsNotHex order files input line = ⊥

-- the order reads what has this name
abbrev pub Reads : FileOrder → List ℕ → Type 0
Reads (FileOrder.Blocks deck) name = name ≡ deck.now
Reads (FileOrder.Cards order) name = (name ≡ order.deck.now) ⊎ ((order.append ≡ true) × (name ≡ order.jobs.now))
Reads (FileOrder.Show order) name = name ≡ order.jobs.now
Reads (FileOrder.Check jobs) name = name ≡ jobs.now
Reads (FileOrder.Print order) name = name ≡ order.jobs.now
Reads (FileOrder.Try order) name = (name ≡ order.jobs.now) ⊎ (name ≡ order.script.now)
Reads (FileOrder.Monitor order) name = name ≡ order.capture.now
Reads (FileOrder.Take order) name = (name ≡ order.jobs.now) ⊎ (name ≡ order.new.now)
Reads (FileOrder.Mark order) name = name ≡ order.jobs.now

-- the order writes the file of this name, or has it for itself
abbrev pub Writes : FileOrder → List ℕ → Type 0
Writes (FileOrder.Cards order) name = name ≡ order.jobs.now
Writes (FileOrder.Take order) name = (name ≡ order.jobs.now) ⊎ (name ≡ order.new.now)
Writes (FileOrder.Mark order) name = name ≡ order.jobs.now
Writes _ name = ⊥

-- why the order isn't carried out: there is no memory, the store, the reader or the output fails, or what it reads is refused
abbrev pub IsFault : FileOrder → Option FileMap → (input : Option (List ℕ)) → CommandFault → Type 0
IsFault order files input CommandFault.OutOfMemory = ⊤
IsFault order files input (CommandFault.Output kind) = ⊤
IsFault order files input CommandFault.Closed = ⊤
IsFault order files input (CommandFault.CannotRead name fault) = Reads order name.now
IsFault order files input (CommandFault.CannotWrite name cause) = Writes order name.now
IsFault order files input (CommandFault.InUse name) = Writes order name.now
IsFault order files input (CommandFault.Unsynced name) = Writes order name.now
IsFault order files input (CommandFault.Deck fault) = OfItsDeck order files input (λ deck. IsDeckFault deck fault)
IsFault order files input (CommandFault.File fault) = OfItsFile order files (λ file. IsFileFault IsEntryFile file fault)
IsFault order files input (CommandFault.NoJobFile name) =
    NamesFile order name.now × OfFile name.now files (λ file. IsFileFault IsEntryFile file NotJobFile)
IsFault order files input (CommandFault.BadJob number) = IsBadJob order files number
IsFault order files input (CommandFault.NoJob number) = IsNoJob order files number
IsFault order files input (CommandFault.NotHex line) = IsNotHex order files input line
IsFault order files input (CommandFault.Script line) =
    OfItsScript order files (λ file script. IsEntryFile file × IsFirstBadLine script line)
IsFault order files input (CommandFault.NotDamage turn) =
    OfItsScript order files (λ file script. (attempt : ℕ) × IsFaultOfRun (world.NotDamage attempt turn) file script)
IsFault order files input (CommandFault.BadCut turn) =
    OfItsScript order files (λ file script. (attempt : ℕ) × IsFaultOfRun (world.BadCut attempt turn) file script)
IsFault order files input _ = ⊥
