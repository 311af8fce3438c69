-- How a list of jobs, with their names and states, is written in a file: the two versions of the job file (own profile). Numbers are big-endian.
use Rattle.std.specs.Prelude.{◌≡◌, ℕ, ◌<◌, ◌≤◌, ◌^◌, Bool, true, false, List, [], ◌∷◌, ◌++◌, length, map, unwrap_or}
use Rattle.std.specs.List.{flat_map, AllByRecursion}
use Rattle.byteorder.specs.Endian.{big_bytes}
use Rattle.rje_text.specs.declared.mode.Mode.{Mode}
use Rattle.rje_text.specs.declared.mode.Mode.TheVariants.{Normal, Transparent}
use Rattle.rje_text.specs.declared.select.Select.{Select}
use Rattle.rje_text.specs.declared.select.Select.TheVariants.{Unset, Printer, Punch}
use Rattle.rje_text.specs.declared.action.Action.{Action}
use Rattle.rje_text.specs.declared.record.Record.{Record}
use Rattle.rje_text.specs.Action.{code_of}
use Rattle.rje_jobs.specs.declared.job.Job.{Job}
use Rattle.rje_files.specs.declared.entry.State.{State}
use Rattle.rje_files.specs.declared.entry.State.TheVariants.{Waiting, Sent, Whole, Cut}
use Rattle.rje_files.specs.declared.entry.Entry.{Entry}
use Rattle.rje_files.specs.declared.job_file.version.FileVersion.{FileVersion}
use Rattle.rje_files.specs.declared.job_file.version.FileVersion.TheVariants.{First, Second}
use Rattle.rje_files.specs.Entry.{IsEntry, entry_of, jobs_in}

-- an action's byte: its code, and 0 for Plain, which has none
abbrev pub action_byte : Action → ℕ
action_byte action = unwrap_or (code_of action) 0

-- a record: its action, the length of its data, its data
abbrev pub record_bytes : Record → List ℕ
record_bytes r = action_byte r.action ∷ length r.bytes.items ∷ r.bytes.items

-- a selection's byte
abbrev pub select_byte : Select → ℕ
select_byte Unset = 0
select_byte Printer = 1
select_byte Punch = 2

-- a mode's byte
abbrev pub mode_byte : Mode → ℕ
mode_byte Normal = 0
mode_byte Transparent = 1

-- the byte that says whether a job is whole
abbrev pub whole_byte : Bool → ℕ
whole_byte false = 0
whole_byte true = 1

-- a state's byte
abbrev pub state_byte : State → ℕ
state_byte Waiting = 0
state_byte Sent = 1
state_byte Whole = 2
state_byte Cut = 3

-- the number of records in 8 bytes, and the records
abbrev pub records_bytes : List Record → List ℕ
records_bytes rs = big_bytes 8 (length rs) ++ flat_map record_bytes rs

-- what stands before an entry's records. Version 1: its selection, its mode, whether it is whole. Version 2: its name, its state, its selection, its mode.
abbrev pub fields : FileVersion → Entry → List ℕ
fields First e = select_byte e.job.select ∷ mode_byte e.job.mode ∷ whole_byte e.job.whole ∷ []
fields Second e = e.name ++ state_byte e.state ∷ select_byte e.job.select ∷ mode_byte e.job.mode ∷ []

-- an entry: its fields, its records
abbrev pub entry_bytes : FileVersion → Entry → List ℕ
entry_bytes version e = fields version e ++ records_bytes e.job.records

-- a version's number
abbrev pub version_byte : FileVersion → ℕ
version_byte First = 1
version_byte Second = 2

-- `RJ37` in ASCII, and the first byte of the version
abbrev pub head : List ℕ
head = 0x52 ∷ 0x4A ∷ 0x33 ∷ 0x37 ∷ 0x00 ∷ []

-- the file of a list of entries: the head, the version, the number of entries in 8 bytes, and the entries
abbrev pub file_of : FileVersion → List Entry → List ℕ
file_of version entries = head ++ (version_byte version ∷ (big_bytes 8 (length entries) ++ flat_map (entry_bytes version) entries))

-- the data of a record are at most 144 bytes
abbrev pub HasRoom : Record → Type 0
HasRoom r = length r.bytes.items ≤ 144

-- an entry of a version. Version 1 has neither the name nor the state of a job.
abbrev pub IsOfVersion : FileVersion → Entry → Type 0
IsOfVersion First e = e ≡ entry_of e.job
IsOfVersion Second e = IsEntry e

-- an entry's number of records fits its 8 bytes, each record has room for its data, and the version has such entries
abbrev pub FitsFields : FileVersion → Entry → Type 0
FitsFields version e = (length e.job.records < 2 ^ 64) × AllByRecursion HasRoom e.job.records × IsOfVersion version e

-- a list of entries whose numbers fit their fields
abbrev pub AreForFile : FileVersion → List Entry → Type 0
AreForFile version entries = (length entries < 2 ^ 64) × AllByRecursion (FitsFields version) entries

-- these bytes are the file of these entries
abbrev pub IsEntryFileOf : FileVersion → List Entry → List ℕ → Type 0
IsEntryFileOf version entries bytes = AreForFile version entries × (file_of version entries ≡ bytes)

-- these bytes are the version 1 file of these jobs
abbrev pub IsFileOf : List Job → List ℕ → Type 0
IsFileOf jobs bytes = IsEntryFileOf First (map entry_of jobs) bytes

-- these bytes are the file of these entries, of either version
abbrev pub HasEntries : List Entry → List ℕ → Type 0
HasEntries entries bytes = (version : FileVersion) × IsEntryFileOf version entries bytes

-- these bytes are the file, of either version, of entries with these jobs
abbrev pub HasJobs : List Job → List ℕ → Type 0
HasJobs jobs bytes = (entries : List Entry) × HasEntries entries bytes × (jobs ≡ jobs_in entries)

-- these bytes are the version 1 file of some list
abbrev pub IsJobFile : List ℕ → Type 0
IsJobFile bytes = (entries : List Entry) × IsEntryFileOf First entries bytes

-- these bytes are the file of some list, of either version
abbrev pub IsEntryFile : List ℕ → Type 0
IsEntryFile bytes = (version : FileVersion) × (entries : List Entry) × IsEntryFileOf version entries bytes

-- these bytes are a file of this version or of an older one
abbrev pub IsFileUpTo : FileVersion → List ℕ → Type 0
IsFileUpTo First = IsJobFile
IsFileUpTo Second = IsEntryFile
