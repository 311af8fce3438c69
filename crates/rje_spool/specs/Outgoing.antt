-- What is to be sent of a file of out/, and why one can't be (own profile).
use Rattle.std.specs.Prelude.{◌≡◌, ◌≢◌, ℕ, List, [], ◌∷◌, Option, Some, None}
use Rattle.std.specs.List.{All}
use Rattle.rje_jobs.specs.Deck.{IsDeckFault, deck_fault, job_of}
use Rattle.rje_files.specs.declared.entry.Entry.{Entry}
use Rattle.rje_files.specs.FileFault.{IsFileFault}
use Rattle.rje_files.specs.JobFile.{HasEntries, IsEntryFile}
use Rattle.rje_files.specs.Marks.{AreMarks}
use Rattle.rje_files.specs.Unsent.{IsLeft, IsFirstUnsendable}
use Rattle.rje_folder.specs.declared.ready_file.ReadyFile.{ReadyFile}
use Rattle.rje_spool.specs.Holding.{CanBeHeld}
use Rattle.rje_spool.specs.declared.outgoing.Outgoing.{Outgoing}
use Rattle.rje_spool.specs.declared.refused_file.RefusedFile.{RefusedFile}

-- These jobs are of a file of this kind and these bytes, and they are marked at these places: of a deck its job, which is marked nowhere; of a job file
-- those that weren't sent, of which there is one at least, and which can all be.
abbrev pub IsOfFile : Option ReadyFile → (bytes : List ℕ) → Outgoing → Type 0
IsOfFile (Some (ReadyFile.Deck select mode)) bytes o = (deck_fault bytes ≡ None) × (o.jobs ≡ job_of select mode bytes ∷ []) × (o.places.items ≡ [])
IsOfFile (Some ReadyFile.JobFile) bytes o = IsLeft bytes o.jobs × AreMarks bytes o.places.items × (o.jobs ≢ [])
IsOfFile None bytes o = ⊥

-- these jobs are to be sent of it: each of them can be held by the station that receives it
abbrev pub IsOutgoing : Option ReadyFile → (bytes : List ℕ) → Outgoing → Type 0
IsOutgoing kind bytes o = IsOfFile kind bytes o × All CanBeHeld o.jobs

-- the jobs of it that weren't sent have one that no station can hold
abbrev pub HasTooMuch : Option ReadyFile → (bytes : List ℕ) → Type 0
HasTooMuch kind bytes = (o : Outgoing) × IsOfFile kind bytes o × (All CanBeHeld o.jobs → ⊥)

-- why none are; there may be no memory for those of any file
abbrev pub IsRefusal : Option ReadyFile → (bytes : List ℕ) → RefusedFile → Type 0
IsRefusal kind bytes RefusedFile.OutOfMemory = Unit {0}
IsRefusal None bytes RefusedFile.UnknownKind = Unit {0}
IsRefusal (Some (ReadyFile.Deck select mode)) bytes (RefusedFile.Deck fault) = IsDeckFault bytes fault
IsRefusal (Some ReadyFile.JobFile) bytes (RefusedFile.File fault) = IsFileFault IsEntryFile bytes fault
IsRefusal (Some ReadyFile.JobFile) bytes (RefusedFile.BadJob number) = (entries : List Entry) × HasEntries entries bytes × IsFirstUnsendable entries number
IsRefusal (Some kind) bytes RefusedFile.TooMuch = HasTooMuch (Some kind) bytes
IsRefusal (Some ReadyFile.JobFile) bytes RefusedFile.NothingLeft = IsLeft bytes []
IsRefusal _ bytes _ = ⊥
