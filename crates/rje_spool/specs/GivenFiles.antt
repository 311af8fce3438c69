-- The files of out/ whose jobs are in a transmission, in the order of their jobs (own profile). A job goes by its number there, from 0.
use Rattle.std.specs.Prelude.{◌≡◌, ◌≢◌, ℕ, ◌+◌, ◌-◌, ◌==◌, Bool, true, ◌&&◌, List, ◌++◌, length, min, position, slice_get, slice_set, nat_lt, nat_le, Option, Some, None, if◌then◌else◌, option_and_then, string_bytes}
use Rattle.std.specs.Option.{option_map_or}
use Rattle.rje_day.specs.declared.disposition.Disposition.{Disposition}
use Rattle.rje_day.specs.declared.disposition.Disposition.TheVariants as disposition
use Rattle.rje_folder.specs.declared.file_identity.FileIdentity.{FileIdentity}
use Rattle.rje_folder.specs.Marking.{IsMarked, IsSaid}
use Rattle.rje_store.specs.Disk.{Asked, Opened}
use Rattle.rje_spool.specs.declared.file_job.FileJob.{FileJob}
use Rattle.rje_spool.specs.declared.given_file.GivenFile.{GivenFile}
use Rattle.rje_spool.specs.declared.given_file.Standing.{Standing}
use Rattle.rje_spool.specs.declared.given_file.Standing.TheVariants.{Promised}
use Rattle.rje_spool.specs.GivenFile.{HasSecondName, IsDoubted, IsInSent, IsOfRead, IsPromised}

-- the job is one of the file's
abbrev pub is_of : ℕ → GivenFile → Bool
is_of job file = nat_le file.first job && nat_lt (job - file.first) file.count

-- it is the last one of the file's: from it on there is one
abbrev pub is_last_of : ℕ → GivenFile → Bool
is_last_of job file = is_of job file && (file.count - (job - file.first) == 1)

-- where a job is marked as sent in the file, if it is of a job file that has it
abbrev pub mark_of : ℕ → GivenFile → Option ℕ
mark_of job file = if nat_le file.first job then slice_get file.places.items (job - file.first) else None

-- which job of its job file a job is, if the file is one that has it
abbrev pub label_of : ℕ → GivenFile → Option FileJob
label_of job file = if nat_le file.first job then slice_get file.labels.items (job - file.first) else None

-- the job is marked as sent in its own place, and nowhere else, where the file has a name in doubt/: by that name, and on disk
abbrev pub HasMark : (job : ℕ) → GivenFile → (before after : List Asked) → Type 0
HasMark job file before after =
    (doubt : _) (place : ℕ) → file.place ≡ Promised doubt → mark_of job file ≡ Some place → IsMarked (string_bytes doubt) place 1 before after

-- where a job was marked in a file that has a name in doubt/, this is the file that the disk said the marked one is
abbrev pub IsKnownAsMarked : {F : Type 0} → (job : ℕ) → (F → Opened) → (is_open : F → FileIdentity → Type 0) → GivenFile → (now : FileIdentity) → Type 0
IsKnownAsMarked {F} job opened is_open file now =
    (doubt : _) (place : ℕ) → file.place ≡ Promised doubt → mark_of job file ≡ Some place → IsSaid opened is_open (string_bytes doubt) now

-- how many jobs the files have: those of each follow those of the one before
abbrev pub jobs_of : List GivenFile → ℕ
jobs_of files = option_map_or (λ file. min (file.first + file.count) 18446744073709551615) (slice_get files (length files - 1)) 0

-- a file that comes after these has so many jobs, whose numbers follow theirs; nothing became of it yet
pub record IsNext (files : List GivenFile) (count : ℕ) (file : GivenFile) : Type 0 where
  pub first : file.first ≡ jobs_of files
  pub many : file.count ≡ count
  pub ready : file.place ≡ Standing.Ready

-- the file that a job is of, the first such
abbrev pub file_of : ℕ → List GivenFile → Option GivenFile
file_of job files = option_and_then (slice_get files) (position (is_of job) files)

-- This holds of the file that a job is of, the first such, as it stood before and as it stands now; the others are as they were.
abbrev pub OfFile : (job : ℕ) → (Holds : GivenFile → GivenFile → Type 0) → (before after : List GivenFile) → Type 0
OfFile job Holds before after =
    (place : ℕ) (file : GivenFile) → position (is_of job) before ≡ Some place → slice_get before place ≡ Some file
    → (now : GivenFile) × (after ≡ slice_set before place now) × Holds file now

-- it doesn't stand in out/ alone; and where it did, it has a name in doubt/ now, on disk, beside the one in out/, which stands for the very file that
-- was read, as the disk said
pub record HasGoneOut (is_file : List Asked → List ℕ → FileIdentity → Type 0) (station : List ℕ) (file now : GivenFile) (before after : List Asked) : Type 0 where
  pub out : now.place ≢ Standing.Ready
  pub promised : file.place ≡ Standing.Ready → IsPromised station (string_bytes file.name) now.place before after
  pub same : file.place ≡ Standing.Ready → IsOfRead (is_file after) now.place file.file

-- a job that was counted was marked so, at one moment between these two
abbrev pub WasMarked : (job : ℕ) → GivenFile → (before after : List Asked) → Type 0
WasMarked job file before after = (later moment : List Asked) × (after ≡ later ++ moment) × HasMark job file before moment

-- where its last job was counted, and it had a name in doubt/, it stands in sent/ now, on disk
abbrev pub HasBeenCounted : (job : ℕ) → (station : List ℕ) → (file now : GivenFile) → (after : List Asked) → Type 0
HasBeenCounted job station file now after =
    is_last_of job file ≡ true → HasSecondName file.place → IsInSent station (string_bytes file.name) now.place after

-- what becomes of the file of a job that is settled so: counted, as above; in doubt, it stands in doubt/; and where it lies ready, and had a name in doubt/, it has that no more
abbrev pub IsSettledSo : (job : ℕ) → Disposition → (station : List ℕ) → (after : List Asked) → (file now : GivenFile) → Type 0
IsSettledSo job disposition.Sent station after file now = HasBeenCounted job station file now after
IsSettledSo job disposition.InDoubt station after file now = IsDoubted now.place
IsSettledSo job disposition.Ready station after file now = HasSecondName file.place → now.place ≡ Standing.Ready
