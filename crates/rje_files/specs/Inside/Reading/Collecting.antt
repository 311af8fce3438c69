-- Job files from the front, byte by byte: a device of the proofs; no promise rests on this file.
-- What a part of a job file begins with.
use Rattle.std.specs.Prelude.{◌≡◌, ℕ, ◌∷◌, ◌++◌, Some, List, [], length}
use Rattle.std.specs.List.{flat_map, AllByRecursion}
use Rattle.byteorder.specs.Endian.{big_bytes}
use Rattle.rje_text.specs.declared.record.Record.{Record}
use Rattle.rje_jobs.specs.declared.job.Job.{Job}
use Rattle.rje_files.specs.declared.entry.Entry.{Entry}
use Rattle.rje_files.specs.Entry.{jobs_in}
use Rattle.rje_files.specs.declared.job_file.version.FileVersion.{FileVersion}
use Rattle.rje_files.specs.declared.job_file.version.FileVersion.TheVariants.{First, Second}
use Rattle.rje_files.specs.JobFile.{head, version_byte, record_bytes, entry_bytes, HasRoom, FitsFields, IsEntryFileOf}
use Rattle.rje_files.specs.Inside.Reading.Grammar.{version_read, Fields, Entries}

-- whatever follows
abbrev pub AnyRest : ℕ → List ℕ → Type 0
AnyRest n xs = Unit {0}

-- what a file has in front of its entries, and the entries in rest
pub record IsFront (newest : FileVersion) (bytes : List ℕ) (version : FileVersion) (count : ℕ) (rest : List ℕ) : Type 0 where
  pub known : version_read newest (version_byte version) ≡ Some version
  pub spelled : bytes ≡ head ++ (version_byte version ∷ (big_bytes 8 count ++ rest))
  pub entries : Entries version count rest

-- these bytes are a file of this version or an older one, of entries with these jobs
pub record AreJobsOf (newest : FileVersion) (jobs : List Job) (bytes : List ℕ) : Type 0 where
  pub version : FileVersion
  pub known : version_read newest (version_byte version) ≡ Some version
  pub entries : List Entry
  pub file : IsEntryFileOf version entries bytes
  pub jobs_are : jobs ≡ jobs_in entries

-- these are the first records, and the entries left stand in rest
pub record IsRecords (version : FileVersion) (bytes : List ℕ) (count left : ℕ) (records : List Record) (rest : List ℕ) : Type 0 where
  pub many : length records ≡ count
  pub spelled : bytes ≡ flat_map record_bytes records ++ rest
  pub fit : AllByRecursion HasRoom records
  pub entries : Entries version left rest

-- this is the first entry, and the entries left stand in rest
pub record IsFirst (version : FileVersion) (bytes : List ℕ) (left : ℕ) (entry : Entry) (rest : List ℕ) : Type 0 where
  pub spelled : bytes ≡ entry_bytes version entry ++ rest
  pub fit : FitsFields version entry
  pub entries : Entries version left rest

-- an entry's fields, and nothing after them
abbrev pub AreFields : FileVersion → List ℕ → Type 0
AreFields version xs = Fields version (λ ys. ys ≡ []) xs

-- how many bytes an entry's fields have
abbrev pub width : FileVersion → ℕ
width First = 3
width Second = 11
