-- Why bytes are no file of jobs (own profile). IsFile says of bytes whether they are a file of a version that is read.
use Rattle.std.specs.Prelude.{◌≡◌, ℕ, ◌+◌, ◌*◌, ◌<◌, ◌≤◌, List, ◌++◌, length, take, slice_index, Some, None, ◌⊎◌}
use Rattle.rje_jobs.specs.declared.file_fault.FileFault.{FileFault}
use Rattle.rje_jobs.specs.declared.file_fault.FileFault.TheVariants.{OutOfMemory, NotJobFile, Version, Truncated, BadField, Trailing, BadEntry}
use Rattle.rje_files.specs.declared.entry.Entry.{Entry}
use Rattle.rje_files.specs.Entry.{bad_entry}

-- some file begins with these bytes
abbrev pub Begins : (List ℕ → Type 0) → List ℕ → Type 0
Begins IsFile front = (rest : List ℕ) × IsFile (front ++ rest)

-- p is the length of the longest prefix with which some file begins
pub record IsLongest (IsFile : List ℕ → Type 0) (bytes : List ℕ) (p : ℕ) : Type 0 where
  pub within : p ≤ length bytes
  pub begins : Begins IsFile (take p bytes)
  pub stops : p < length bytes → Begins IsFile (take (p + 1) bytes) → ⊥

-- the fault where that length is p.
-- OutOfMemory: for a file alone. NotJobFile: one of the first four bytes is not that of a file. Version: both bytes of the version are there,
-- and one of them is not that of a file. Truncated: all bytes begin a file and aren't one, or they stop after the first byte of another version.
-- BadField: a later byte can't stand at its place. Trailing: a byte stands after a whole file. BadEntry is a fault of entries, never of bytes.
abbrev pub IsFaultAt : (List ℕ → Type 0) → List ℕ → ℕ → FileFault → Type 0
IsFaultAt IsFile bytes p OutOfMemory = IsFile bytes
IsFaultAt IsFile bytes p NotJobFile = (p < 4) × (p < length bytes)
IsFaultAt IsFile bytes p (Version n) = (4 ≤ p) × (p ≤ 5) × (5 < length bytes) × (p < length bytes) × (n ≡ slice_index bytes 4 * 256 + slice_index bytes 5)
IsFaultAt IsFile bytes p (Truncated at) = (at ≡ length bytes) × (((p ≡ length bytes) × (IsFile bytes → ⊥)) ⊎ ((p ≡ 4) × (length bytes ≡ 5)))
IsFaultAt IsFile bytes p (BadField at) = (at ≡ p) × (5 < p) × (p < length bytes) × (IsFile (take p bytes) → ⊥)
IsFaultAt IsFile bytes p (Trailing at) = (at ≡ p) × (5 < p) × (p < length bytes) × IsFile (take p bytes)
IsFaultAt IsFile bytes p (BadEntry n) = ⊥

-- the fault of bytes from which no jobs are given
abbrev pub IsFileFault : (List ℕ → Type 0) → List ℕ → FileFault → Type 0
IsFileFault IsFile bytes fault = (p : ℕ) × IsLongest IsFile bytes p × IsFaultAt IsFile bytes p fault

-- the fault of entries for which no file is given: the first bad entry, and out of memory only where each is good
abbrev pub IsEntryFault : List Entry → FileFault → Type 0
IsEntryFault entries OutOfMemory = bad_entry entries ≡ None
IsEntryFault entries NotJobFile = ⊥
IsEntryFault entries (Version n) = ⊥
IsEntryFault entries (Truncated at) = ⊥
IsEntryFault entries (BadField at) = ⊥
IsEntryFault entries (Trailing at) = ⊥
IsEntryFault entries (BadEntry n) = bad_entry entries ≡ Some n
