-- Job files from the front, byte by byte: a device of the proofs; no promise rests on this file.
-- What may follow at a reader.
use Rattle.std.specs.Prelude.{◌≡◌, ℕ, suc, ◌-◌, ◌^◌, ◌<◌, ◌≤◌, List, [], ◌∷◌, ◌++◌, length, drop}
use Rattle.rje_files.specs.declared.job_file.reader.Due.{Due}
use Rattle.rje_files.specs.declared.job_file.reader.Due.TheVariants.{Head, Version, JobCount, Name, State, Select, Mode, Whole, RecordCount, Action, Length, Data, Nothing}
use Rattle.rje_files.specs.declared.job_file.reader.Reader.{Reader}
use Rattle.rje_files.specs.declared.job_file.version.FileVersion.{FileVersion}
use Rattle.rje_files.specs.declared.job_file.version.FileVersion.TheVariants.{First}
use Rattle.rje_files.specs.JobFile.{head}
use Rattle.rje_files.specs.Inside.Reading.Grammar.{TheseBytes, Number, AnyBytes, AfterAction, Records, Name as NameBytes, AfterMode, AfterSelect, FromSelect, FromState, FromVersion, Counted, Entries}

-- what may follow an entry's fields, with this many records and entries after it
abbrev pub Rest : FileVersion → ℕ → List ℕ → Type 0
Rest v j = Counted (λ q. Records q (Entries v j))

-- what may follow where this is due, with this many entries and records after it. Up to the version's byte v is the newest version that is read,
-- and after it the file's.
abbrev pub Follows : Due → FileVersion → ℕ → ℕ → List ℕ → Type 0
Follows (Head k) v j r xs = TheseBytes (drop k head) (FromVersion v) xs
Follows Version v j r xs = FromVersion v xs
Follows (JobCount n c) v j r xs = Number n c (Entries v) xs
Follows (Name n ended) v j r xs = NameBytes n ended (FromState v (Rest v j)) xs
Follows State v j r xs = FromState v (Rest v j) xs
Follows Select v j r xs = FromSelect v (Rest v j) xs
Follows Mode v j r xs = AfterSelect v (Rest v j) xs
Follows Whole v j r xs = AfterMode First (Rest v j) xs
Follows (RecordCount n c) v j r xs = Number n c (λ q. Records q (Entries v j)) xs
Follows Action v j r xs = Records (suc r) (Entries v j) xs
Follows Length v j r xs = AfterAction (Records r (Entries v j)) xs
Follows (Data n) v j r xs = AnyBytes n (Records r (Entries v j)) xs
Follows Nothing v j r xs = xs ≡ []

-- what may follow at this reader
abbrev pub Expects : Reader → List ℕ → Type 0
Expects reader xs = Follows reader.due reader.version reader.jobs reader.records xs

-- how many data bytes are due
abbrev pub data_left : Due → ℕ
data_left (Data n) = n
data_left d = 0

-- how many data bytes are due at this reader
abbrev pub data_due_in : Reader → ℕ
data_due_in reader = data_left reader.due

-- its numbers are in their ranges
abbrev pub IsSoundDue : Due → Type 0
IsSoundDue (Head k) = k < 5
IsSoundDue (JobCount n v) = (0 < n) × (n ≤ 8) × (v < 256 ^ (8 - n))
IsSoundDue (Name n ended) = (0 < n) × (n ≤ 8)
IsSoundDue (RecordCount n v) = (0 < n) × (n ≤ 8) × (v < 256 ^ (8 - n))
IsSoundDue (Data n) = 0 < n
IsSoundDue d = Unit {0}

-- the reader's numbers are in their ranges
abbrev pub IsSound : Reader → Type 0
IsSound reader = IsSoundDue reader.due

-- after the byte, next expects what this reader expects after it
pub record IsStep (reader : Reader) (byte : ℕ) (next : Reader) : Type 0 where
  pub sound : IsSound next
  pub there : (xs : List ℕ) → Expects reader (byte ∷ xs) → Expects next xs
  pub back : (xs : List ℕ) → Expects next xs → Expects reader (byte ∷ xs)

-- after `count` bytes, whatever they are, next expects what this reader expects after them
pub record IsSkip (reader : Reader) (count : ℕ) (next : Reader) : Type 0 where
  pub sound : IsSound next
  pub there : (ys xs : List ℕ) → length ys ≡ count → Expects reader (ys ++ xs) → Expects next xs
  pub back : (ys xs : List ℕ) → length ys ≡ count → Expects next xs → Expects reader (ys ++ xs)

-- where front was read, the reader expects what makes it a file
pub record HasRead (IsFile : List ℕ → Type 0) (front : List ℕ) (reader : Reader) : Type 0 where
  pub sound : IsSound reader
  pub there : (xs : List ℕ) → IsFile (front ++ xs) → Expects reader xs
  pub back : (xs : List ℕ) → Expects reader xs → IsFile (front ++ xs)
