-- What is read of a file, and by which name.
use Rattle.std.specs.Prelude.{◌≡◌, ◌⊎◌, ℕ, ◌<◌, List, ◌∷◌, ◌++◌, length, Option, IfSome}
use Rattle.std.specs.Io.KnownBytes.{IsAtEnd}
use Rattle.rje_store.specs.Disk.{Asked, Call, Done, Link, Opened, Remove}
use Rattle.rje_folder.specs.declared.file_identity.FileIdentity.{FileIdentity}
use Rattle.rje_folder.specs.declared.folder.Folder.{Folder}
use Rattle.rje_folder.specs.declared.reading.FileRead.{FileRead}
use Rattle.rje_folder.specs.Folder.{path_in, path_of}
use Rattle.rje_folder.specs.Keeping.{IsTemporary}

-- the bytes are all that there is to be read of an open file, which is the same one when that was read to its end
abbrev pub IsWholeRead : {F : Type 0} → (F → Option (List ℕ)) → (is_open : F → FileIdentity → Type 0) → (file : F) → FileRead → Type 0
IsWholeRead {F} remaining is_open file read = IfSome (remaining file) (λ rest. read.bytes.items ≡ rest) × is_open file read.file
    × ((end : F) × IsAtEnd (remaining end) × is_open end read.file)

-- What was read is of a file that was opened under a path: all that there was to be read, where the file shows that, and the disk said that it is
-- the same file before the first byte and behind the last. The first tells what a file was opened as, the second what there is to be read of it,
-- the third which file it is, as the disk said.
abbrev pub IsReadOf : {F : Type 0} → (F → Opened) → (F → Option (List ℕ)) → (is_open : F → FileIdentity → Type 0) → (path : List ℕ) → FileRead → Type 0
IsReadOf {F} opened remaining is_open path read = (file : F) × ((opened file).name ≡ path) × IsWholeRead remaining is_open file read

-- once it was read the station locked the file itself for a moment, so that no command had it locked
abbrev pub WasLocked : {F : Type 0} → (is_locked : F → Type 0) → (is_open : F → FileIdentity → Type 0) → FileRead → Type 0
WasLocked {F} is_locked is_open read = (lock : F) × is_locked lock × is_open lock read.file

-- a file that was opened under a path has more bytes than so many, where the file shows that
abbrev pub IsLongerThan : {F : Type 0} → (F → Opened) → (F → Option (List ℕ)) → (path : List ℕ) → (most : ℕ) → Type 0
IsLongerThan {F} opened remaining path most = (file : F) × ((opened file).name ≡ path) × IfSome (remaining file) (λ rest. most < length rest)

-- What may be asked to open a file of out/: to give it a second name in refused/ that is left alone, and to take that away, which the call before gave
-- to it.
abbrev pub MayRead : (station name : List ℕ) → Call → List Asked → Type 0
MayRead station name call before = (second : List ℕ) × IsTemporary (path_of station Folder.Refused) second
    × ((call ≡ Link (path_in station Folder.Out name) second) ⊎ ((call ≡ Remove second) × ((earlier : List Asked) × (before ≡ Done (Link (path_in station Folder.Out name) second) ∷ earlier))))

-- the file of a name in out/ was given this second name, in refused/, which is left alone there, between two moments
abbrev pub GotSecond : (station name second : List ℕ) → (before after : List Asked) → Type 0
GotSecond station name second before after = IsTemporary (path_of station Folder.Refused) second
    × ((later between : List Asked) × (after ≡ later ++ (Done (Link (path_in station Folder.Out name) second) ∷ (between ++ before))))

-- something holds of a second name that the file of a name in out/ was given so
abbrev pub OfSecond : (station name : List ℕ) → (before after : List Asked) → (List ℕ → Type 0) → Type 0
OfSecond station name before after Holds = (second : List ℕ) × GotSecond station name second before after × Holds second
