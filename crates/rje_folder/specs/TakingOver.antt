-- How a file of out/ that can't get a second name is taken over: it gets a hidden name, a copy of the station's own comes in its place there, and that
-- is moved to the name that the file had (own profile).
use Rattle.std.specs.Prelude.{◌≡◌, ◌⊎◌, ℕ, ℤ, pos, ◌<ℤ◌, ◌+ℤ◌, List, [], ◌++◌, Option, Some, None, ⊤}
use Rattle.rje_store.specs.declared.new_access.NewAccess.{NewAccess}
use Rattle.rje_store.specs.Disk.{Asked, Call, Opened, Create, Fill, Sync, Rename, Remove, SyncFolder, bytes_of}
use Rattle.rje_store.specs.Replacing.{IsOnDisk, IsWhole}
use Rattle.rje_folder.specs.declared.file_identity.FileIdentity.{FileIdentity}
use Rattle.rje_folder.specs.declared.folder.Folder.{Folder}
use Rattle.rje_folder.specs.declared.reading.FileRead.{FileRead}
use Rattle.rje_folder.specs.FileNames.{IsNamedAfter, IsNumbered}
use Rattle.rje_folder.specs.Folder.{path_in, path_of}
use Rattle.rje_folder.specs.Keeping.{IsTemporary, WasMade}
use Rattle.rje_folder.specs.Moving.{MayDrop, MayMove}
use Rattle.rje_folder.specs.Promising.{IsKeptElsewhere}
use Rattle.rje_folder.specs.Reading.{IsReadOf}
use Rattle.rje_folder.specs.TakenName.{IsTakenPath}

-- A file whose bytes last changed at one time is at rest at another, both in seconds since 1970: that is more than three seconds later; or it is before,
-- so the clocks don't agree, and nothing can be told. Where the time isn't known, each file is.
abbrev pub IsAtRest : (changed : ℤ) → (now : Option ℤ) → Type 0
IsAtRest changed (Some now) = (now <ℤ changed) ⊎ ((changed +ℤ pos 3) <ℤ now)
IsAtRest changed None = ⊤

-- What may be asked to make a copy in a folder: a file is made for its owner alone, under a name that is left alone, gets its bytes while it is
-- empty, and is put on disk; and such a name is taken away.
abbrev pub MayCopy : (folder : List ℕ) → Call → List Asked → Type 0
MayCopy folder (Create NewAccess.Private name) before = IsTemporary folder name
MayCopy folder (Fill file _) before = IsTemporary folder file.name × (bytes_of file.number before ≡ Some [])
MayCopy folder (Sync file) before = IsTemporary folder file.name
MayCopy folder (Remove name) before = IsTemporary folder name
MayCopy folder _ before = ⊥

-- this was read of a file, which was the same one from the first byte to the last, as the disk said
abbrev pub WasRead : {F : Type 0} → (F → Opened) → (F → Option (List ℕ)) → (is_open : List Asked → F → FileIdentity → Type 0) → FileRead → List Asked → Type 0
WasRead {F} opened remaining is_open read after = (path : List ℕ) × (moment later : List Asked) × (after ≡ later ++ moment) × IsReadOf opened remaining (is_open moment) path read

-- The file of one name may take the place of the one of another: it has just the bytes that were read of that very file, which stands there still, as
-- the disk has just said, and all of it is on disk.
abbrev pub IsCopyOf : {F : Type 0} → (F → Opened) → (F → Option (List ℕ)) → (is_open : List Asked → F → FileIdentity → Type 0) → (is_file : List Asked → List ℕ → FileIdentity → Type 0)
    → (copy name : List ℕ) → List Asked → Type 0
IsCopyOf {F} opened remaining is_open is_file copy name before = (read : FileRead) × IsWhole copy read.bytes.items before × is_file before name read.file × WasRead opened remaining is_open read before

-- What may be asked to give a file back that has such a hidden name: to make a copy of it in refused/, to put the hidden name on disk, to put the copy
-- in its place there, which is one of that very file, and to move what stands there to the name that it had, or that with a number.
abbrev pub MayGiveBack : {F : Type 0} → (F → Opened) → (F → Option (List ℕ)) → (is_open : List Asked → F → FileIdentity → Type 0) → (is_file : List Asked → List ℕ → FileIdentity → Type 0)
    → (are_one : List Asked → List ℕ → List ℕ → Type 0) → (station name : List ℕ) → Call → List Asked → Type 0
MayGiveBack {F} opened remaining is_open is_file are_one station name call before = MayCopy (path_of station Folder.Refused) call before
    ⊎ ((hidden : List ℕ) × IsTakenPath station name hidden × (call ≡ SyncFolder hidden))
    ⊎ ((hidden copy : List ℕ) × IsTakenPath station name hidden × IsTemporary (path_of station Folder.Refused) copy × (call ≡ Rename copy hidden) × IsCopyOf opened remaining is_open is_file copy hidden before)
    ⊎ ((hidden : List ℕ) × IsTakenPath station name hidden × MayMove are_one hidden (IsNumbered (path_in station Folder.Out name)) call before)

-- what may be asked to take a file of out/ over: to give whatever stands under its name a hidden one, and to give that back
abbrev pub MayTakeOver : {F : Type 0} → (F → Opened) → (F → Option (List ℕ)) → (is_open : List Asked → F → FileIdentity → Type 0) → (is_file : List Asked → List ℕ → FileIdentity → Type 0)
    → (are_one : List Asked → List ℕ → List ℕ → Type 0) → (station name : List ℕ) → Call → List Asked → Type 0
MayTakeOver {F} opened remaining is_open is_file are_one station name call before =
    ((hidden : List ℕ) × IsTakenPath station name hidden × (call ≡ Rename (path_in station Folder.Out name) hidden)) ⊎ MayGiveBack opened remaining is_open is_file are_one station name call before

-- All bytes of a file of this name were read, and are those of the one under a path now, which was made after that; it is on disk, and so is its name.
abbrev pub IsTakenOver : {F : Type 0} → (F → Opened) → (F → Option (List ℕ)) → (is_open : List Asked → F → FileIdentity → Type 0) → (name path : List ℕ) → (before after : List Asked) → Type 0
IsTakenOver {F} opened remaining is_open name path before after = (read : FileRead) × IsReadOf opened remaining (is_open before) name read × IsOnDisk path read.bytes.items after × WasMade path before after

-- What may be asked later, of any file that has such a hidden name: to give it back, or, where it has another name in out/, sent/, doubt/ or
-- refused/ that is named after the one that it had, to take the hidden one away once that is on disk.
abbrev pub MayFinish : {F : Type 0} → (F → Opened) → (F → Option (List ℕ)) → (is_open : List Asked → F → FileIdentity → Type 0) → (is_file : List Asked → List ℕ → FileIdentity → Type 0)
    → (are_one : List Asked → List ℕ → List ℕ → Type 0) → (station : List ℕ) → Call → List Asked → Type 0
MayFinish {F} opened remaining is_open is_file are_one station call before = (name : List ℕ) × (MayGiveBack opened remaining is_open is_file are_one station name call before
    ⊎ ((hidden kept : List ℕ) × IsTakenPath station name hidden × (IsKeptElsewhere station name kept ⊎ IsNamedAfter (path_in station Folder.Out name) kept) × MayDrop are_one kept hidden call before))
