-- How a byte of a file is marked where the file is.
use Rattle.std.specs.Prelude.{◌≡◌, ◌⊎◌, ℕ, ◌<◌, List, [], ◌∷◌, ◌++◌, length, set, Some, true, IfSome}
use Rattle.rje_store.specs.Disk.{Asked, Call, Opened, Open, WriteAt, SyncBytes, standing, bytes_of, has_synced_bytes}
use Rattle.rje_store.specs.Growing.{bytes_under}
use Rattle.rje_folder.specs.declared.file_identity.FileIdentity.{FileIdentity}

-- what may be asked to mark a byte of the file under a path: to open it, to write that one byte at its place, and to put it on disk
abbrev pub MayMark : (path : List ℕ) → (place mark : ℕ) → Call → List Asked → Type 0
MayMark path place mark call before = ((bytes : List ℕ) × (call ≡ Open path bytes))
    ⊎ ((file : Opened) × (file.name ≡ path) × ((call ≡ WriteAt file place (mark ∷ [])) ⊎ (call ≡ SyncBytes file)))

-- the file under a path has these bytes, and they are on disk
abbrev pub HasOnDisk : (path bytes : List ℕ) → List Asked → Type 0
HasOnDisk path bytes after = (number : ℕ) × (standing path after ≡ Some number) × (bytes_of number after ≡ Some bytes) × (has_synced_bytes number after ≡ true)

-- the file under a path has the bytes that it had, but this one at this place, and they are on disk
abbrev pub IsMarked : (path : List ℕ) → (place mark : ℕ) → List Asked → List Asked → Type 0
IsMarked path place mark before after = (had : List ℕ) × IfSome (bytes_under path before) (λ known. had ≡ known) × (place < length had) × HasOnDisk path (set had place mark) after

-- a disk said of a file that was opened under a path that it is this one
abbrev pub IsSaid : {F : Type 0} → (F → Opened) → (is_open : F → FileIdentity → Type 0) → (path : List ℕ) → FileIdentity → Type 0
IsSaid {F} opened is_open path file = (held : F) × ((opened held).name ≡ path) × is_open held file

-- the same at a moment before the last of these calls, or after it
abbrev pub WasSaid : {F : Type 0} → (F → Opened) → (is_open : List Asked → F → FileIdentity → Type 0) → (path : List ℕ) → FileIdentity → List Asked → Type 0
WasSaid {F} opened is_open path file after = (moment later : List Asked) × (after ≡ later ++ moment) × IsSaid opened (is_open moment) path file
