-- What a store over a disk asks it, and what is on disk then.
use Rattle.std.specs.Prelude.{◌≡◌, ◌⊎◌, ℕ, ◌<◌, List, [], ◌∷◌, length, set, Option, Some, true, string_bytes, option_map, option_and_then}
use Rattle.rje_store.specs.declared.file_store.growing.Growing.{Growing}
use Rattle.rje_store.specs.declared.file_store.growing.Older.{Older}
use Rattle.rje_store.specs.Disk.{Asked, Call, Opened, Done, Open, WriteAt, SyncBytes, Remove, WriteDevice, standing, bytes_of, has_synced_bytes}
use Rattle.rje_store.specs.Growing.{IsOpening}
use Rattle.rje_store.specs.Replacing.{Adds, IsOnDisk, HasTried, LeadsTo, MayReplace, MayTry}

-- the name of the copy that stands beside a file that grows, where there is one
abbrev pub older_name : {F : Type 0} → Option (Older F) → Option (List ℕ)
older_name older = option_map (λ copy. string_bytes copy.path) older

-- the same of the file that a store has for its growth
abbrev pub copy_of : {D F G : Type 0} → Option (Growing D F G) → Option (List ℕ)
copy_of growing = option_and_then (λ file. older_name file.older) growing

-- what may be asked to give up the growth of a file: to remove the copy beside it
abbrev pub MaySettle : Option (List ℕ) → Call → List Asked → Type 0
MaySettle copy call before = (name : List ℕ) × (copy ≡ Some name) × (call ≡ Remove name)

-- what may be asked to make these bytes the file of a name: to replace the file that it leads to, or to write them to the device there
abbrev pub MayPut : (List ℕ → List ℕ → Type 0) → (name bytes : List ℕ) → Call → List Asked → Type 0
MayPut leads name bytes call before = (path : List ℕ) × LeadsTo leads name path × (MayReplace path bytes call before ⊎ (call ≡ WriteDevice path bytes))

-- the bytes are on disk as the file that a name leads to, or the device there was the last that was asked to take them, and took them
abbrev pub IsWritten : (List ℕ → List ℕ → Type 0) → (name bytes : List ℕ) → List Asked → Type 0
IsWritten leads name bytes after = (path : List ℕ) × LeadsTo leads name path
    × (IsOnDisk path bytes after ⊎ ((before : List Asked) × (after ≡ Done (WriteDevice path bytes) ∷ before)))

-- what may be asked to set a byte of an open file: to write that one byte at its place, and to put it on disk
abbrev pub MayMark : Opened → (place byte : ℕ) → Call → List Asked → Type 0
MayMark file place byte call before = (call ≡ WriteAt file place (byte ∷ [])) ⊎ (call ≡ SyncBytes file)

-- what may be asked to set a byte of the file that a name leads to: to open it, to write that one byte at its place, and to put it on disk
abbrev pub MaySet : (List ℕ → List ℕ → Type 0) → (name : List ℕ) → (place byte : ℕ) → Call → List Asked → Type 0
MaySet leads name place byte call before = (path : List ℕ) × LeadsTo leads name path × (
    ((bytes : List ℕ) × (call ≡ Open path bytes))
    ⊎ ((file : Opened) × (file.name ≡ path) × MayMark file place byte call before))

-- the file under a path had some bytes, and was asked for nothing but this byte at this place; it stands there with that byte set, on disk
pub record IsSet (file : Opened) (place byte : ℕ) (before after : List Asked) : Type 0 where
  pub had : List ℕ
  pub stood : standing file.name before ≡ Some file.number
  pub bytes : bytes_of file.number before ≡ Some had
  pub room : place < length had
  pub asks : Adds (MayMark file place byte) before after
  pub stands : standing file.name after ≡ Some file.number
  pub has : bytes_of file.number after ≡ Some (set had place byte)
  pub synced : has_synced_bytes file.number after ≡ true

-- once the file of a name was opened, if that, the byte was set in the file that stood under its path
abbrev pub HasSet : (List ℕ → List ℕ → Type 0) → (name : List ℕ) → (place byte : ℕ) → (before after : List Asked) → Type 0
HasSet leads name place byte before after = (file : Opened) × (opened : List Asked) × LeadsTo leads name file.name × Adds IsOpening before opened × IsSet file place byte opened after

-- what may be asked to look at a name: to make a file beside the path that it leads to, and to remove it
abbrev pub MayLook : (List ℕ → List ℕ → Type 0) → (name : List ℕ) → Call → List Asked → Type 0
MayLook leads name call before = (path : List ℕ) × LeadsTo leads name path × MayTry path call before

-- the last calls made a file beside the path that a name leads to, and removed it
abbrev pub HasLooked : (List ℕ → List ℕ → Type 0) → (name : List ℕ) → List Asked → Type 0
HasLooked leads name after = (path : List ℕ) × LeadsTo leads name path × HasTried path after
