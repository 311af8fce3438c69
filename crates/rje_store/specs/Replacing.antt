-- How a file is replaced: which calls may be made for it, and what stands on disk after them.
use Rattle.std.specs.Prelude.{◌≡◌, ◌≢◌, ◌⊎◌, ℕ, List, [], ◌∷◌, ◌++◌, length, Some, true, ⊤, codes, decimal}
use Rattle.rje_store.specs.declared.new_access.NewAccess.{NewAccess}
use Rattle.rje_store.specs.Disk.{Asked, Call, Opened, Done, Create, Open, OpenLock, SetOwner, SetMode, Fill, GoOn, WriteAt, Sync, SyncBytes, Rename, Link, Remove, SyncFolder, WriteDevice, call_of, standing, bytes_of, is_synced, has_synced_name}

-- a name beside a path: the path, .rje- and a number
abbrev pub IsBeside : List ℕ → List ℕ → Type 0
IsBeside path name = (number : ℕ) × (name ≡ path ++ (codes ".rje-" ++ decimal number))

-- a name leads to a path by itself, or as the system says
abbrev pub LeadsTo : (List ℕ → List ℕ → Type 0) → List ℕ → List ℕ → Type 0
LeadsTo leads name path = (path ≡ name) ⊎ leads name path

-- a file that was made beside a path and isn't the one that stands under it: so one that may be written
abbrev pub IsApart : List ℕ → Opened → List Asked → Type 0
IsApart path file before = IsBeside path file.name × (standing path before ≢ Some file.number)

-- the file that stands under a name has just these bytes, and all of it is on disk
abbrev pub IsWhole : List ℕ → List ℕ → List Asked → Type 0
IsWhole name bytes before = (number : ℕ) × (standing name before ≡ Some number) × (bytes_of number before ≡ Some bytes) × (is_synced number before ≡ true)

-- the file that stands under a path has just these bytes, and all of it is on disk, as is its name
abbrev pub IsOnDisk : List ℕ → List ℕ → List Asked → Type 0
IsOnDisk path bytes before = IsWhole path bytes before × (has_synced_name path before ≡ true)

-- a file was made for its owner alone
abbrev pub IsPrivate : Opened → List Asked → Type 0
IsPrivate file asked = (calls : List Asked) × (before : List Asked) × (asked ≡ calls ++ Done (Create NewAccess.Private file.name) ∷ before) × (file.number ≡ length before)

-- the last call gave a file its owner and its group
abbrev pub HasOwner : Opened → List Asked → Type 0
HasOwner file asked = (before : List Asked) × (asked ≡ Done (SetOwner file) ∷ before)

-- What may be asked, after these calls, to make these bytes the file of a path. Files are made beside it, and are written as long as they don't
-- stand under the path; one that is given the access of the file that it replaces was made for its owner alone, and has its owner and its group
-- before its mode; the path is given to one that is on disk with just these bytes; and no name is touched but the path and those beside it.
abbrev pub MayReplace : List ℕ → List ℕ → Call → List Asked → Type 0
MayReplace path bytes (Create _ name) before = IsBeside path name
MayReplace path bytes (Open name _) before = name ≡ path
MayReplace path bytes (OpenLock _) before = ⊥
MayReplace path bytes (SetOwner file) before = IsApart path file before × IsPrivate file before
MayReplace path bytes (SetMode file) before = IsApart path file before × IsPrivate file before × HasOwner file before
MayReplace path bytes (Fill file _) before = IsApart path file before
MayReplace path bytes (GoOn file _ _ _) before = IsApart path file before
MayReplace path bytes (WriteAt file _ _) before = IsApart path file before
MayReplace path bytes (Sync _) before = ⊤
MayReplace path bytes (SyncBytes _) before = ⊤
MayReplace path bytes (Rename from to) before = IsBeside path from × (to ≡ path) × IsWhole from bytes before
MayReplace path bytes (Link from to) before = (from ≡ path) × IsBeside path to
MayReplace path bytes (Remove name) before = IsBeside path name
MayReplace path bytes (SyncFolder folder) before = folder ≡ path
MayReplace path bytes (WriteDevice _ _) before = ⊥

-- what may be asked to look whether a file can be made beside a path: to make one, and to remove it
abbrev pub MayTry : List ℕ → Call → List Asked → Type 0
MayTry path call before = (name : List ℕ) × IsBeside path name × (((access : NewAccess) × (call ≡ Create access name)) ⊎ (call ≡ Remove name))

-- the last calls made a file beside a path, and removed it
abbrev pub HasTried : List ℕ → List Asked → Type 0
HasTried path after = (name : List ℕ) × (before : List Asked) × IsBeside path name × (after ≡ Done (Remove name) ∷ Done (Create NewAccess.Usual name) ∷ before)

-- of each of these calls, which came after those before, this holds with all the calls before it
abbrev pub Each : (Call → List Asked → Type 0) → (calls before : List Asked) → Type 0
Each P [] before = ⊤
Each P (asked ∷ calls) before = P (call_of asked) (calls ++ before) × Each P calls before

-- calls were added, of each of which this holds with all the calls before it
abbrev pub Adds : (Call → List Asked → Type 0) → (before after : List Asked) → Type 0
Adds P before after = (calls : List Asked) × (after ≡ calls ++ before) × Each P calls before

-- what may be asked by one rule or by another
abbrev pub Either : (Call → List Asked → Type 0) → (Call → List Asked → Type 0) → Call → List Asked → Type 0
Either P Q call before = P call before ⊎ Q call before

-- the last of these calls made this file, new and empty, beside a path, for those who may use it
abbrev pub IsNewBeside : NewAccess → List ℕ → Opened → List ℕ → List Asked → Type 0
IsNewBeside access path file name after = (before : List Asked) × (after ≡ Done (Create access name) ∷ before) × (file ≡ record { name = name; number = length before }) × IsBeside path name
