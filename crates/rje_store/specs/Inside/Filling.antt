-- How a new file is written, and the names of a folder are put on disk.
use Rattle.std.specs.Prelude.{◌≡◌, ◌≢◌, ◌⊎◌, ℕ, List, [], ◌∷◌, ◌++◌, length, drop, Option, Some, None, true}
use Rattle.rje_store.specs.declared.new_access.NewAccess.{NewAccess}
use Rattle.rje_store.specs.Disk.{Asked, Call, Opened, Done, Rename, SetOwner, SetMode, Fill, GoOn, WriteAt, Sync, SyncFolder, Link, call_of, standing, bytes_of, is_synced, has_synced_name}
use Rattle.rje_store.specs.Replacing.{HasOwner, IsBeside, IsPrivate}

-- for whom a new file is made that gets the access of another one, or the usual
abbrev pub new_access : {A : Type 0} → Option A → NewAccess
new_access None = NewAccess.Usual
new_access (Some _) = NewAccess.Private

-- what may be asked to give a file its access: first its owner and its group, and only where it was made for its owner alone
abbrev pub MayGive : Opened → Call → List Asked → Type 0
MayGive file call before = IsPrivate file before × ((call ≡ SetOwner file) ⊎ ((call ≡ SetMode file) × HasOwner file before))

-- what may be asked to write a file beside another
abbrev pub MayFill : Opened → Call → List Asked → Type 0
MayFill file call before = MayGive file call before ⊎ ((bytes : List ℕ) × (call ≡ Fill file bytes)) ⊎ (call ≡ Sync file)
    ⊎ ((from : Opened) × (place : ℕ) × (bytes : List ℕ) × (call ≡ GoOn file from place bytes))
    ⊎ ((place : ℕ) × (bytes : List ℕ) × (call ≡ WriteAt file place bytes))

-- what may be asked to give the file of a path a second name
abbrev pub MayLink : List ℕ → Call → List Asked → Type 0
MayLink path call before = (name : List ℕ) × IsBeside path name × (call ≡ Link path name)

-- each name that stands goes on standing for its file
pub record KeepsNames (before after : List Asked) : Type 0 where
  pub keep : (name : List ℕ) (number : ℕ) → standing name before ≡ Some number → standing name after ≡ Some number

-- an older copy goes on as the newest file, has a piece in front and another at its end, and all of it is on disk
abbrev pub Turns : (file from : Opened) → (front tail : List ℕ) → List Asked → List Asked → Type 0
Turns file from front tail before after = (bytes had : List ℕ) → bytes_of file.number before ≡ Some bytes → bytes_of from.number before ≡ Some had
    → (bytes_of file.number after ≡ Some (front ++ drop (length front) (bytes ++ (drop (length bytes) had ++ tail)))) × (is_synced file.number after ≡ true)

-- a file that was empty has these bytes, and all of it is on disk
abbrev pub Fills : ℕ → List ℕ → List Asked → List Asked → Type 0
Fills number bytes before after = bytes_of number before ≡ Some [] → (bytes_of number after ≡ Some bytes) × (is_synced number after ≡ true)

-- the disk was asked to put the names of this path's folder there, whatever came of it
abbrev pub AddsSync : List ℕ → List Asked → List Asked → Type 0
AddsSync path before after = (asked : Asked) × (after ≡ asked ∷ before) × (call_of asked ≡ SyncFolder path)

-- two names stand for two files
abbrev pub AreTwo : List ℕ → List ℕ → List Asked → Type 0
AreTwo name other asked = (m : ℕ) × (n : ℕ) × (standing name asked ≡ Some m) × (standing other asked ≡ Some n) × (m ≢ n)

-- a path was given to the file of another name, and is on disk with it
abbrev pub IsNamed : (from path : List ℕ) → List Asked → List Asked → Type 0
IsNamed from path before after = AddsSync path (Done (Rename from path) ∷ before) after × (has_synced_name path after ≡ true)

-- a name beside a path stands for the file that stood under the path
abbrev pub IsSecond : (path name : List ℕ) → List Asked → List Asked → Type 0
IsSecond path name before after = IsBeside path name × (standing name after ≡ standing path before)

-- the file of one name stands under the path now, and its name is on disk; each file has the bytes that it had
pub record HasTurned (path beside : List ℕ) (before after : List Asked) : Type 0 where
  pub stands : standing path after ≡ standing beside before
  pub has : (number : ℕ) → bytes_of number after ≡ bytes_of number before
  pub is : (number : ℕ) → is_synced number after ≡ is_synced number before
  pub named : has_synced_name path after ≡ true

-- a file that grew stands under its path with these bytes, all on disk, and the file that it grew from has the bytes that it had
pub record HasGrown (path : List ℕ) (file from : Opened) (bytes had : List ℕ) (after : List Asked) : Type 0 where
  pub stands : standing path after ≡ Some file.number
  pub has : bytes_of file.number after ≡ Some bytes
  pub is : is_synced file.number after ≡ true
  pub named : has_synced_name path after ≡ true
  pub other : bytes_of from.number after ≡ Some had
