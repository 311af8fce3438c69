-- How a file grows: by way of a copy beside it, which is older by one growth and takes turns with it.
use Rattle.std.specs.Prelude.{◌≡◌, ◌⊎◌, ◌≤◌, ℕ, List, ◌++◌, length, drop, Option, Some, IfSome, true, string_bytes, option_and_then}
use Rattle.rje_files.specs.Growth.{grown}
use Rattle.rje_store.specs.declared.file_store.growing.Growing.{Growing}
use Rattle.rje_store.specs.declared.file_store.growing.Older.{Older}
use Rattle.rje_store.specs.Disk.{Asked, Call, Opened, Open, Remove, standing, bytes_of}
use Rattle.rje_store.specs.Replacing.{Adds, IsApart, IsBeside, IsOnDisk, IsPrivate, LeadsTo, MayReplace}

-- the bytes of the file under a path after these calls, where they show them
abbrev pub bytes_under : List ℕ → List Asked → Option (List ℕ)
bytes_under path asked = option_and_then (λ number. bytes_of number asked) (standing path asked)

-- an older copy with these bytes goes on to what the file has, but for so many bytes in front
abbrev pub Agrees : (front : ℕ) → (bytes had : List ℕ) → Type 0
Agrees front bytes had = (length bytes ≤ length had) × (drop front (bytes ++ drop (length bytes) had) ≡ drop front had)

-- the copy beside the file of a path was made for its owner alone, is open under its name, may be written, and is older than the file, which has
-- these bytes
pub record IsOlder {F : Type 0} (opened : F → Opened) (path had : List ℕ) (older : Older F) (asked : List Asked) : Type 0 where
  pub bytes : List ℕ
  pub apart : IsApart path (opened older.file) asked
  pub private : IsPrivate (opened older.file) asked
  pub beside : IsBeside path (string_bytes older.path)
  pub stands : standing (string_bytes older.path) asked ≡ Some (opened older.file).number
  pub has : bytes_of (opened older.file).number asked ≡ Some bytes
  pub len : older.len ≡ length bytes
  pub agrees : Agrees older.front bytes had

-- the file that grows is the one under its path, has these bytes, and was made beside the path, for its owner alone, where it is the store's own
pub record IsNewest {D F G : Type 0} (opened : F → Opened) (had : List ℕ) (growing : Growing D F G) (asked : List Asked) : Type 0 where
  pub stands : standing (string_bytes growing.path) asked ≡ Some (opened growing.newest).number
  pub has : bytes_of (opened growing.newest).number asked ≡ Some had
  pub len : growing.len ≡ length had
  pub own : growing.own ≡ true → IsBeside (string_bytes growing.path) (opened growing.newest).name × IsPrivate (opened growing.newest) asked

-- what a store has for the growth of a file is that file, and a copy that is older, if any
abbrev pub IsGrowing : {D F G : Type 0} → (F → Opened) → (had : List ℕ) → Growing D F G → List Asked → Type 0
IsGrowing opened had growing asked = IsNewest opened had growing asked × IfSome growing.older (λ older. IsOlder opened (string_bytes growing.path) had older asked)

-- the same of the file that a name leads to, whose folder is open
abbrev pub HasGrowing : {D F G : Type 0} → (List ℕ → List ℕ → Type 0) → (F → Opened) → (G → List ℕ) → Growing D F G → List Asked → Type 0
HasGrowing leads opened folder_of growing asked = LeadsTo leads (string_bytes growing.name) (string_bytes growing.path)
    × (folder_of growing.folder ≡ string_bytes growing.path) × ((had : List ℕ) × IsGrowing opened had growing asked)

-- a store has nothing for a growth, or the file that grows and its copy as these calls left them
abbrev pub IsReady : {D F G : Type 0} → (List ℕ → List ℕ → Type 0) → (F → Opened) → (G → List ℕ) → Option (Growing D F G) → List Asked → Type 0
IsReady leads opened folder_of growing asked = IfSome growing (λ file. HasGrowing leads opened folder_of file asked)

-- what may be asked to open the file that a name leads to
abbrev pub MayOpen : (List ℕ → List ℕ → Type 0) → List ℕ → Call → List Asked → Type 0
MayOpen leads name call before = (path : List ℕ) × (bytes : List ℕ) × LeadsTo leads name path × (call ≡ Open path bytes)

-- what may be asked to make the file that a name leads to grow: to replace it by one of some bytes
abbrev pub MayGrow : (List ℕ → List ℕ → Type 0) → List ℕ → Call → List Asked → Type 0
MayGrow leads name call before = (path : List ℕ) × (bytes : List ℕ) × LeadsTo leads name path × MayReplace path bytes call before

-- a file is opened, or a name taken away
abbrev pub IsOpening : Call → List Asked → Type 0
IsOpening call before = ((path : List ℕ) × (bytes : List ℕ) × (call ≡ Open path bytes)) ⊎ ((name : List ℕ) × (call ≡ Remove name))

-- Once a file was opened, if that, the file of the path that a name leads to had some bytes; and then it was replaced by one of these with a
-- piece in front, in place of as many, and another at the end, which is on disk.
abbrev pub HasExtended : (List ℕ → List ℕ → Type 0) → (name front tail : List ℕ) → (before after : List Asked) → Type 0
HasExtended leads name front tail before after = (path : List ℕ) × (had : List ℕ) × (opened : List Asked) × LeadsTo leads name path × Adds IsOpening before opened
    × (bytes_under path opened ≡ Some had) × Adds (MayReplace path (grown front tail had)) opened after × IsOnDisk path (grown front tail had) after
