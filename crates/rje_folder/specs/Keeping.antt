-- How bytes become a new file of a folder, which is never in the place of another.
use Rattle.std.specs.Prelude.{◌≡◌, ◌⊎◌, ℕ, ◌<◌, ◌≤◌, List, [], ◌∷◌, ◌++◌, length, Some, ⊤, codes, decimal}
use Rattle.rje_store.specs.declared.new_access.NewAccess.{NewAccess}
use Rattle.rje_store.specs.Disk.{Asked, Call, Done, Create, Fill, Sync, Link, Remove, SyncFolder, bytes_of, call_of, standing}
use Rattle.rje_store.specs.Replacing.{IsWhole}

-- the name of a new file of a folder as long as it is written; it begins with a dot, so that whoever reads the folder leaves it alone
abbrev pub IsTemporary : (folder name : List ℕ) → Type 0
IsTemporary folder name = (number : ℕ) × (name ≡ folder ++ (codes "/.rje-" ++ (decimal number ++ codes ".part")))

-- What may be asked, after these calls, to make these bytes a new file of a folder, under one of some names. A file is made for its owner alone,
-- under a name that is left alone, and is written while it is empty; it gets one of the names, which no file has, once it has just the bytes and
-- is on disk; and no name is taken away but the one that is left alone, and one of the names that this file has. Nothing is renamed.
abbrev pub MayKeep : (folder : List ℕ) → (IsNew : List ℕ → Type 0) → (bytes : List ℕ) → Call → List Asked → Type 0
MayKeep folder IsNew bytes (Create NewAccess.Private name) before = IsTemporary folder name
MayKeep folder IsNew bytes (Fill file _) before = IsTemporary folder file.name × (bytes_of file.number before ≡ Some [])
MayKeep folder IsNew bytes (Sync _) before = ⊤
MayKeep folder IsNew bytes (Link from to) before = IsTemporary folder from × IsNew to × IsWhole from bytes before
MayKeep folder IsNew bytes (SyncFolder name) before = IsNew name
MayKeep folder IsNew bytes (Remove name) before = IsTemporary folder name ⊎ (IsNew name × IsWhole name bytes before)
MayKeep folder IsNew bytes _ before = ⊥

-- among the calls that came after those before, a file got this name, which no file had
abbrev pub WasNamed : (name : List ℕ) → (before after : List Asked) → Type 0
WasNamed name before after = (from : List ℕ) × (earlier later : List Asked) × (after ≡ later ++ (Done (Link from name) ∷ (earlier ++ before)))

-- the file under this name was made after these calls, so it is none of the files that there were before
abbrev pub WasMade : (name : List ℕ) → (before after : List Asked) → Type 0
WasMade name before after = (number : ℕ) × (length before ≤ number) × (standing name after ≡ Some number)

-- no name stands for a file that was made after these calls
abbrev pub LeavesNone : (before after : List Asked) → Type 0
LeavesNone before after = (name : List ℕ) (number : ℕ) → standing name after ≡ Some number → number < length before

-- What may be asked to see whether bytes can be kept in a folder: a file is made for its owner alone, under a name that is left alone, is written while
-- it is empty, and put on disk; and such a name is taken away.
abbrev pub MayTryToKeep : (folder : List ℕ) → Call → List Asked → Type 0
MayTryToKeep folder (Create NewAccess.Private name) before = IsTemporary folder name
MayTryToKeep folder (Fill file _) before = IsTemporary folder file.name × (bytes_of file.number before ≡ Some [])
MayTryToKeep folder (Sync _) before = ⊤
MayTryToKeep folder (Remove name) before = IsTemporary folder name
MayTryToKeep folder _ before = ⊥

-- a file of so many bytes was whole and on disk under a name of a folder that is left alone, and the last call was to take that name away
abbrev pub HasTriedToKeep : (folder : List ℕ) → (len : ℕ) → List Asked → Type 0
HasTriedToKeep folder len after = (name bytes : List ℕ) × (moment : List Asked) × (last : Asked) × IsTemporary folder name × (length bytes ≡ len) × IsWhole name bytes moment
    × (after ≡ last ∷ moment) × (call_of last ≡ Remove name)
