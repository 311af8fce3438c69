-- What is asked step by step.
use Rattle.std.specs.Prelude.{◌≡◌, ◌≢◌, ◌⊎◌, ℕ, List, ◌∷◌, string_bytes, String, true}
use Rattle.std.specs.declared.alloc.Global.{Global}
use Rattle.rje_store.specs.Disk.{Asked, Done, Remove, Rename, call_of, has_synced_name}
use Rattle.rje_store.specs.Inside.Filling.{AddsSync}
use Rattle.rje_folder.specs.declared.folder.Folder.{Folder}
use Rattle.rje_folder.specs.Folder.{path_in}

-- nothing was asked, or a name was to be taken away that isn't the one that is kept, whatever came of it
abbrev pub IsRemovalBeside : (name kept : List ℕ) → List Asked → List Asked → Type 0
IsRemovalBeside name kept before after = (after ≡ before) ⊎ ((kept ≢ name) × ((asked : Asked) × (after ≡ asked ∷ before) × (call_of asked ≡ Remove name)))

-- the file under one name was renamed to another one, which is on disk
abbrev pub IsNamed : (tried second : List ℕ) → List Asked → List Asked → Type 0
IsNamed tried second before after = AddsSync second (Done (Rename tried second) ∷ before) after × (has_synced_name second after ≡ true)

-- a path is that of a file of in/
abbrev pub IsInIn : (station : List ℕ) → String Global → Type 0
IsInIn station path = (name : List ℕ) × (string_bytes path ≡ path_in station Folder.In name)
