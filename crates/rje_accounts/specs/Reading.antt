-- How the accounts are read: their names are on disk before that (own profile).
use Rattle.std.specs.Prelude.{◌≡◌, ◌⊎◌, ℕ, List, ◌∷◌}
use Rattle.rje_store.specs.Disk.{Asked, Call, Done, Refused, SyncFolder}
use Rattle.rje_settle.specs.declared.settle_name.SettleName.{SettleName}
use Rattle.rje_accounts.specs.Paths.{settle_folder, settle_path}

-- the last that was asked was to put the names on disk that stand with this one, and it was done, or that folder's file system keeps none to be put
-- there
abbrev pub IsSynced : (path : List ℕ) → (before after : List Asked) → Type 0
IsSynced path before after = (after ≡ Done (SyncFolder path) ∷ before) ⊎ (after ≡ Refused (SyncFolder path) ∷ before)

-- the last that was asked was to put the names in settle/ on disk, and it was done, or could not be
abbrev pub AreSynced : (station : List ℕ) → List Asked → Type 0
AreSynced station after = (name : SettleName) × (before : List Asked) × IsSynced (settle_path station name) before after

-- what may be asked to read them: to put the name of their folder on disk, and theirs
abbrev pub MayRead : (station : List ℕ) → Call → List Asked → Type 0
MayRead station call before = (call ≡ SyncFolder (settle_folder station)) ⊎ ((name : SettleName) × (call ≡ SyncFolder (settle_path station name)))
