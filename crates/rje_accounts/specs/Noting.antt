-- How a count is noted: by an empty file, whose name says it (own profile).
use Rattle.std.specs.Prelude.{◌≡◌, ◌⊎◌, ℕ, List, Some, Bool, true, false, nat_lt}
use Rattle.rje_store.specs.declared.new_access.NewAccess.{NewAccess}
use Rattle.rje_store.specs.Disk.{Asked, Call, Create, Open, Remove, SyncFolder, standing, has_synced_name}
use Rattle.rje_settle.specs.declared.settle_name.SettleName.{SettleName}
use Rattle.rje_accounts.specs.Paths.{settle_path}

-- a file stands under a path, and its name is on disk
abbrev pub IsNoted : (path : List ℕ) → List Asked → Type 0
IsNoted path after = ((number : ℕ) × (standing path after ≡ Some number)) × (has_synced_name path after ≡ true)

-- what may be asked to make an empty file of a path: to make it for its owner alone, and to put its name on disk
abbrev pub MayMake : (path : List ℕ) → Call → List Asked → Type 0
MayMake path call before = (call ≡ Create NewAccess.Private path) ⊎ (call ≡ SyncFolder path)

-- the same, where it may be there already
abbrev pub MayMakeAgain : (path : List ℕ) → Call → List Asked → Type 0
MayMakeAgain path call before = MayMake path call before ⊎ ((bytes : List ℕ) × (call ≡ Open path bytes))

-- a name that tells fewer jobs than another one of its kind
abbrev pub is_older : SettleName → SettleName → Bool
is_older (SettleName.Sent older) (SettleName.Sent newer) = nat_lt older.kept newer.kept
is_older (SettleName.Kept older) (SettleName.Kept newer) = nat_lt older.kept newer.kept
is_older _ _ = false

-- what may be asked once a count is noted: to take a name of fewer jobs away, while that of the count is on disk
abbrev pub MayDropOlder : (station : List ℕ) → SettleName → Call → List Asked → Type 0
MayDropOlder station noted call before = (older : SettleName) × (is_older older noted ≡ true) × (call ≡ Remove (settle_path station older)) × IsNoted (settle_path station noted) before

-- what may be asked to note a count: to make an empty file of its name, and to take those of fewer jobs away after that
abbrev pub MayNote : (station : List ℕ) → SettleName → Call → List Asked → Type 0
MayNote station noted call before = MayMakeAgain (settle_path station noted) call before ⊎ MayDropOlder station noted call before
