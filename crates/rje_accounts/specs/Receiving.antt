-- How a job that came is kept: first it is on disk, and then it is counted (own profile).
use Rattle.std.specs.Prelude.{◌≡◌, ◌⊎◌, ℕ, List, [], Some}
use Rattle.rje_store.specs.declared.new_access.NewAccess.{NewAccess}
use Rattle.rje_store.specs.Disk.{Asked, Call, Opened, Create, Fill, Sync, SyncFolder, bytes_of}
use Rattle.rje_store.specs.Replacing.{IsOnDisk}
use Rattle.rje_settle.specs.declared.receipt.Receipt.{Receipt}
use Rattle.rje_settle.specs.declared.settle_name.SettleName.{SettleName}
use Rattle.rje_accounts.specs.Noting.{MayDropOlder, MayMake}
use Rattle.rje_accounts.specs.Paths.{settle_path}

-- what may be asked to make these bytes a new file of a path: to make it for its owner alone, to write it while it is empty, and to put it and its
-- name on disk
abbrev pub MayReceive : (path bytes : List ℕ) → Call → List Asked → Type 0
MayReceive path bytes call before = (call ≡ Create NewAccess.Private path) ⊎ (call ≡ SyncFolder path)
    ⊎ ((file : Opened) × (file.name ≡ path) × (((call ≡ Fill file bytes) × (bytes_of file.number before ≡ Some [])) ⊎ (call ≡ Sync file)))

-- What may be asked to keep a job, with what is kept from then on: to make its bytes the file come-N; and while that is whole and on disk, as is its
-- name, to note the count, and to take the names of fewer jobs away.
abbrev pub MayKeepJob : (station : List ℕ) → Receipt → (bytes : List ℕ) → Call → List Asked → Type 0
MayKeepJob station now bytes call before = MayReceive (settle_path station (SettleName.Come now.kept)) bytes call before
    ⊎ ((MayMake (settle_path station (SettleName.Kept now)) call before ⊎ MayDropOlder station (SettleName.Kept now) call before)
    × IsOnDisk (settle_path station (SettleName.Come now.kept)) bytes before)
