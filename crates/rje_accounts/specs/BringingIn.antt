-- How a job that was kept gets its name in in/ (own profile).
use Rattle.std.specs.Prelude.{◌≡◌, ◌⊎◌, ℕ, List, true}
use Rattle.rje_store.specs.Disk.{Asked, Call, Rename, SyncFolder, has_synced_name}
use Rattle.rje_folder.specs.declared.folder.Folder.{Folder}
use Rattle.rje_folder.specs.Folder.{path_in}
use Rattle.rje_folder.specs.Moving.{MayDrop}
use Rattle.rje_settle.specs.declared.settle_name.SettleName.{SettleName}
use Rattle.rje_accounts.specs.Paths.{in_path, settle_path}

-- What may be asked to give a file another name in one moment: to rename it, to put the new name on disk, and once that is there, that the old one is
-- gone. So whatever moment power is lost in, the file has one of the two.
abbrev pub MayRename : (from to : List ℕ) → Call → List Asked → Type 0
MayRename from to call before = (call ≡ Rename from to) ⊎ (call ≡ SyncFolder to) ⊎ ((call ≡ SyncFolder from) × (has_synced_name to before ≡ true))

-- What may be asked to bring the job of a number in: to rename come-N to the name that it gets in in/; and where it has a name in in/ already, to take
-- come-N away alone, once that one is on disk and the disk says that both are of one file. So the job never has a second name there.
abbrev pub MayBringIn : (List Asked → List ℕ → List ℕ → Type 0) → (station : List ℕ) → (number : ℕ) → (stamp : List ℕ) → Call → List Asked → Type 0
MayBringIn are_one station number stamp call before = MayRename (settle_path station (SettleName.Come number)) (in_path station stamp number) call before
    ⊎ ((name : List ℕ) × MayDrop are_one (path_in station Folder.In name) (settle_path station (SettleName.Come number)) call before)
