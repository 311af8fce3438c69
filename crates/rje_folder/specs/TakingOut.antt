-- How the name in out/ is taken away from a file that has another one: it gets a hidden name first, and is taken away under that. So another file that has
-- got the name by then is seen, and has it back (own profile).
use Rattle.std.specs.Prelude.{◌≡◌, ◌≢◌, ◌⊎◌, ◌<◌, ℕ, List, length}
use Rattle.rje_store.specs.Disk.{Asked, Call, Rename, SyncFolder}
use Rattle.rje_folder.specs.declared.folder.Folder.{Folder}
use Rattle.rje_folder.specs.Folder.{path_in}
use Rattle.rje_folder.specs.Moving.{MayDrop, MayMove}
use Rattle.rje_folder.specs.TakenName.{IsTakenPath}

-- What may be asked by way of one hidden name: to give that to whatever has the shown one; to take it away from the file that is kept under its other
-- name; and to give whatever else has it the shown one back. The other name is none of the two.
abbrev pub MayTakeBy : (List Asked → List ℕ → List ℕ → Type 0) → (shown hidden kept : List ℕ) → Call → List Asked → Type 0
MayTakeBy are_one shown hidden kept call before = (kept ≢ shown) × (kept ≢ hidden)
    × ((call ≡ Rename shown hidden) ⊎ MayDrop are_one kept hidden call before ⊎ MayMove are_one hidden (λ name. name ≡ shown) call before)

-- What may be asked to take a name in out/ away from a file that is kept under another one: to put that on disk, and the above; and to take a name
-- away as it is found that is too long for a hidden one.
abbrev pub MayTakeOut : (List Asked → List ℕ → List ℕ → Type 0) → (station name kept : List ℕ) → Call → List Asked → Type 0
MayTakeOut are_one station name kept call before = (call ≡ SyncFolder kept)
    ⊎ ((hidden : List ℕ) × IsTakenPath station name hidden × MayTakeBy are_one (path_in station Folder.Out name) hidden kept call before)
    ⊎ ((237 < length name) × MayDrop are_one kept (path_in station Folder.Out name) call before)
