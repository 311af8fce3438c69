-- How a job is promised: by a second name of its file (own profile).
use Rattle.std.specs.Prelude.{◌≡◌, ◌⊎◌, ℕ, List}
use Rattle.rje_store.specs.Disk.{Asked, Call, Link, Remove, Rename, SyncFolder}
use Rattle.rje_folder.specs.declared.file_identity.FileIdentity.{FileIdentity}
use Rattle.rje_folder.specs.declared.folder.Folder.{Folder}
use Rattle.rje_folder.specs.Folder.{path_in}
use Rattle.rje_settle.specs.declared.promise.Promise.{Promise}
use Rattle.rje_settle.specs.declared.settle_name.SettleName.{SettleName}
use Rattle.rje_accounts.specs.Paths.{settle_path, tried_path}

-- what may be asked to try the file of a name: to give it the name by which it is tried, and to take that away again
abbrev pub MayTry : (name tried : List ℕ) → Call → List Asked → Type 0
MayTry name tried call before = (call ≡ Link name tried) ⊎ (call ≡ Remove tried)

-- What may be asked to give the file that was tried its second name: to rename it while the disk says that it is this file, to put that on disk, and to
-- take it away again.
abbrev pub MayName : (List Asked → List ℕ → FileIdentity → Type 0) → (tried second : List ℕ) → FileIdentity → Call → List Asked → Type 0
MayName is_file tried second file call before =
    ((call ≡ Rename tried second) × is_file before tried file) ⊎ (call ≡ SyncFolder second) ⊎ (call ≡ Remove second)

-- a file that is promised: its name in out/, which file it is, and the promise
pub record Promising : Type 0 where
  pub name : List ℕ
  pub file : FileIdentity
  pub promise : Promise

-- What may be asked before the last block of the job of a promise is said: to try the file of its name in out/, and to give it a second name in settle/
-- that tells its number. So no other file gets that one, whatever takes the name in out/.
abbrev pub MayPromise : (List Asked → List ℕ → FileIdentity → Type 0) → (station : List ℕ) → Promising → Call → List Asked → Type 0
MayPromise is_file station p call before = MayTry (path_in station Folder.Out p.name) (tried_path station) call before
    ⊎ MayName is_file (tried_path station) (settle_path station (SettleName.Out p.promise)) p.file call before

-- what may be asked to take a name away: that, and to put it on disk
abbrev pub MayTakeAway : (path : List ℕ) → Call → List Asked → Type 0
MayTakeAway path call before = (call ≡ Remove path) ⊎ (call ≡ SyncFolder path)
