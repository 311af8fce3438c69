-- What becomes of the file of a job while the job may have arrived, and after that: at each moment it has a name on disk that says so.
use Rattle.std.specs.Prelude.{◌≡◌, ◌⊎◌, ℕ, List, ◌++◌, true, codes}
use Rattle.rje_day.specs.declared.disposition.Disposition.{Disposition}
use Rattle.rje_store.specs.Disk.{Asked, Call, OpenLock, Remove, SyncFolder, standing, has_synced_name}
use Rattle.rje_folder.specs.declared.file_identity.FileIdentity.{FileIdentity}
use Rattle.rje_folder.specs.declared.folder.Folder.{Folder}
use Rattle.rje_folder.specs.FileNames.{IsNamedAfter, IsNumbered}
use Rattle.rje_folder.specs.Folder.{has_hidden_names, path_in, path_of}
use Rattle.rje_folder.specs.Keeping.{IsTemporary}
use Rattle.rje_folder.specs.Moving.{MayDrop, MayMove}
use Rattle.rje_folder.specs.TakingOut.{MayTakeOut}
use Rattle.rje_folder.specs.Trying.{MayAddOf}

-- a file in out/: its name there, and which file it is
pub record OutFile : Type 0 where
  pub name : List ℕ
  pub file : FileIdentity

-- What may be asked before the last block of a job is said: to give its file, in out/, a second name, in doubt/. So no other file gets that one,
-- whatever takes the name in out/.
abbrev pub MayPromise : (is_file : List Asked → List ℕ → FileIdentity → Type 0) → (are_one : List Asked → List ℕ → List ℕ → Type 0) → (station : List ℕ) → OutFile → Call → List Asked → Type 0
MayPromise is_file are_one station out call before =
    MayAddOf is_file are_one (record { folder = path_of station Folder.Doubt; name = path_in station Folder.Out out.name; file = out.file }) (IsNumbered (path_in station Folder.Doubt out.name)) call before

-- What may be asked once it is known what becomes of the job. If it was counted, to move its file from doubt/ to sent/, and to take the name in out/
-- away once the one in sent/ is on disk. If it is in doubt, to take the name in out/ away once the one in doubt/ is on disk. If it lies ready still,
-- to take the name in doubt/ away once the one in out/ is.
abbrev pub MaySettle : (List Asked → List ℕ → List ℕ → Type 0) → (station name doubt : List ℕ) → Disposition → Call → List Asked → Type 0
MaySettle are_one station name doubt Disposition.Sent call before = MayMove are_one doubt (IsNumbered (path_in station Folder.Sent name)) call before
    ⊎ ((sent : List ℕ) × IsNumbered (path_in station Folder.Sent name) sent × MayTakeOut are_one station name sent call before)
MaySettle are_one station name doubt Disposition.InDoubt call before = MayTakeOut are_one station name doubt call before
MaySettle are_one station name doubt Disposition.Ready call before = MayDrop are_one (path_in station Folder.Out name) doubt call before

-- the file that stood under the name in doubt/ stands under this one in sent/, on disk
abbrev pub IsSent : (station name doubt sent : List ℕ) → List Asked → List Asked → Type 0
IsSent station name doubt sent before after = IsNumbered (path_in station Folder.Sent name) sent × (standing sent after ≡ standing doubt before) × (has_synced_name sent after ≡ true)

-- What may be asked to put a file of out/ aside: to give it a second name, in refused/, and, once that is on disk, to take the one in out/ away.
abbrev pub MayPutAside : (is_file : List Asked → List ℕ → FileIdentity → Type 0) → (are_one : List Asked → List ℕ → List ℕ → Type 0) → (station : List ℕ) → OutFile → Call → List Asked → Type 0
MayPutAside is_file are_one station out call before =
    MayAddOf is_file are_one (record { folder = path_of station Folder.Refused; name = path_in station Folder.Out out.name; file = out.file }) (IsNumbered (path_in station Folder.Refused out.name)) call before
    ⊎ ((refused : List ℕ) × IsNumbered (path_in station Folder.Refused out.name) refused × MayTakeOut are_one station out.name refused call before)

-- a path is one that a file of this name gets in sent/, doubt/ or refused/
abbrev pub IsKeptElsewhere : (station name path : List ℕ) → Type 0
IsKeptElsewhere station name path = IsNamedAfter (path_in station Folder.Sent name) path ⊎ IsNamedAfter (path_in station Folder.Doubt name) path ⊎ IsNamedAfter (path_in station Folder.Refused name) path

-- What may be asked to bring to its end what was begun: to take the name in out/ away from a file that has one in sent/, doubt/ or refused/ too, once
-- that is on disk, so that another file which has got the name keeps it; and the name in doubt/ from a file that has one in sent/ too, where both are
-- of one name, with a number or without.
abbrev pub MayTidy : (List Asked → List ℕ → List ℕ → Type 0) → (station : List ℕ) → Call → List Asked → Type 0
MayTidy are_one station call before = ((name kept : List ℕ) × IsKeptElsewhere station name kept × MayTakeOut are_one station name kept call before)
    ⊎ ((name kept doubt : List ℕ) × IsNamedAfter (path_in station Folder.Sent name) kept × IsNamedAfter (path_in station Folder.Doubt name) doubt × MayDrop are_one kept doubt call before)

-- The path that the file of a job has once that is done: one in sent/; the one in doubt/; or the one in out/, but the one in doubt/ still where another
-- file has the name in out/.
abbrev pub IsSettled : Disposition → (station name doubt path : List ℕ) → Type 0
IsSettled Disposition.Sent station name doubt path = IsNumbered (path_in station Folder.Sent name) path
IsSettled Disposition.InDoubt station name doubt path = path ≡ doubt
IsSettled Disposition.Ready station name doubt path = (path ≡ path_in station Folder.Out name) ⊎ (path ≡ doubt)

-- the path of the file that a station locks
abbrev pub lock_path : (station : List ℕ) → List ℕ
lock_path station = station ++ codes "/lock"

-- what may be asked to clear a folder in which a station makes new files: to take a name away under which one was made that was not done
abbrev pub MayClear : (station : List ℕ) → Call → List Asked → Type 0
MayClear station call before = (folder : Folder) × (has_hidden_names folder ≡ true) × ((name : List ℕ) × IsTemporary (path_of station folder) name × (call ≡ Remove name))

-- what may be asked to take a file of cut/ away: that, once the disk said that it is this one
abbrev pub MayDropCut : (is_file : List Asked → List ℕ → FileIdentity → Type 0) → (path : List ℕ) → FileIdentity → Call → List Asked → Type 0
MayDropCut is_file path file call before = (call ≡ Remove path) × is_file before path file

-- what may be asked to have the folder of a station: to put the names of its folders on disk, to open the file that is locked, to clear the folders,
-- and to tidy up
abbrev pub MayOpen : (List Asked → List ℕ → List ℕ → Type 0) → (station : List ℕ) → Call → List Asked → Type 0
MayOpen are_one station call before = (call ≡ OpenLock (lock_path station)) ⊎ MayClear station call before ⊎ MayTidy are_one station call before ⊎ (call ≡ SyncFolder (path_of station Folder.Out))

-- a name was on disk at one moment before these calls ended
abbrev pub WasOnDisk : (name : List ℕ) → List Asked → Type 0
WasOnDisk name after = (moment later : List Asked) × (after ≡ later ++ moment) × (has_synced_name name moment ≡ true)
