-- What a disk was asked about files, the last call first, and what stands on it by these calls.
use Rattle.std.specs.Prelude.{◌≡◌, ℕ, ◌+◌, List, [], ◌∷◌, ◌++◌, ◌||◌, length, take, drop, Option, Some, None, IfSome, Result, Ok, Err, Bool, true, false, nat_eq, nat_lt, bytes_eq, if◌then◌else◌, option_and_then, unwrap_or}
use Rattle.std.specs.IoError.{error_kind}
use Rattle.std.specs.declared.io.Error.{Error}
use Rattle.std.specs.declared.io.ErrorKind.{ErrorKind}
use Rattle.rje_store.specs.declared.new_access.NewAccess.{NewAccess}

-- an open file: the name that it was opened under, and the number by which it is known: how many calls there were before it was first seen
pub record Opened : Type 0 where
  pub name : List ℕ
  pub number : ℕ

-- what a disk is asked
pub data Call : Type 0 where
  -- to make a new, empty file under a name that no file has, for those who may use it so far
  Create : (access : NewAccess) → (name : List ℕ) → Call
  -- to open the file under a name, which has these bytes
  Open : (name bytes : List ℕ) → Call
  -- to open the file under a name, an empty one where there is none, for its lock
  OpenLock : (name : List ℕ) → Call
  -- to give a file its owner and its group; and its mode
  SetOwner : (file : Opened) → Call
  SetMode : (file : Opened) → Call
  -- to write these bytes into an empty file
  Fill : (file : Opened) → (bytes : List ℕ) → Call
  -- to make a file that has as many bytes as `place` go on as another one does from there, and then with these bytes
  GoOn : (file from : Opened) → (place : ℕ) → (bytes : List ℕ) → Call
  -- to write these bytes at a place of a file
  WriteAt : (file : Opened) → (place : ℕ) → (bytes : List ℕ) → Call
  -- to put a file on disk; or its bytes alone
  Sync : (file : Opened) → Call
  SyncBytes : (file : Opened) → Call
  -- to give the file under one name another name, in place of the file there
  Rename : (from to : List ℕ) → Call
  -- to give the file under one name a second name, that no file has
  Link : (from to : List ℕ) → Call
  -- to take a name away
  Remove : (name : List ℕ) → Call
  -- to put the names on disk that stand in the folder of the file of this path
  SyncFolder : (path : List ℕ) → Call
  -- to write these bytes to the device or the pipe under a name
  WriteDevice : (name bytes : List ℕ) → Call

-- what came of it: it was done; the system does no such thing; or it failed, and may be done, in part or whole
pub data Asked : Type 0 where
  Done : Call → Asked
  Refused : Call → Asked
  Failed : Call → Asked

-- a call that failed with an error of this kind: one of an invalid input is one that the system doesn't know
abbrev pub failed_by : ErrorKind → Call → Asked
failed_by ErrorKind.InvalidInput call = Refused call
failed_by _ call = Failed call

-- what came of a call with this result
abbrev pub came_to : {A : Type 0} → Result A Error → Call → Asked
came_to (Ok _) call = Done call
came_to (Err error) call = failed_by (error_kind error) call

-- what was asked, whatever came of it
abbrev pub call_of : Asked → Call
call_of (Done call) = call
call_of (Refused call) = call
call_of (Failed call) = call

-- the call writes to this file
abbrev pub writes : ℕ → Call → Bool
writes number (Fill file _) = nat_eq number file.number
writes number (GoOn file _ _ _) = nat_eq number file.number
writes number (WriteAt file _ _) = nat_eq number file.number
writes number _ = false

-- the call writes to this file, or gives it its owner or its mode
abbrev pub changes : ℕ → Call → Bool
changes number (SetOwner file) = nat_eq number file.number
changes number (SetMode file) = nat_eq number file.number
changes number call = writes number call

-- the call takes this name away from the file that has it
abbrev pub takes : List ℕ → Call → Bool
takes name (Rename from to) = bytes_eq name from || bytes_eq name to
takes name (Remove other) = bytes_eq name other
takes name _ = false

-- the call changes what stands under this name
abbrev pub names : List ℕ → Call → Bool
names name (Create _ other) = bytes_eq name other
names name (OpenLock other) = bytes_eq name other
names name (Link _ to) = bytes_eq name to
names name call = takes name call

-- the file that stands under a name after these calls, where they show it
abbrev pub standing : List ℕ → List Asked → Option ℕ
standing name [] = None
standing name (Done (Create _ other) ∷ before) = if bytes_eq name other then Some (length before) else standing name before
standing name (Done (OpenLock other) ∷ before) = if bytes_eq name other then Some (unwrap_or (standing other before) (length before)) else standing name before
standing name (Done (Open other _) ∷ before) = if bytes_eq name other then Some (unwrap_or (standing other before) (length before)) else standing name before
standing name (Done (Link from to) ∷ before) = if bytes_eq name to then standing from before else standing name before
standing name (Done (Rename from to) ∷ before) = if bytes_eq name to then standing from before else (if bytes_eq name from then None else standing name before)
standing name (Done (Remove other) ∷ before) = if bytes_eq name other then None else standing name before
standing name (Done _ ∷ before) = standing name before
standing name (Refused call ∷ before) = if takes name call then None else standing name before
standing name (Failed call ∷ before) = if takes name call then None else standing name before

-- the number of the file under a name that is opened after these calls: the one that it has, or a new one
abbrev pub seen_as : List ℕ → List Asked → ℕ
seen_as name before = unwrap_or (standing name before) (length before)

-- a file that is empty and is written has these bytes
abbrev pub filled : List ℕ → List ℕ → Option (List ℕ)
filled bytes [] = Some bytes
filled bytes (_ ∷ _) = None

-- a file that goes on from `place` as another one, and then with these bytes
abbrev pub gone_on : (place : ℕ) → (from bytes had : List ℕ) → Option (List ℕ)
gone_on place from bytes had = if nat_eq (length had) place then Some (had ++ (drop place from ++ bytes)) else None

-- a file with these bytes at a place of it, in place of what it had there
abbrev pub overwritten : (place : ℕ) → (bytes had : List ℕ) → Option (List ℕ)
overwritten place bytes had = if nat_lt (length had) place then None else Some (take place had ++ (bytes ++ drop (place + length bytes) had))

-- the bytes of a file after these calls, where they show them
abbrev pub bytes_of : ℕ → List Asked → Option (List ℕ)
bytes_of number [] = None
bytes_of number (Done (Create _ _) ∷ before) = if nat_eq number (length before) then Some [] else bytes_of number before
bytes_of number (Done (Open other bytes) ∷ before) = if nat_eq number (seen_as other before) then Some bytes else bytes_of number before
bytes_of number (Done (Fill file bytes) ∷ before) =
    if nat_eq number file.number then option_and_then (filled bytes) (bytes_of number before) else bytes_of number before
bytes_of number (Done (GoOn file from place bytes) ∷ before) =
    if nat_eq number file.number then option_and_then (λ had. option_and_then (λ other. gone_on place other bytes had) (bytes_of from.number before)) (bytes_of number before)
    else bytes_of number before
bytes_of number (Done (WriteAt file place bytes) ∷ before) =
    if nat_eq number file.number then option_and_then (overwritten place bytes) (bytes_of number before) else bytes_of number before
bytes_of number (Done _ ∷ before) = bytes_of number before
bytes_of number (Refused call ∷ before) = if writes number call then None else bytes_of number before
bytes_of number (Failed call ∷ before) = if writes number call then None else bytes_of number before

-- all of a file is on disk: it was synced, and not changed after that
abbrev pub is_synced : ℕ → List Asked → Bool
is_synced number [] = false
is_synced number (Done (Sync file) ∷ before) = if nat_eq number file.number then true else is_synced number before
is_synced number (asked ∷ before) = if changes number (call_of asked) then false else is_synced number before

-- the bytes of a file are on disk, if perhaps not its mode
abbrev pub has_synced_bytes : ℕ → List Asked → Bool
has_synced_bytes number [] = false
has_synced_bytes number (Done (Sync file) ∷ before) = if nat_eq number file.number then true else has_synced_bytes number before
has_synced_bytes number (Done (SyncBytes file) ∷ before) = if nat_eq number file.number then true else has_synced_bytes number before
has_synced_bytes number (asked ∷ before) = if writes number (call_of asked) then false else has_synced_bytes number before

-- a name is on disk: since it last changed, the names of its folder were put there, or the folder's file system keeps none to be put there
abbrev pub has_synced_name : List ℕ → List Asked → Bool
has_synced_name path [] = false
has_synced_name path (Done (SyncFolder folder) ∷ before) = if bytes_eq path folder then true else has_synced_name path before
has_synced_name path (Refused (SyncFolder folder) ∷ before) = if bytes_eq path folder then true else has_synced_name path before
has_synced_name path (asked ∷ before) = if names path (call_of asked) then false else has_synced_name path before

-- the file under a name was opened, with what it has then: the bytes that it had after these calls, where they show them
abbrev pub IsOpened : {A : Type 0} → Result A Error → List ℕ → List Asked → List Asked → Type 0
IsOpened result name before after = (bytes : List ℕ) × (after ≡ came_to result (Open name bytes) ∷ before)
    × IfSome (option_and_then (λ number. bytes_of number before) (standing name before)) (λ had. bytes ≡ had)
