-- How this file of a name gets a second one, and no other file that takes its name meanwhile (own profile).
use Rattle.std.specs.Prelude.{◌≡◌, ◌⊎◌, ℕ, List, ◌++◌}
use Rattle.rje_store.specs.Disk.{Asked, Call, Link, Remove}
use Rattle.rje_folder.specs.declared.file_identity.FileIdentity.{FileIdentity}
use Rattle.rje_folder.specs.Keeping.{IsTemporary}
use Rattle.rje_folder.specs.Moving.{MayAdd, MayDrop}

-- a file that is to get a second name: the name that it has, which file it is, and the folder in which it is tried
pub record Trial : Type 0 where
  pub folder : List ℕ
  pub name : List ℕ
  pub file : FileIdentity

-- what may be asked to try whatever has a name: to give it a hidden name in a folder, and to take such a name away
abbrev pub MayTry : (folder name : List ℕ) → Call → List Asked → Type 0
MayTry folder name call before = (tried : List ℕ) × IsTemporary folder tried × ((call ≡ Link name tried) ⊎ (call ≡ Remove tried))

-- What may be asked to give the file that was tried one of some names: to give it a second one, and to take the hidden name away, by itself or once the
-- second one is on disk.
abbrev pub MayNameTried : (are_one : List Asked → List ℕ → List ℕ → Type 0) → (tried : List ℕ) → (IsNew : List ℕ → Type 0) → Call → List Asked → Type 0
MayNameTried are_one tried IsNew call before = MayAdd are_one tried IsNew call before
    ⊎ ((second : List ℕ) × IsNew second × MayDrop are_one second tried call before)
    ⊎ (call ≡ Remove tried)

-- the disk said at one moment before this that a hidden name in a folder is this file's
abbrev pub WasSeen : (is_file : List Asked → List ℕ → FileIdentity → Type 0) → (folder tried : List ℕ) → FileIdentity → List Asked → Type 0
WasSeen is_file folder tried file before = IsTemporary folder tried × ((later moment : List Asked) × (before ≡ later ++ moment) × is_file moment tried file)

-- an open file is locked, and the disk said at one moment before this that it is this one
abbrev pub IsLockedAs : {F : Type 0} → (is_locked : F → Type 0) → (is_open : List Asked → F → FileIdentity → Type 0) → (lock : F) → FileIdentity → List Asked → Type 0
IsLockedAs {F} is_locked is_open lock file before = is_locked lock × ((later moment : List Asked) × (before ≡ later ++ moment) × is_open moment lock file)

-- What may be asked to give this file, and no other, one of some names beside the one that it has: to try whatever has that name; to give it one of those
-- by the hidden name, once the disk said that this is the file's; and to take that one away again, of which the file has the first name still.
abbrev pub MayAddOf : (is_file : List Asked → List ℕ → FileIdentity → Type 0) → (are_one : List Asked → List ℕ → List ℕ → Type 0) → Trial → (IsNew : List ℕ → Type 0) → Call → List Asked → Type 0
MayAddOf is_file are_one t IsNew call before = MayTry t.folder t.name call before
    ⊎ ((tried : List ℕ) × WasSeen is_file t.folder tried t.file before × MayNameTried are_one tried IsNew call before)
    ⊎ ((second : List ℕ) × IsNew second × MayDrop are_one t.name second call before)
