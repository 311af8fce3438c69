-- What is asked step by step, and what names come to.
use Rattle.std.specs.Prelude.{◌≡◌, ◌≢◌, ◌⊎◌, ℕ, ◌<◌, List, [], ◌∷◌, ◌++◌, length, Option, Some, None, true}
use Rattle.rje_store.specs.declared.new_access.NewAccess.{NewAccess}
use Rattle.rje_store.specs.Disk.{Asked, Call, Opened, Done, Create, Fill, Sync, Rename, Link, Remove, standing, bytes_of, is_synced, has_synced_name}
use Rattle.rje_store.specs.Replacing.{IsOnDisk, IsWhole}
use Rattle.rje_store.specs.Inside.Filling.{AddsSync}
use Rattle.rje_folder.specs.declared.file_names.FileNames.{FileNames}
use Rattle.rje_folder.specs.declared.file_names.FileNames.TheVariants.{Of, Numbered}
use Rattle.rje_folder.specs.declared.file_identity.FileIdentity.{FileIdentity}
use Rattle.rje_folder.specs.declared.folder.Folder.{Folder}
use Rattle.rje_folder.specs.declared.reading.FileRead.{FileRead}
use Rattle.rje_folder.specs.Folder.{path_in, path_of}
use Rattle.rje_folder.specs.Keeping.{IsTemporary}
use Rattle.rje_folder.specs.TakenName.{IsTakenPath}
use Rattle.rje_folder.specs.TakingOver.{WasRead}

-- each name stands for what it stood for, and each file is as it was
pub record KeepsFiles (before after : List Asked) : Type 0 where
  pub stands : (name : List ℕ) → standing name after ≡ standing name before
  pub has : (number : ℕ) → bytes_of number after ≡ bytes_of number before
  pub is : (number : ℕ) → is_synced number after ≡ is_synced number before
  pub on : (calls : List Asked) × (after ≡ calls ++ before)

-- the last call gave the file of one name another, which no file had, and those before it left all files as they were
abbrev pub HasLinked : (from to : List ℕ) → List Asked → List Asked → Type 0
HasLinked from to before after = (between : List Asked) × (after ≡ Done (Link from to) ∷ between) × KeepsFiles before between × (standing to between ≡ None)

-- the last call took a name away, which isn't the one that is kept
abbrev pub HasRemoved : (kept name : List ℕ) → List Asked → List Asked → Type 0
HasRemoved kept name before after = (kept ≢ name) × (after ≡ Done (Remove name) ∷ before)

-- a second name of a file was put on disk, and then the hidden one was taken away by which it was tried
abbrev pub HasSpared : (tried second : List ℕ) → List Asked → List Asked → Type 0
HasSpared tried second before after = (moment : List Asked) × AddsSync second before moment × (has_synced_name second moment ≡ true) × HasRemoved second tried moment after

-- the file that was tried got a second name, on disk, and lost the hidden one
abbrev pub HasNamed : (tried second : List ℕ) → List Asked → List Asked → Type 0
HasNamed tried second before after = (moment : List Asked) × HasLinked tried second before moment × HasSpared tried second moment after

-- the file that stood under one name stands under another, on disk, and nothing under the first, if that may not be on disk
abbrev pub IsChanged : (from to : List ℕ) → List Asked → List Asked → Type 0
IsChanged from to before after = (standing to after ≡ standing from before) × (has_synced_name to after ≡ true) × (standing from after ≡ None)

-- the last calls took a name away, and put that on disk; the name isn't the one that is kept
abbrev pub HasTaken : (kept name : List ℕ) → List Asked → List Asked → Type 0
HasTaken kept name before after = (kept ≢ name) × AddsSync name (Done (Remove name) ∷ before) after × (has_synced_name name after ≡ true)

-- what may be asked to make a new file of a folder
abbrev pub MayCreate : (folder : List ℕ) → Call → List Asked → Type 0
MayCreate folder call before = (name : List ℕ) × IsTemporary folder name × (call ≡ Create NewAccess.Private name)

-- the last of these calls made this file, new and empty, under a name of the folder that is left alone
abbrev pub IsNewIn : (folder : List ℕ) → Opened → (name : List ℕ) → List Asked → Type 0
IsNewIn folder file name after = (before : List Asked) × (after ≡ Done (Create NewAccess.Private name) ∷ before) × (file ≡ record { name = name; number = length before }) × IsTemporary folder name

-- what may be asked to write an empty file
abbrev pub MayWrite : Opened → Call → List Asked → Type 0
MayWrite file call before = ((bytes : List ℕ) × (call ≡ Fill file bytes) × (bytes_of file.number before ≡ Some [])) ⊎ (call ≡ Sync file)

-- a new file has these bytes under a name that isn't the one that it was made under, all on disk
abbrev pub IsKept : (temporary name bytes : List ℕ) → List Asked → Type 0
IsKept temporary name bytes after = (name ≢ temporary) × IsOnDisk name bytes after

-- the number of the first name that a file may get
abbrev pub first_number : FileNames → ℕ
first_number (Of name) = 1
first_number (Numbered stem ending first) = first

-- a copy of what was read stands under a name that is left alone, and all of it is on disk
abbrev pub HasCopy : {F : Type 0} → (F → Opened) → (F → Option (List ℕ)) → (is_open : List Asked → F → FileIdentity → Type 0) → (station copy : List ℕ) → FileRead → List Asked → Type 0
HasCopy {F} opened remaining is_open station copy read after = IsTemporary (path_of station Folder.Refused) copy × IsWhole copy read.bytes.items after × WasRead opened remaining is_open read after

-- what may be asked to give whatever stands under a name in out/ a hidden one
abbrev pub MayHide : (station name : List ℕ) → Call → List Asked → Type 0
MayHide station name call before = (hidden : List ℕ) × IsTakenPath station name hidden × (call ≡ Rename (path_in station Folder.Out name) hidden)

-- the last call gave whatever stood under a name in out/ this hidden one
abbrev pub IsHidden : (station name hidden : List ℕ) → List Asked → List Asked → Type 0
IsHidden station name hidden before after = after ≡ Done (Rename (path_in station Folder.Out name) (path_in station Folder.Out hidden)) ∷ before

-- no name but this one stands for a file that was made after these calls
abbrev pub LeavesOne : (path : List ℕ) → (before after : List Asked) → Type 0
LeavesOne path before after = (name : List ℕ) (number : ℕ) → name ≢ path → standing name after ≡ Some number → number < length before
